-- RFC 3629: section 4, the syntax of UTF-8 byte sequences, rule by rule with the RFC's names, and section 3, the octets of a
-- character number, row by row. `X s t r` says that s begins with an X made of the bytes t, and that r is left. Assumes
-- nothing.
use Rattle.std.specs.Prelude.{ℕ, ◌+◌, ◌-◌, ◌*◌, ◌≤◌, ◌≡◌, List, [], ◌∷◌}

-- ---- section 4: syntax of UTF-8 byte sequences

-- %xlo-hi
pub record In (lo hi b : ℕ) : Type 0 where
  pub from : lo ≤ b
  pub to : b ≤ hi

-- UTF8Tail = %x80-BF
abbrev pub UTF8Tail : ℕ → Type 0
UTF8Tail b = In 0x80 0xBF b

-- UTF81 = %x00-7F
pub data UTF81 : List ℕ → List ℕ → List ℕ → Type 0 where
  utf8_1 : {a : ℕ} {r : List ℕ} → In 0x00 0x7F a → UTF81 (a ∷ r) (a ∷ []) r

-- UTF82 = %xC2-DF UTF8Tail
pub data UTF82 : List ℕ → List ℕ → List ℕ → Type 0 where
  utf8_2 : {a b : ℕ} {r : List ℕ} → In 0xC2 0xDF a → UTF8Tail b → UTF82 (a ∷ b ∷ r) (a ∷ b ∷ []) r

-- UTF83 = %xE0 %xA0-BF UTF8Tail / %xE1-EC 2( UTF8Tail ) / %xED %x80-9F UTF8Tail / %xEE-EF 2( UTF8Tail )
pub data UTF83 : List ℕ → List ℕ → List ℕ → Type 0 where
  utf8_3a : {a b c : ℕ} {r : List ℕ} → In 0xE0 0xE0 a → In 0xA0 0xBF b → UTF8Tail c → UTF83 (a ∷ b ∷ c ∷ r) (a ∷ b ∷ c ∷ []) r
  utf8_3b : {a b c : ℕ} {r : List ℕ} → In 0xE1 0xEC a → UTF8Tail b → UTF8Tail c → UTF83 (a ∷ b ∷ c ∷ r) (a ∷ b ∷ c ∷ []) r
  utf8_3c : {a b c : ℕ} {r : List ℕ} → In 0xED 0xED a → In 0x80 0x9F b → UTF8Tail c → UTF83 (a ∷ b ∷ c ∷ r) (a ∷ b ∷ c ∷ []) r
  utf8_3d : {a b c : ℕ} {r : List ℕ} → In 0xEE 0xEF a → UTF8Tail b → UTF8Tail c → UTF83 (a ∷ b ∷ c ∷ r) (a ∷ b ∷ c ∷ []) r

-- UTF84 = %xF0 %x90-BF 2( UTF8Tail ) / %xF1-F3 3( UTF8Tail ) / %xF4 %x80-8F 2( UTF8Tail )
pub data UTF84 : List ℕ → List ℕ → List ℕ → Type 0 where
  utf8_4a
      : {a b c d : ℕ} {r : List ℕ} → In 0xF0 0xF0 a → In 0x90 0xBF b → UTF8Tail c → UTF8Tail d
      → UTF84 (a ∷ b ∷ c ∷ d ∷ r) (a ∷ b ∷ c ∷ d ∷ []) r
  utf8_4b
      : {a b c d : ℕ} {r : List ℕ} → In 0xF1 0xF3 a → UTF8Tail b → UTF8Tail c → UTF8Tail d
      → UTF84 (a ∷ b ∷ c ∷ d ∷ r) (a ∷ b ∷ c ∷ d ∷ []) r
  utf8_4c
      : {a b c d : ℕ} {r : List ℕ} → In 0xF4 0xF4 a → In 0x80 0x8F b → UTF8Tail c → UTF8Tail d
      → UTF84 (a ∷ b ∷ c ∷ d ∷ r) (a ∷ b ∷ c ∷ d ∷ []) r

-- UTF8Char = UTF81 / UTF82 / UTF83 / UTF84
pub data UTF8Char (s t r : List ℕ) : Type 0 where
  char_1 : UTF81 s t r → UTF8Char s t r
  char_2 : UTF82 s t r → UTF8Char s t r
  char_3 : UTF83 s t r → UTF8Char s t r
  char_4 : UTF84 s t r → UTF8Char s t r

-- UTF8Octets = *( UTF8Char ), to the end
pub data UTF8Octets : List ℕ → Type 0 where
  no_octets : UTF8Octets []
  octets : {s t r : List ℕ} → UTF8Char s t r → UTF8Octets r → UTF8Octets s

-- ---- section 3: UTF-8 definition

-- Char. number range | UTF-8 octet sequence: the bits x are the number's. The octets are section 4's, which leave out
-- sequences longer than needed, D800-DFFF and what is above 10FFFF
pub data Encodes (n : ℕ) : List ℕ → Type 0 where
  -- 0000 0000-0000 007F | 0xxxxxxx
  one_octet : n ≤ 0x7F → Encodes n (n ∷ [])
  -- 0000 0080-0000 07FF | 110xxxxx 10xxxxxx
  two_octets
      : {a b : ℕ} → UTF82 (a ∷ b ∷ []) (a ∷ b ∷ []) []
      → n ≡ (a - 0xC0) * 64 + (b - 0x80) → Encodes n (a ∷ b ∷ [])
  -- 0000 0800-0000 FFFF | 1110xxxx 10xxxxxx 10xxxxxx
  three_octets
      : {a b c : ℕ} → UTF83 (a ∷ b ∷ c ∷ []) (a ∷ b ∷ c ∷ []) []
      → n ≡ (a - 0xE0) * 4096 + (b - 0x80) * 64 + (c - 0x80) → Encodes n (a ∷ b ∷ c ∷ [])
  -- 0001 0000-0010 FFFF | 11110xxx 10xxxxxx 10xxxxxx 10xxxxxx
  four_octets
      : {a b c d : ℕ} → UTF84 (a ∷ b ∷ c ∷ d ∷ []) (a ∷ b ∷ c ∷ d ∷ []) []
      → n ≡ (a - 0xF0) * 262144 + (b - 0x80) * 4096 + (c - 0x80) * 64 + (d - 0x80) → Encodes n (a ∷ b ∷ c ∷ d ∷ [])
