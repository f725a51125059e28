-- The tokens of a text of forms, from the paper's section Shapes: "Tokens are brackets, JSON texts, and words or numbers,
-- which run to the next white space, bracket or quote; a broken .. one is 7 at its first byte. JSON white space may stand
-- between tokens." JSON texts and white space are RFC 8259's. What stands behind a broken token is not looked at, as
-- reading ends there. Assumes nothing.
use Rattle.std.specs.Prelude.{ℕ, suc, ◌+◌, ◌≡◌, List, [], ◌∷◌, ◌++◌, length}
use Rattle.definitions.specs.Bytes.{Bytes}
use Rattle.definitions.specs.Tokens.{opening, closing, quoted, word, broken, Placed}
use Rattle.laws.specs.Rfc8259.{ws_char, string}
use Rattle.laws.specs.FormGrammar.{at}

-- ---- words

-- no white space, bracket or quote
pub record WordByte (b : ℕ) : Type 0 where
  pub no_white_space : ws_char b → ⊥
  pub no_opening : b ≡ 0x28 → ⊥
  pub no_closing : b ≡ 0x29 → ⊥
  pub no_quote : b ≡ 0x22 → ⊥

-- each byte is such a one
pub data WordBytes : Bytes → Type 0 where
  no_bytes : WordBytes []
  next_byte : {b : ℕ} {w : Bytes} → WordByte b → WordBytes w → WordBytes (b ∷ w)

-- a word or number has a byte
pub data Word : Bytes → Type 0 where
  a_word : {b : ℕ} {w : Bytes} → WordBytes (b ∷ w) → Word (b ∷ w)

-- it runs to the next white space, bracket or quote, or to the end
pub data WordEnd : Bytes → Type 0 where
  at_the_end : WordEnd []
  at_a_border : {b : ℕ} {r : Bytes} → (WordByte b → ⊥) → WordEnd (b ∷ r)

-- ---- tokens

-- s, which stands from place p on, has these tokens
pub data TokensOf : (p : ℕ) → Bytes → List Placed → Type 0 where
  no_tokens : {p : ℕ} → TokensOf p [] []
  white_space : {p b : ℕ} {s : Bytes} {ts : List Placed} → ws_char b → TokensOf (suc p) s ts → TokensOf p (b ∷ s) ts
  opening_bracket
      : {p : ℕ} {s : Bytes} {ts : List Placed} → TokensOf (suc p) s ts → TokensOf p (0x28 ∷ s) (at p opening ∷ ts)
  closing_bracket
      : {p : ℕ} {s : Bytes} {ts : List Placed} → TokensOf (suc p) s ts → TokensOf p (0x29 ∷ s) (at p closing ∷ ts)
  -- a JSON text, of the bytes pre
  json_text
      : {p : ℕ} {s t r : Bytes} {ts : List Placed} (pre : Bytes) → string s t r → s ≡ pre ++ r
      → TokensOf (p + length pre) r ts → TokensOf p s (at p (quoted t) ∷ ts)
  -- a quote that begins none
  broken_text
      : {p : ℕ} {s : Bytes} → ((t r : Bytes) → string (0x22 ∷ s) t r → ⊥) → TokensOf p (0x22 ∷ s) (at p broken ∷ [])
  a_word_token
      : {p : ℕ} {w s r : Bytes} {ts : List Placed} → Word w → WordEnd r → s ≡ w ++ r → TokensOf (p + length w) r ts
      → TokensOf p s (at p (word w) ∷ ts)
