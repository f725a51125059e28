-- Bytes stepped through inside a JSON string are RFC 8259's `char`s: what is left of a character at each place. Assumes
-- nothing.
use Rattle.std.specs.Prelude.{ℕ, suc, ◌+◌, ◌*◌, ◌≤◌, ◌<◌, ◌≡◌, refl, ◌⊎◌, true, false, leb, ltb, eqb}
use Rattle.std.proofs.Common.{sym, ◌∙◌, subst, inl, inr, arith}
use mathlib.Core.List.{[], ◌∷◌, ◌++◌, reverse_aux, reverse_aux-append}
use Rattle.std.proofs.Math.Option.{Option, none, some}
use Rattle.definitions.specs.Bytes.{Bytes}
use Rattle.definitions.specs.Utf8.{encode}
use Rattle.definitions.specs.Text.{Inside, tail, pair, pair_u, digit_fits, pair_of}
use Rattle.laws.specs.Bools.{tell, and_left, not_true}
use Rattle.laws.specs.Ranges.{leb_le, leb_gt, eqb_eq, eq-eqb}
use Rattle.laws.specs.Rfc3629.{In, utf8_2, utf8_3a, utf8_3b, utf8_3c, utf8_3d, utf8_4a, utf8_4b, utf8_4c, Encodes}
use Rattle.laws.specs.Rfc8259 as Rfc
use Rattle.laws.specs.EncodeLaws.{encode_encodes}
use Rattle.laws.specs.Steps.{TextSteps, text_stay, text_then}
use Rattle.laws.proofs.StringRows.{Heads, head_c2, head_e0, head_e1, head_ed, head_ee, head_f0, head_f1, head_f4}
use Rattle.laws.proofs.StringSteps.{Move, plain, head, last_tail, next_tail, backslash, short, hex}
use Rattle.laws.proofs.StringSteps.{digit, high, alone, low, pair_backslash, pair_hex, step_move}

-- ---- digits

-- the hexadecimal digits behind n others of value c, up to the fourth; v is their value
data Hexes (o : Option ℕ) : ℕ → ℕ → Bytes → ℕ → Bytes → Type 0 where
  last_digit
      : {n c b d : ℕ} {s : Bytes} → Rfc.HEXDIG b d → digit_fits o n c d ≡ true → 3 ≤ n → Hexes o n c (b ∷ s) (c * 16 + d) s
  more_digits
      : {n c b d v : ℕ} {s u : Bytes} → Rfc.HEXDIG b d → digit_fits o n c d ≡ true → n < 3
      → Hexes o (suc n) (c * 16 + d) s v u → Hexes o n c (b ∷ s) v u

pub hexdig_under : {b d : ℕ} → Rfc.HEXDIG b d → d < 16
hexdig_under (Rfc.hex_digit i) = omega arith
hexdig_under (Rfc.hex_upper i) = omega arith
hexdig_under (Rfc.hex_lower i) = omega arith

unicode_under : {s r : Bytes} {c : ℕ} → Rfc.unicode s c r → c < 0x10000
unicode_under (Rfc.hex_4 {i} {j} {k} {l} x y z w) =
    let a : i < 16 = hexdig_under x in
    let b : j < 16 = hexdig_under y in
    let c : k < 16 = hexdig_under z in
    let d : l < 16 = hexdig_under w in
    omega arith

-- four digits, and that the first two fit
data Four (o : Option ℕ) : Bytes → ℕ → Bytes → Type 0 where
  four
      : {a b c d i j k l : ℕ} {r : Bytes} → Rfc.HEXDIG a i → Rfc.HEXDIG b j → Rfc.HEXDIG c k → Rfc.HEXDIG d l
      → digit_fits o 0 0 i ≡ true → digit_fits o 1 (0 * 16 + i) j ≡ true
      → Four o (a ∷ b ∷ c ∷ d ∷ r) ((((0 * 16 + i) * 16 + j) * 16 + k) * 16 + l) r

hexes_1
    : {o : Option ℕ} {a b c i j k : ℕ} {s u : Bytes} {v : ℕ} → Rfc.HEXDIG a i → Rfc.HEXDIG b j → Rfc.HEXDIG c k
    → digit_fits o 0 0 i ≡ true → digit_fits o 1 (0 * 16 + i) j ≡ true
    → Hexes o 3 (((0 * 16 + i) * 16 + j) * 16 + k) s v u → Four o (a ∷ b ∷ c ∷ s) v u
hexes_1 x y z f g (last_digit w i o) = four x y z w f g
hexes_1 x y z f g (more_digits w i o t) = absurd (let z : ⊥ = omega arith in z)

hexes_2
    : {o : Option ℕ} {a b i j : ℕ} {s u : Bytes} {v : ℕ} → Rfc.HEXDIG a i → Rfc.HEXDIG b j → digit_fits o 0 0 i ≡ true
    → digit_fits o 1 (0 * 16 + i) j ≡ true → Hexes o 2 ((0 * 16 + i) * 16 + j) s v u → Four o (a ∷ b ∷ s) v u
hexes_2 x y f g (last_digit z h n) = absurd (let z : ⊥ = omega arith in z)
hexes_2 x y f g (more_digits z h n t) = hexes_1 x y z f g t

hexes_3
    : {o : Option ℕ} {a i : ℕ} {s u : Bytes} {v : ℕ} → Rfc.HEXDIG a i → digit_fits o 0 0 i ≡ true → Hexes o 1 (0 * 16 + i) s v u
    → Four o (a ∷ s) v u
hexes_3 x f (last_digit y g m) = absurd (let z : ⊥ = omega arith in z)
hexes_3 x f (more_digits y g m t) = hexes_2 x y f g t

hexes_four : {o : Option ℕ} {s u : Bytes} {v : ℕ} → Hexes o 0 0 s v u → Four o s v u
hexes_four (last_digit x f l) = absurd (let z : ⊥ = omega arith in z)
hexes_four (more_digits x f l t) = hexes_3 x f t

four_unicode : {o : Option ℕ} {s u : Bytes} {v : ℕ} → Four o s v u → Rfc.unicode (0x5C ∷ 0x75 ∷ s) v u
four_unicode (four {a} {b} {c} {d} {i} {j} {k} {l} {r} x y z w f g) =
    subst (λ v. Rfc.unicode (0x5C ∷ 0x75 ∷ a ∷ b ∷ c ∷ d ∷ r) v r) (omega arith) (Rfc.hex_4 x y z w)

-- no low surrogate comes by itself
alone_fits : (c d : ℕ) → digit_fits none 1 c d ≡ true → c ≡ 0xD → d < 0xC
unfolding digit_fits
alone_fits c d f e = leb_gt (not_true (leb 0xC d) (rw (eq-eqb e) at f))

four_alone : {s u : Bytes} {v : ℕ} → Four none s v u → In 0xDC00 0xDFFF v → ⊥
four_alone (four {i} {j} {k} {l} x y z w f g) n =
    let a : i < 16 = hexdig_under x in
    let b : j < 16 = hexdig_under y in
    let c : k < 16 = hexdig_under z in
    let d : l < 16 = hexdig_under w in
    let e : 0 * 16 + i ≡ 0xD = omega arith in
    let h : j < 0xC = alone_fits (0 * 16 + i) j g e in
    omega arith

-- behind a high surrogate comes a low one
first_fits : (h c d : ℕ) → digit_fits (some h) 0 c d ≡ true → d ≡ 0xD
unfolding digit_fits
first_fits h c d f = eqb_eq (and_left (eqb d 0xD) true f)

second_fits : (h c d : ℕ) → digit_fits (some h) 1 c d ≡ true → 0xC ≤ d
unfolding digit_fits
second_fits h c d f = leb_le f

four_low : {s u : Bytes} {h v : ℕ} → Four (some h) s v u → In 0xDC00 0xDFFF v
four_low {h} (four {i} {j} {k} {l} x y z w f g) =
    let b : j < 16 = hexdig_under y in
    let c : k < 16 = hexdig_under z in
    let d : l < 16 = hexdig_under w in
    let e : i ≡ 0xD = first_fits h 0 i f in
    let m : 0xC ≤ j = second_fits h (0 * 16 + i) j g in
    record { from = omega arith; to = omega arith }

-- ---- what is left at each place: of a character, and then more of them; the text's bytes are acc in the end

-- the bytes up to the end of a UTF-8 character
data TailBytes : ℕ → ℕ → ℕ → Bytes → Bytes → Bytes → Type 0 where
  one_tail : {lo hi b : ℕ} {s : Bytes} → In lo hi b → TailBytes lo hi 0 (b ∷ s) (b ∷ []) s
  more_tails
      : {lo hi n b : ℕ} {s t u : Bytes} → In lo hi b → TailBytes 0x80 0xBF n s t u → TailBytes lo hi (suc n) (b ∷ s) (b ∷ t) u

abbrev LeftChars : Bytes → Bytes → Bytes → Bytes → Type 0
LeftChars a acc q s = (t : Bytes) × Rfc.chars s t q × (acc ≡ reverse_aux t a)

-- behind a high surrogate
abbrev LeftLow : Bytes → Bytes → Bytes → ℕ → Bytes → Type 0
LeftLow a acc q h s =
    (l : ℕ) × (u : Bytes) × Rfc.unicode s l u × In 0xDC00 0xDFFF l × LeftChars (reverse_aux (encode (pair_of h l)) a) acc q u

abbrev LeftDigits : Bytes → Bytes → Bytes → (o : Option ℕ) → ℕ → Bytes → Type 0
LeftDigits a acc q none v u =
    ((In 0xD800 0xDBFF v → ⊥) × LeftChars (reverse_aux (encode v) a) acc q u) ⊎ (In 0xD800 0xDBFF v × LeftLow a acc q v u)
LeftDigits a acc q (some h) v u = LeftChars (reverse_aux (encode (pair_of h v)) a) acc q u

abbrev Left : Bytes → Bytes → Inside → Bytes → Bytes → Type 0
Left acc q Inside.chars a s = LeftChars a acc q s
Left acc q (tail lo hi n) a s = (t u : Bytes) × TailBytes lo hi n s t u × LeftChars (reverse_aux t a) acc q u
Left acc q Inside.escape a s = (t u : Bytes) × Rfc.char (0x5C ∷ s) t u × LeftChars (reverse_aux t a) acc q u
Left acc q (Inside.digits o n c) a s = (v : ℕ) × (u : Bytes) × Hexes o n c s v u × LeftDigits a acc q o v u
Left acc q (pair h) a s = LeftLow a acc q h s
Left acc q (pair_u h) a s = LeftLow a acc q h (0x5C ∷ s)

-- ---- each step gives one part

char_left : {a acc q s u : Bytes} (t : Bytes) → Rfc.char s t u → LeftChars (reverse_aux t a) acc q u → LeftChars a acc q s
char_left {a} t c k = (t ++ k.0, Rfc.more_chars c k.1, k.2 ∙ sym (reverse_aux-append t k.0 a))

pub plain_char : {b : ℕ} {s : Bytes} → In 0x20 0x7F b → (b ≡ 0x22 → ⊥) → (b ≡ 0x5C → ⊥) → Rfc.char (b ∷ s) (b ∷ []) s
plain_char {b} {s} i q n = go (tell (leb b 0x21)) (tell (leb b 0x5B))
  where
    go : (leb b 0x21 ≡ true) ⊎ (leb b 0x21 ≡ false) → (leb b 0x5B ≡ true) ⊎ (leb b 0x5B ≡ false) → Rfc.char (b ∷ s) (b ∷ []) s
    go (inl e) k =
        let l : b ≤ 0x21 = leb_le e in
        let p : In 0x20 0x21 b = omega arith in
        Rfc.itself (Rfc.plain_1 p)
    go (inr e) (inl f) =
        let l : 0x21 < b = leb_gt e in
        let m : b ≤ 0x5B = leb_le f in
        let p : In 0x23 0x5B b = omega arith in
        Rfc.itself (Rfc.plain_2 p)
    go (inr e) (inr f) =
        let m : 0x5B < b = leb_gt f in
        let p : In 0x5D 0x7F b = omega arith in
        Rfc.itself (Rfc.plain_3 p)

head_char : {b lo hi n : ℕ} {s t u : Bytes} → Heads b lo hi n → TailBytes lo hi n s t u → Rfc.char (b ∷ s) (b ∷ t) u
head_char (head_c2 i) (one_tail j) = Rfc.itself (Rfc.wide_2 (utf8_2 i j))
head_char (head_e0 i) (more_tails j (one_tail k)) = Rfc.itself (Rfc.wide_3 (utf8_3a i j k))
head_char (head_e1 i) (more_tails j (one_tail k)) = Rfc.itself (Rfc.wide_3 (utf8_3b i j k))
head_char (head_ed i) (more_tails j (one_tail k)) = Rfc.itself (Rfc.wide_3 (utf8_3c i j k))
head_char (head_ee i) (more_tails j (one_tail k)) = Rfc.itself (Rfc.wide_3 (utf8_3d i j k))
head_char (head_f0 i) (more_tails j (more_tails k (one_tail l))) = Rfc.itself (Rfc.wide_4 (utf8_4a i j k l))
head_char (head_f1 i) (more_tails j (more_tails k (one_tail l))) = Rfc.itself (Rfc.wide_4 (utf8_4b i j k l))
head_char (head_f4 i) (more_tails j (more_tails k (one_tail l))) = Rfc.itself (Rfc.wide_4 (utf8_4c i j k l))

-- an escape that is no high surrogate is none at all
no_surrogate : (v : ℕ) → (In 0xD800 0xDBFF v → ⊥) → (In 0xDC00 0xDFFF v → ⊥) → (v < 0xD800) ⊎ (0xDFFF < v)
no_surrogate v f g = go (tell (ltb v 0xD800)) (tell (leb v 0xDBFF)) (tell (leb v 0xDFFF))
  where
    go
        : (ltb v 0xD800 ≡ true) ⊎ (ltb v 0xD800 ≡ false) → (leb v 0xDBFF ≡ true) ⊎ (leb v 0xDBFF ≡ false)
        → (leb v 0xDFFF ≡ true) ⊎ (leb v 0xDFFF ≡ false) → (v < 0xD800) ⊎ (0xDFFF < v)
    go (inl e) k l = inl (leb_le e)
    go (inr e) (inl k) l =
        let x : 0xD800 < suc v = leb_gt e in
        let y : v ≤ 0xDBFF = leb_le k in
        absurd (f (omega arith))
    go (inr e) (inr k) (inl l) =
        let x : 0xDBFF < v = leb_gt k in
        let y : v ≤ 0xDFFF = leb_le l in
        absurd (g (omega arith))
    go (inr e) (inr k) (inr l) = inr (leb_gt l)

pair_encodes : (h l : ℕ) → In 0xD800 0xDBFF h → In 0xDC00 0xDFFF l → Encodes (pair_of h l) (encode (pair_of h l))
unfolding pair_of
pair_encodes h l i j = encode_encodes (pair_of h l) (omega arith) (inr (omega arith))

hex_left : (a acc q s : Bytes) → Left acc q (Inside.digits none 0 0) a s → Left acc q Inside.escape a (0x75 ∷ s)
unfolding pair_of
hex_left a acc q s k = go k.3
  where
    f : Four none s k.0 k.1
    f = hexes_four k.2

    go : LeftDigits a acc q none k.0 k.1 → Left acc q Inside.escape a (0x75 ∷ s)
    go (inl x) =
        let u = four_unicode f in
        let l = unicode_under u in
        let o = no_surrogate k.0 x.0 (four_alone f) in
        (encode k.0, k.1, Rfc.one_unicode u o (encode_encodes k.0 (omega arith) o), x.1)
    go (inr x) =
        let l = x.1 in
        let e = pair_encodes k.0 l.0 x.0 l.3 in
        (encode (pair_of k.0 l.0), l.1, Rfc.two_unicode (four_unicode f) x.0 l.2 l.3 e, l.4)

step_left
    : (acc q s : Bytes) {i j : Inside} {a c : Bytes} {b : ℕ} → Move i a b j c → Left acc q j c s → Left acc q i a (b ∷ s)
step_left acc q s {b} (plain i p n) k = char_left (b ∷ []) (plain_char i p n) k
step_left acc q s {b} (head h) k = char_left (b ∷ k.0) (head_char h k.2) k.3
step_left acc q s {b} (last_tail i) k = (b ∷ [], s, one_tail i, k)
step_left acc q s {b} (next_tail i) k = (b ∷ k.0, k.1, more_tails i k.2, k.3)
step_left acc q s backslash k = char_left k.0 k.2 k.3
step_left acc q s (short {c} x) k = (c ∷ [], s, Rfc.escape x, k)
step_left acc q s (hex {a}) k = hex_left a acc q s k
step_left acc q s (digit x f l) k = (k.0, k.1, more_digits x f l k.2, k.3)
step_left acc q s (high {c} {d} x f l i) k = (c * 16 + d, s, last_digit x f l, inr (i, k))
step_left acc q s (alone {c} {d} x f l i) k = (c * 16 + d, s, last_digit x f l, inl (i, k))
step_left acc q s (low {c} {d} x f l) k = (c * 16 + d, s, last_digit x f l, k)
step_left acc q s pair_backslash k = k
step_left acc q s pair_hex k =
    let f = hexes_four k.2 in
    (k.0, k.1, four_unicode f, four_low f, k.3)

-- ---- all steps

steps_left : {i : Inside} {a acc xs : Bytes} → TextSteps i a xs Inside.chars acc → (q : Bytes) → Left acc q i a (xs ++ q)
steps_left text_stay q = ([], Rfc.no_chars, refl)
steps_left {acc} (text_then {xs} e f) q = step_left acc q (xs ++ q) (step_move e) (steps_left f q)

-- steps from between characters to between characters go through some
pub chars_left
    : {a acc xs : Bytes} → TextSteps Inside.chars a xs Inside.chars acc → (q : Bytes)
    → (t : Bytes) × Rfc.chars (xs ++ q) t q × (acc ≡ reverse_aux t a)
chars_left f q = steps_left f q
