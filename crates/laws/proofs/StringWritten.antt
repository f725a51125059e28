-- How a byte of a text is written in plain JSON (definitions' Plain): as itself or as one of RFC 8259's escapes. Assumes
-- nothing.
use Rattle.std.specs.Prelude.{ℕ, suc, ◌+◌, ◌*◌, ◌/◌, ◌%◌, ◌≤◌, ◌<◌, ◌≡◌, refl, Bool, true, false, [], ◌∷◌, ◌++◌, ltb, length}
use Rattle.std.proofs.Common.{sym, ◌∙◌, ap, subst, inl, length-append, arith}
use Rattle.std.proofs.Math.Option.{Option, none, some, none-ne-some}
use Rattle.definitions.specs.Bytes.{Bytes, bytes, look, between}
use Rattle.definitions.specs.Plain.{short_escapes, hex_digit, escaped, escaped_all, plain_text}
use Rattle.laws.specs.Ranges.{Hit, here, there, look_hit, in_one, at_one, leb_le, leb_gt}
use Rattle.laws.specs.Rfc3629.{In, Encodes, one_octet}
use Rattle.laws.specs.Rfc8259 as Rfc
use Rattle.laws.proofs.StringSound.{plain_char}

-- ---- how a byte is written

pub data Written : ℕ → Bytes → Type 0 where
  as_short
      : {b c : ℕ} → Rfc.escaped_char c b → (0x20 ≤ b → (b ≡ 0x22 → ⊥) → (b ≡ 0x5C → ⊥) → ⊥) → Written b (0x5C ∷ c ∷ [])
  as_hex : {b : ℕ} → b < 0x20 → Written b (0x5C ∷ 0x75 ∷ 0x30 ∷ 0x30 ∷ hex_digit (b / 16) ∷ hex_digit (b % 16) ∷ [])
  as_itself : {b : ℕ} → 0x20 ≤ b → (b ≡ 0x22 → ⊥) → (b ≡ 0x5C → ⊥) → Written b (b ∷ [])

below : {a b : ℕ} → In a a b → 0x20 ≤ b → a < 0x20 → ⊥
below i l m = omega arith

hit_short : {b : ℕ} {e : Bytes} → Hit short_escapes b e → Written b e
unfolding short_escapes bytes
hit_short (here i) = as_short (at_one (λ x. Rfc.escaped_char 0x22 x) i Rfc.escaped_char.quotation_mark) (λ l q n. q (in_one i))
hit_short (there _ (here i)) = as_short (at_one (λ x. Rfc.escaped_char 0x5C x) i Rfc.escaped_char.reverse_solidus) (λ l q n. n (in_one i))
hit_short (there _ (there _ (here i))) = as_short (at_one (λ x. Rfc.escaped_char 0x62 x) i Rfc.escaped_char.backspace) (λ l q n. below i l (omega arith))
hit_short (there _ (there _ (there _ (here i)))) =
    as_short (at_one (λ x. Rfc.escaped_char 0x66 x) i Rfc.escaped_char.form_feed) (λ l q n. below i l (omega arith))
hit_short (there _ (there _ (there _ (there _ (here i))))) =
    as_short (at_one (λ x. Rfc.escaped_char 0x6E x) i Rfc.escaped_char.line_feed) (λ l q n. below i l (omega arith))
hit_short (there _ (there _ (there _ (there _ (there _ (here i)))))) =
    as_short (at_one (λ x. Rfc.escaped_char 0x72 x) i Rfc.escaped_char.carriage_return) (λ l q n. below i l (omega arith))
hit_short (there _ (there _ (there _ (there _ (there _ (there _ (here i))))))) =
    as_short (at_one (λ x. Rfc.escaped_char 0x74 x) i Rfc.escaped_char.tab) (λ l q n. below i l (omega arith))
hit_short (there _ (there _ (there _ (there _ (there _ (there _ (there _ x))))))) = elim x [ ]

quote_found : look short_escapes 0x22 ≡ some (bytes "\\\"")
unfolding look between short_escapes
quote_found = refl

backslash_found : look short_escapes 0x5C ≡ some (bytes "\\\\")
unfolding look between short_escapes
backslash_found = refl

pub written : (b : ℕ) → Written b (escaped b)
unfolding escaped bytes
written b = go (look short_escapes b) refl (ltb b 0x20) refl
  where
    off : (k : ℕ) (e : Bytes) → look short_escapes k ≡ some e → look short_escapes b ≡ none → b ≡ k → ⊥
    off k e f n x = none-ne-some e (sym n ∙ ap (look short_escapes) x ∙ f)

    go : (o : Option Bytes) → look short_escapes b ≡ o → (t : Bool) → ltb b 0x20 ≡ t → Written b (escaped b)
    go (some e) f true g = rw (f, escaped) (hit_short (look_hit short_escapes b e f))
    go (some e) f false g = rw (f, escaped) (hit_short (look_hit short_escapes b e f))
    go none f true g = rw (f, g, escaped) (as_hex (leb_le g))
    go none f false g =
        let l : 0x20 < suc b = leb_gt g in
        let m : 0x20 ≤ b = omega arith in
        rw (f, g, escaped) (as_itself m (off 0x22 _ quote_found f) (off 0x5C _ backslash_found f))

-- ---- what was written is a character

hex_digit_of : (d : ℕ) → d < 16 → Rfc.HEXDIG (hex_digit d) d
unfolding hex_digit
hex_digit_of d l = go (ltb d 10) refl
  where
    go : (t : Bool) → ltb d 10 ≡ t → Rfc.HEXDIG (hex_digit d) d
    go true e =
        let m : d < 10 = leb_le e in
        let i : In 0x30 0x39 (48 + d) = omega arith in
        rw (e, hex_digit) (subst (Rfc.HEXDIG (48 + d)) (omega arith) (Rfc.hex_digit i))
    go false e =
        let m : 10 < suc d = leb_gt e in
        let i : In 0x61 0x66 (87 + d) = omega arith in
        rw (e, hex_digit) (subst (Rfc.HEXDIG (87 + d)) (omega arith) (Rfc.hex_lower i))

-- a byte below 80 is a character
pub written_char : {b : ℕ} {e : Bytes} → Written b e → b < 0x80 → (r : Bytes) → Rfc.char (e ++ r) (b ∷ []) r
written_char (as_short x f) l r = Rfc.escape x
written_char {b} (as_hex m) l r = Rfc.one_unicode (Rfc.hex_4 zero_digit zero_digit high low) (inl (omega arith)) itself
  where
    zero_digit : Rfc.HEXDIG 0x30 0
    zero_digit = Rfc.hex_digit {b = 0x30} (omega arith)

    high : Rfc.HEXDIG (hex_digit (b / 16)) (b / 16)
    high = hex_digit_of (b / 16) (omega arith)

    low : Rfc.HEXDIG (hex_digit (b % 16)) (b % 16)
    low = hex_digit_of (b % 16) (omega arith)

    itself : Encodes (((0 * 16 + 0) * 16 + b / 16) * 16 + b % 16) (b ∷ [])
    itself =
        let e : b ≡ ((0 * 16 + 0) * 16 + b / 16) * 16 + b % 16 = omega arith in
        subst (λ n. Encodes n (b ∷ [])) e (one_octet (omega arith))
written_char {b} (as_itself m q n) l r = let i : In 0x20 0x7F b = omega arith in plain_char i q n

-- a byte from 80 on stands for itself
written_high : {b : ℕ} {e : Bytes} → Written b e → 0x80 ≤ b → e ≡ b ∷ []
written_high (as_short x f) l = absurd (short_under x l)
  where
    short_under : {b c : ℕ} → Rfc.escaped_char c b → 0x80 ≤ b → ⊥
    short_under Rfc.escaped_char.quotation_mark l = omega arith
    short_under Rfc.escaped_char.reverse_solidus l = omega arith
    short_under Rfc.escaped_char.solidus l = omega arith
    short_under Rfc.escaped_char.backspace l = omega arith
    short_under Rfc.escaped_char.form_feed l = omega arith
    short_under Rfc.escaped_char.line_feed l = omega arith
    short_under Rfc.escaped_char.carriage_return l = omega arith
    short_under Rfc.escaped_char.tab l = omega arith
written_high (as_hex m) l = absurd (let z : ⊥ = omega arith in z)
written_high (as_itself m q n) l = refl

escaped_high : (b : ℕ) (t : Bytes) → 0x80 ≤ b → escaped_all (b ∷ t) ≡ b ∷ escaped_all t
unfolding escaped_all
escaped_high b t l = ap (λ e. e ++ escaped_all t) (written_high (written b) l)

pub escaped_high_2 : (a b : ℕ) (t : Bytes) → 0x80 ≤ a → 0x80 ≤ b → escaped_all (a ∷ b ∷ t) ≡ a ∷ b ∷ escaped_all t
escaped_high_2 a b t k l = escaped_high a (b ∷ t) k ∙ ap (λ x. a ∷ x) (escaped_high b t l)

pub escaped_high_3
    : (a b c : ℕ) (t : Bytes) → 0x80 ≤ a → 0x80 ≤ b → 0x80 ≤ c → escaped_all (a ∷ b ∷ c ∷ t) ≡ a ∷ b ∷ c ∷ escaped_all t
escaped_high_3 a b c t k l m = escaped_high a (b ∷ c ∷ t) k ∙ ap (λ x. a ∷ x) (escaped_high_2 b c t l m)

pub escaped_high_4
    : (a b c d : ℕ) (t : Bytes) → 0x80 ≤ a → 0x80 ≤ b → 0x80 ≤ c → 0x80 ≤ d
    → escaped_all (a ∷ b ∷ c ∷ d ∷ t) ≡ a ∷ b ∷ c ∷ d ∷ escaped_all t
escaped_high_4 a b c d t k l m n = escaped_high a (b ∷ c ∷ d ∷ t) k ∙ ap (λ x. a ∷ x) (escaped_high_3 b c d t l m n)

-- ---- lengths

-- a byte is written in at most six
pub written_length : {b : ℕ} {e : Bytes} → Written b e → length e ≤ 6
written_length (as_short x f) = omega arith
written_length (as_hex m) = omega arith
written_length (as_itself m q n) = omega arith

pub written_plain : {b : ℕ} {e : Bytes} → Written b e → 0x20 ≤ b → (b ≡ 0x22 → ⊥) → (b ≡ 0x5C → ⊥) → length e ≡ 1
written_plain (as_short x f) l q n = absurd (f l q n)
written_plain (as_hex m) l q n = absurd (let z : ⊥ = omega arith in z)
written_plain (as_itself m p o) l q n = refl

escaped_most : (t : Bytes) → length (escaped_all t) ≤ 6 * length t
unfolding escaped_all
escaped_most [] = omega arith
escaped_most (b ∷ t) = omega (arith, length-append (escaped b) (escaped_all t), written_length (written b), escaped_most t)

-- a text with its quotation marks
pub plain_most : (t : Bytes) → length (plain_text t) ≤ 2 + 6 * length t
unfolding plain_text bytes
plain_most t = omega (arith, length-append (escaped_all t) (0x22 ∷ []), escaped_most t)
