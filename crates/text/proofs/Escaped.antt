-- How long a text is in plain JSON (definitions' Plain): a byte more, several bytes more. Assumes nothing.
use Prim.Native.Nat.{ℕ, suc, ◌+◌, ◌/◌, ◌%◌, ◌≤◌, ◌<◌}
use mathlib.Core.Path.{◌≡◌, refl, sym, ap, ◌∙◌}
use mathlib.Core.Logic.{◌⊎◌, inl, inr}
use mathlib.Core.Bool.{true, false}
use mathlib.Core.Option.{Option, none, some}
use Rattle.std.specs.Prelude.{Some, None}
use mathlib.Core.List.{[], ◌∷◌, ◌++◌, append_assoc, append-nil}
use lib.Dec.{ltb}
use lib.ListN.{length, get_or, length-append}
use native.Mathlib.Omega.{arith}
use Rattle.definitions.specs.Bytes.{Bytes, bytes, look}
use Rattle.definitions.specs.Utf8.{encode}
use Rattle.definitions.specs.Plain.{short_escapes, escaped, escaped_all, plain_text}
use Rattle.laws.specs.Ranges.{Hit, here, there, look_hit, le-leb, gt_leb, lt_or_le}
use Rattle.laws.proofs.StringUtf8.{encode_1, encode_2, encode_3, encode_4}
use Rattle.laws.proofs.StringWritten.{Written, as_short, as_hex, as_itself, written, written_length}
use Rattle.laws.proofs.StringWritten.{written_plain, escaped_high_2, escaped_high_3, escaped_high_4}
use Rattle.text.specs.TextParts.{short_form, hex_escape}
use Rattle.text.proofs.Tables.{Misses, misses_look}

pub escaped_append : (s t : Bytes) → escaped_all (s ++ t) ≡ escaped_all s ++ escaped_all t
unfolding escaped_all
escaped_append [] t = refl
escaped_append (b ∷ s) t =
    ap (λ (e : Bytes). escaped b ++ e) (escaped_append s t) ∙ sym (append_assoc (escaped b) (escaped_all s) (escaped_all t))

pub escaped_none : escaped_all [] ≡ []
unfolding escaped_all
escaped_none = refl

pub escaped_one : (b : ℕ) → escaped_all (b ∷ []) ≡ escaped b
unfolding escaped_all
escaped_one b = append-nil (escaped b)

pub escaped_snoc : (s : Bytes) (b : ℕ) → escaped_all (s ++ (b ∷ [])) ≡ escaped_all s ++ escaped b
escaped_snoc s b = escaped_append s (b ∷ []) ∙ ap (λ (e : Bytes). escaped_all s ++ e) (escaped_one b)

-- a byte that is written as it is
pub itself : (b : ℕ) → 0x20 ≤ b → (b ≡ 0x22 → ⊥) → (b ≡ 0x5C → ⊥) → escaped b ≡ b ∷ []
itself b l q n = go (written b)
  where
    go : {e : Bytes} → Written b e → e ≡ b ∷ []
    go (as_short x f) = absurd (f l q n)
    go (as_hex m) = absurd (let z : ⊥ = omega arith in z)
    go (as_itself m p o) = refl

-- a byte from 80 on, or of ASCII that stands for itself, is written as one
pub one_plain : (b : ℕ) → 0x20 ≤ b → (b ≡ 0x22 → ⊥) → (b ≡ 0x5C → ⊥) → length (escaped b) ≡ 1
one_plain b l q n = written_plain (written b) l q n

pub one_high : (b : ℕ) → 0x80 ≤ b → length (escaped b) ≡ 1
one_high b l = one_plain b (omega arith) (omega arith) (omega arith)

-- a text of which each byte is written as one
pub itself_snoc
    : (s : Bytes) (b n : ℕ) → length (escaped_all s) ≡ n → length (escaped b) ≡ 1 → length (escaped_all (s ++ (b ∷ []))) ≡ n + 1
itself_snoc s b n e f = ap length (escaped_snoc s b) ∙ length-append (escaped_all s) (escaped b) ∙ omega arith

pub itself_cons
    : (s : Bytes) (b n : ℕ) → length (escaped_all s) ≡ n → length (escaped b) ≡ 1 → length (escaped_all (b ∷ s)) ≡ 1 + n
unfolding escaped_all
itself_cons s b n e f = length-append (escaped b) (escaped_all s) ∙ omega arith

-- ---- plain-text

pub length_plain : (t : Bytes) → length (plain_text t) ≡ 2 + length (escaped_all t)
unfolding plain_text bytes
length_plain t = ap suc (length-append (escaped_all t) (0x22 ∷ [])) ∙ omega arith

-- ---- short escapes

pub short_misses : (b : ℕ) → Misses short_escapes b → None ≡ short_form b
unfolding short_form
short_misses b h = rw (misses_look short_escapes b h, short_form)

-- an escape of two characters
Two : Bytes → Type 0
Two e = e ≡ 0x5C ∷ get_or e 1 0 ∷ []

hit_two : {b : ℕ} {e : Bytes} → Hit short_escapes b e → Two e
unfolding short_escapes bytes Two
hit_two (here i) = refl
hit_two (there _ (here i)) = refl
hit_two (there _ (there _ (here i))) = refl
hit_two (there _ (there _ (there _ (here i)))) = refl
hit_two (there _ (there _ (there _ (there _ (here i))))) = refl
hit_two (there _ (there _ (there _ (there _ (there _ (here i)))))) = refl
hit_two (there _ (there _ (there _ (there _ (there _ (there _ (here i))))))) = refl
hit_two {b = b} {e = e} (there _ (there _ (there _ (there _ (there _ (there _ (there _ x98))))))) = elim x98 [ ]

data Short (b : ℕ) : Type 0 where
  is_short : (c : ℕ) → short_form b ≡ Some c → escaped b ≡ 0x5C ∷ c ∷ [] → Short b
  not_short : short_form b ≡ None → look short_escapes b ≡ none → Short b

short_of : (b : ℕ) → Short b
unfolding short_form escaped Two
short_of b = go (look short_escapes b) refl
  where
    go : (o : Option Bytes) → look short_escapes b ≡ o → Short b
    go none f = not_short (rw (f, short_form)) f
    go (some e) f = is_short (get_or e 1 0) (rw (f, short_form)) (rw (f, escaped) (hit_two (look_hit short_escapes b e f)))

pub escaped_short : (b c : ℕ) → short_form b ≡ Some c → escaped b ≡ 0x5C ∷ c ∷ []
escaped_short b c e = go (short_of b)
  where
    go : Short b → escaped b ≡ 0x5C ∷ c ∷ []
    go (is_short d f h) = h ∙ ap (λ (x : ℕ). 0x5C ∷ x ∷ []) (let z : d ≡ c = cc in z)
    go (not_short f h) = absurd (cc)

no_short : (b : ℕ) → short_form b ≡ None → look short_escapes b ≡ none
no_short b e = go (short_of b)
  where
    go : Short b → look short_escapes b ≡ none
    go (is_short d f h) = absurd (cc)
    go (not_short f h) = h

pub escaped_hex : (b : ℕ) → short_form b ≡ None → b < 0x20 → escaped b ≡ hex_escape b
unfolding escaped hex_escape
escaped_hex b e l = let f = no_short b e in let t : ltb b 0x20 ≡ true = le-leb l in rw (f, t, escaped)

pub escaped_itself : (b : ℕ) → short_form b ≡ None → 0x20 ≤ b → escaped b ≡ b ∷ []
unfolding escaped
escaped_itself b e l =
    let f = no_short b e in
    let t : ltb b 0x20 ≡ false = gt_leb (let k : 0x20 < suc b = omega arith in k) in
    rw (f, t, escaped)

pub length_hex_escape : (b : ℕ) → length (hex_escape b) ≡ 6
unfolding hex_escape bytes
length_hex_escape b = refl

-- ---- the bytes of a character

pub length_encode_high : (c : ℕ) → 0x80 ≤ c → length (escaped_all (encode c)) ≡ length (encode c)
unfolding escaped_all
length_encode_high c l = two (lt_or_le c 0x800) (lt_or_le c 0x10000)
  where
    two : (c < 0x800) ⊎ (0x800 ≤ c) → (c < 0x10000) ⊎ (0x10000 ≤ c) → length (escaped_all (encode c)) ≡ length (encode c)
    two (inl h) o = rw (encode_2 c l h) (ap length (escaped_high_2 (0xC0 + c / 64) (0x80 + c % 64) [] (omega arith) (omega arith)))
    two (inr h) (inl k) =
        rw (encode_3 c h k)
        (ap length (escaped_high_3 (0xE0 + c / 4096) (0x80 + c / 64 % 64) (0x80 + c % 64) [] (omega arith) (omega arith) (omega arith)))
    two (inr h) (inr k) =
        rw (encode_4 c k)
        (ap length
        (escaped_high_4 (0xF0 + c / 262144) (0x80 + c / 4096 % 64) (0x80 + c / 64 % 64) (0x80 + c % 64) [] (omega arith) (omega arith)
        (omega arith) (omega arith)))

pub length_encode_low : (c : ℕ) → c < 0x80 → length (escaped_all (encode c)) ≡ length (escaped c)
length_encode_low c l = ap (λ (u : Bytes). length (escaped_all u)) (encode_1 c l) ∙ ap length (escaped_one c)

pub length_encode : (c : ℕ) → length (encode c) ≤ 4
length_encode c = four (lt_or_le c 0x80) (lt_or_le c 0x800) (lt_or_le c 0x10000)
  where
    four
        : (c < 0x80) ⊎ (0x80 ≤ c) → (c < 0x800) ⊎ (0x800 ≤ c) → (c < 0x10000) ⊎ (0x10000 ≤ c) → length (encode c) ≤ 4
    four (inl h) o p = omega (arith, ap length (encode_1 c h))
    four (inr l) (inl h) p = omega (arith, ap length (encode_2 c l h))
    four (inr l) (inr h) (inl k) = omega (arith, ap length (encode_3 c h k))
    four (inr l) (inr h) (inr k) = omega (arith, ap length (encode_4 c k))

pub cost_encode : (c : ℕ) → length (escaped_all (encode c)) ≤ 6
cost_encode c = go (lt_or_le c 0x80)
  where
    go : (c < 0x80) ⊎ (0x80 ≤ c) → length (escaped_all (encode c)) ≤ 6
    go (inl h) = omega (arith, length_encode_low c h, written_length (written c))
    go (inr h) = omega (arith, length_encode_high c h, length_encode c)
