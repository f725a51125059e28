-- The number of a word of a text. Assumes nothing.
use Prim.Native.Nat.{ℕ, zero, suc, ◌+◌, ◌-◌, ◌*◌, ◌^◌, ◌≤◌, ◌<◌}
use mathlib.Core.Path.{◌≡◌, refl, sym, ap, ap₂, ◌∙◌, subst}
use mathlib.Core.Bool.{true}
use mathlib.Core.List.{[], ◌∷◌, ◌++◌}
use native.Mathlib.Numerals.{add-one}
use native.Mathlib.Decide.{dec_lt}
use native.Mathlib.Omega.{arith}
use lib.ListN.{length, take, drop, get_or, length-drop}
use lib.Pow.{pow-lt, pow-add}
use lib.Seq.{length-take-le, take-suc, get_or-drop}
use Rattle.std.proofs.lemmas.List.{get_or-take}
use Rattle.definitions.specs.Bytes.{Bytes, same}
use Rattle.laws.specs.Bools.{and_two}
use Rattle.laws.specs.Names.{same_eq}
use Rattle.laws.specs.Tests.{fails, ltb_lt}
use Rattle.tokens.specs.TokenRead.{word_in}
use Rattle.tokens.specs.WordValues.{joined, word_value, fits, WordTold}

-- ---- bytes as digits

-- each is below 256
pub data Digits : Bytes → Type 0 where
  no_digits : Digits []
  digit : {b : ℕ} {w : Bytes} → b < 256 → Digits w → Digits (b ∷ w)

pub fits_digits : (n : ℕ) (v : Bytes) → fits n v ≡ true → Digits v × (length v ≤ n)
unfolding fits
fits_digits n [] e = (no_digits, omega arith)
fits_digits zero (b ∷ v) e = absurd (let z : ◌≡◌ {A = ℕ} 0 1 = cc (e) in omega arith)
fits_digits (suc n) (b ∷ v) e =
    let (h, i) = and_two _ _ e in
    let (d, l) = fits_digits n v i in
    (digit (ltb_lt b 256 h) d, omega (arith, l))

-- words of the same length and number are the same
joined_same
    : {v w : Bytes} → Digits v → Digits w → (x y : ℕ) → length v ≡ length w → joined x v ≡ joined y w → (x ≡ y) × (v ≡ w)
unfolding joined
joined_same no_digits no_digits x y l e = (e, refl)
joined_same no_digits (digit h d) x y l e = absurd (let z : ⊥ = omega (arith, l) in z)
joined_same (digit h d) no_digits x y l e = absurd (let z : ⊥ = omega (arith, l) in z)
joined_same (digit {b} {w = v} h d) (digit {b = c} {w} i f) x y l e =
    let (s, t) = joined_same d f (x * 256 + b) (y * 256 + c) (omega (arith, l)) e in
    let p : x ≡ y = omega (arith, s, h, i) in
    let q : b ≡ c = omega (arith, s, h, i) in
    (p, ap₂ (λ (k : ℕ) (u : Bytes). k ∷ u) q t)

digits_more : {w : Bytes} {b : ℕ} → Digits w → b < 256 → Digits (w ++ b ∷ [])
digits_more no_digits h = digit h no_digits
digits_more (digit x d) h = digit x (digits_more d h)

-- one more byte
joined_more : (w : Bytes) (x b : ℕ) → joined x (w ++ b ∷ []) ≡ joined x w * 256 + b
unfolding joined
joined_more [] x b = refl
joined_more (c ∷ w) x b = joined_more w (x * 256 + c) b

-- ---- the word of a text

-- the number of the first i bytes from a place on
pub record Joins (text : Bytes) (at i x : ℕ) : Type 0 where
  pub number : x ≡ joined 0 (take i (drop at text))
  pub small : x < 2 ^ (8 * i)
  pub digits : Digits (take i (drop at text))

pub joins : (text : Bytes) (at : ℕ) → Joins text at 0 0
unfolding joined
joins text at = record { number = refl; small = omega arith; digits = no_digits }

pub joins_on
    : {text : Bytes} {at i x : ℕ} → Joins text at i x → at + i < length text → get_or text (at + i) 0 < 256
    → Joins text at (i + 1) (x * 256 + get_or text (at + i) 0)
joins_on {text} {at} {i} {x} s h b =
    record {
      number =
          ap (λ (k : ℕ). k * 256 + get_or text (at + i) 0) s.number ∙ sym (ap (joined 0) more ∙ joined_more (take i (drop at text)) 0 (get_or text (at + i) 0));
      small =
          let e : 2 ^ (8 * (i + 1)) ≡ 2 ^ (8 * i) * 256 = ap (λ (k : ℕ). 2 ^ k) (let k : 8 * (i + 1) ≡ 8 * i + 8 = omega arith in k) ∙ pow-add 2 (8 * i) 8 in
          omega (arith, e, s.small, b);
      digits = subst Digits (sym more) (digits_more s.digits b);
    }
  where
    more : take (i + 1) (drop at text) ≡ take i (drop at text) ++ get_or text (at + i) 0 ∷ []
    more =
        ap (λ (n : ℕ). take n (drop at text)) (add-one i)
        ∙ take-suc (drop at text) i 0 (omega (arith, length-drop at text))
        ∙ ap (λ (k : ℕ). take i (drop at text) ++ k ∷ []) (get_or-drop at text i 0)

module _ (text : Bytes) (at end : ℕ) (ordered : at ≤ end) (within : end ≤ length text) where
  pub length_in : length (take (end - at) (drop at text)) ≡ end - at
  length_in = length-take-le (end - at) (drop at text) (omega (arith, length-drop at text))

  -- the next byte between two places
  pub joins_in
      : {i x : ℕ} → ((k : ℕ) → get_or text k 0 < 256) → Joins text at i x → i < length (take (end - at) (drop at text))
      → Joins text at (i + 1) (x * 256 + get_or (take (end - at) (drop at text)) i 0)
  joins_in {i} {x} b s h =
      let l : i < end - at = omega (arith, length_in) in
      let e : get_or (take (end - at) (drop at text)) i 0 ≡ get_or text (at + i) 0 =
      get_or-take (end - at) (drop at text) i 0 l ∙ get_or-drop at text i 0 in
      subst (λ (k : ℕ). Joins text at (i + 1) (x * 256 + k)) (sym e) (joins_on s (omega (arith, length_in)) (b (at + i)))

pow_le : (i j : ℕ) → i ≤ j → 2 ^ i ≤ 2 ^ j
pow_le i j h = pick (dec_lt i j)
  where
    pick : Dec (i < j) → 2 ^ i ≤ 2 ^ j
    pick (yes l) = let k : 2 ^ i < 2 ^ j = pow-lt l in omega (arith, k)
    pick (no l) = let e : 2 ^ i ≡ 2 ^ j = ap (λ (k : ℕ). 2 ^ k) (let k : i ≡ j = omega arith in k) in omega (arith, e)

-- numbers of few bytes are small
pub joins_small : {text : Bytes} {at i x : ℕ} (n : ℕ) → Joins text at i x → i ≤ n → x < 2 ^ (8 * n)
joins_small {i} n s h = let k : 2 ^ (8 * i) ≤ 2 ^ (8 * n) = pow_le (8 * i) (8 * n) (omega arith) in omega (arith, s.small, k)

-- ---- what the number tells

module _ (text : Bytes) (at end : ℕ) (ordered : at ≤ end) (within : end ≤ length text) where
  length_word_in : length (word_in text at end) ≡ end - at
  unfolding word_in
  length_word_in = length_in text at end ordered within

  -- of a long word
  pub long_told : 7 < end - at → WordTold (word_in text at end) 8
  unfolding word_value
  long_told h =
      record {
        is = λ v f e. absurd (let z : ⊥ = omega (arith, e, (fits_digits 7 v f).1) in z);
        other = λ v f n.
            fails (same (word_in text at end) v)
            (λ e. let z : ⊥ = omega (arith, ap length (same_eq (word_in text at end) v e), length_word_in, (fits_digits 7 v f).1) in z);
      }

  -- of one that is not
  pub short_told
      : {x : ℕ} → end - at ≤ 7 → Joins text at (end - at) x
      → WordTold (word_in text at end) (x * 256 + (end - at))
  unfolding word_value word_in
  short_told {x} h s =
      record {
        is = λ v f e.
            let (d, l) = fits_digits 7 v f in
            (joined_same s.digits d 0 0 (omega (arith, e, l, length_word_in))
            (sym s.number ∙ (let k : x ≡ joined 0 v = omega (arith, e, l) in k))).1;
        other = λ v f n.
            fails (same (word_in text at end) v)
            (λ e.
            n
            (ap₂ (λ (j k : ℕ). j * 256 + k) s.number (sym length_word_in)
            ∙ ap word_value (same_eq (word_in text at end) v e)));
      }
