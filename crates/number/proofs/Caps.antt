-- Numerals as the code holds them: what is past a number's bounds stays past them. Assumes nothing.
use Prim.Native.Nat.{ℕ, suc, ◌+◌, ◌*◌, ◌≤◌, ◌<◌, min}
use native.Mathlib.Decide.{dec_lt}
use native.Mathlib.Omega.{arith}
use mathlib.Core.Path.{◌≡◌, refl, sym, ap, ◌∙◌}
use mathlib.Core.Bool.{Bool, true, false, not, ◌&&◌, ◌||◌}
use borrow.Author.Tests.{lt-ltb, le-ltb, eq-eqb, ne_eqb}
use lib.Dec.{eqb, ltb}
use Rattle.definitions.specs.Number.{Numeral, most_coefficient, most_scale, beyond, number_of}
use Rattle.number.specs.NumberCode.{StandsFor, past_coefficient, past_scale}
use Rattle.number.specs.NumberRead.{numeral}
use Rattle.number.specs.NumberWrite.{as_number}
use Rattle.number.specs.NumberLaws.{not_beyond}
use Rattle.number.specs.declared.numeral.CappedNumeral.{CappedNumeral}

-- ---- one digit more

pub shifted_cap : (k c r x : ℕ) → k ≡ min c past_coefficient → r ≡ min (k * 10 + x) past_coefficient → r ≡ min (c * 10 + x) past_coefficient
shifted_cap k c r x e f = omega arith

pub scaled_cap : (k c r : ℕ) → k ≡ min c past_scale → r ≡ min (suc k) past_scale → r ≡ min (suc c) past_scale
scaled_cap k c r e f = omega arith

-- ---- zero has no minus

pub minus_of_zero : (n : Bool) (c : ℕ) → c ≡ 0 → false ≡ n && not (eqb c 0)
minus_of_zero true c e = rw (eq-eqb c 0 e)
minus_of_zero false c e = refl

pub minus_of_other : (n : Bool) (c : ℕ) → (c ≡ 0 → ⊥) → n ≡ n && not (eqb c 0)
minus_of_other true c h = rw (ne_eqb c 0 h)
minus_of_other false c h = refl

-- ---- refusal 4

module _ {d : CappedNumeral} {n : Numeral} (s : StandsFor d n) where
  pub beyond_coefficient : d.coefficient ≡ past_coefficient → true ≡ beyond n
  unfolding beyond most_coefficient
  beyond_coefficient e =
      let h : most_coefficient < n.coefficient = omega (arith, s.coefficient) in
      rw (lt-ltb most_coefficient n.coefficient h)

  low : (d.coefficient ≡ past_coefficient → ⊥) → n.coefficient ≤ most_coefficient
  unfolding most_coefficient
  low h = omega (arith, s.coefficient)

  pub beyond_scale : (d.coefficient ≡ past_coefficient → ⊥) → d.scale ≡ past_scale → true ≡ beyond n
  unfolding beyond most_scale
  beyond_scale h e =
      let l : most_scale < n.scale = omega (arith, s.scale) in
      rw (le-ltb most_coefficient n.coefficient (low h), lt-ltb most_scale n.scale l)

  pub beyond_exponent
      : (d.coefficient ≡ past_coefficient → ⊥) → (d.scale ≡ past_scale → ⊥) → d.exponent ≡ beyond n
  unfolding beyond most_scale
  beyond_exponent h k =
      let l : n.scale ≤ most_scale = omega (arith, s.scale) in
      rw (le-ltb most_coefficient n.coefficient (low h), le-ltb most_scale n.scale l) s.exponent

  -- a numeral that it is not for is held as it is
  pub held : (m : Bool) → m ≡ d.negative && not (eqb d.coefficient 0) → beyond n ≡ false → as_number m d.coefficient d.scale ≡ number_of n
  unfolding number_of most_coefficient most_scale
  held m e b =
      let x : d.coefficient ≡ n.coefficient = omega (arith, s.coefficient, (not_beyond n b).coefficient) in
      let y : d.scale ≡ n.scale = omega (arith, s.scale, (not_beyond n b).scale) in
      let z : m ≡ n.negative && not (eqb n.coefficient 0) = e ∙ rw (s.negative, x) in
      λ i. record { negative = z i; coefficient = x i; scale = y i }

-- ---- a number without an exponent

either : (x y : Bool) → x || y ≡ y || x || false
either true true = refl
either true false = refl
either false true = refl
either false false = refl

module _ (s : Bool) (k c m : ℕ) (e : k ≡ min c past_coefficient) where
  capped_test : eqb k past_coefficient ≡ ltb most_coefficient c
  unfolding most_coefficient
  capped_test = go (dec_lt most_coefficient c)
    where
      go : Dec (most_coefficient < c) → eqb k past_coefficient ≡ ltb most_coefficient c
      go (yes h) = eq-eqb k past_coefficient (omega arith) ∙ sym (lt-ltb most_coefficient c h)
      go (no h) = ne_eqb k past_coefficient (λ q. omega arith) ∙ sym (le-ltb most_coefficient c (omega arith))

  -- refusal 4 is for it where it has too many digits
  pub settled_over : ltb 9 m || eqb k past_coefficient ≡ beyond (numeral s c m)
  unfolding beyond most_scale
  settled_over = ap (λ (b : Bool). ltb 9 m || b) capped_test ∙ either (ltb 9 m) (ltb most_coefficient c)

  -- and else it is held as it is
  pub settled_meaning
      : ltb 9 m || eqb k past_coefficient ≡ false → as_number (s && not (eqb k 0)) k m ≡ number_of (numeral s c m)
  unfolding number_of most_coefficient
  settled_meaning b =
      let same : k ≡ c = omega (arith, (not_beyond (numeral s c m) (sym settled_over ∙ b)).coefficient) in
      ap (λ (n : ℕ). as_number (s && not (eqb n 0)) n m) same
