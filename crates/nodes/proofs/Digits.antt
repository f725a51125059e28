-- Whether the last digits of a coefficient are zeros, one digit after the other. Assumes nothing.
use Prim.Native.Nat.{ℕ, suc, ◌+◌, ◌/◌, ◌%◌, ◌^◌, ◌<◌}
use mathlib.Core.Path.{◌≡◌, ap, ◌∙◌, sym}
use mathlib.Core.Bool.{Bool, true, false}
use native.Mathlib.Numerals.{add-one}
use lib.Dec.{eqb}
use Rattle.laws.specs.Ints.{no_digit, digit_zero, digit_other}

-- so many last digits of a number are zeros
abbrev pub ends_in_zeros : (left digits : ℕ) → Bool
ends_in_zeros left digits = eqb (digits % 10 ^ left) 0

pub none_left : (left digits : ℕ) → left ≡ 0 → true ≡ ends_in_zeros left digits
none_left left digits e = sym (ap (λ (k : ℕ). ends_in_zeros k digits) e ∙ no_digit digits)

pub one_less
    : (left next digits : ℕ) → left ≡ next + 1 → digits % 10 ≡ 0 → ends_in_zeros left digits ≡ ends_in_zeros next (digits / 10)
one_less left next digits e h = ap (λ (k : ℕ). ends_in_zeros k digits) (e ∙ add-one next) ∙ digit_zero next digits h

pub no_zero : (left digits : ℕ) → 0 < left → (digits % 10 ≡ 0 → ⊥) → false ≡ ends_in_zeros left digits
no_zero (suc k) digits h f = sym (digit_other k digits f)
no_zero Prim.Native.Nat.zero digits h f = elim h [ ]
