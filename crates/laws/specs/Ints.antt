-- Ints (request Q-5): numbers whose fraction digits are all zero, told digit by digit, and the same number without its
-- fraction. Assumes nothing.
use Rattle.std.specs.Prelude.{ℕ, suc, ◌+◌, ◌*◌, ◌/◌, ◌%◌, ◌^◌, ◌≤◌, ◌≡◌, refl, Bool, true, false, [], ◌∷◌, eqb}
use Rattle.std.proofs.Common.{sym, ap, ◌∙◌, arith, mul_comm, zero-mul, pow-suc, div-le_self, div-one, le_trans}
use Rattle.std.proofs.lemmas.Bool.{false≢true}
use Rattle.std.proofs.Math.Arith.{mod-mul}
use Rattle.std.proofs.Math.Nat.{mod-one, div-add-mod, mul-div_left, one-le-pow}
use Rattle.definitions.specs.Number.{Number, is_int, whole}
use Rattle.definitions.specs.Value.{Value}
use Rattle.definitions.specs.Shape.{Kind, rank, among}
use Rattle.definitions.specs.Admits.{kind_of}
use Rattle.laws.specs.Tests.{eqb_eq, eq-eqb, eqb_ne, ne_eqb}
use Rattle.laws.specs.Good.{GoodNumber}

power_positive : (k : ℕ) → 1 ≤ 10 ^ k
power_positive k = one-le-pow k 10 (omega arith)

-- ---- digit by digit

last_digit : (k n : ℕ) → n % 10 ^ suc k ≡ (n / 10 % 10 ^ k) * 10 + n % 10
last_digit k n = ap (λ (m : ℕ). n % m) (pow-suc 10 k) ∙ mod-mul n (power_positive k) (omega arith)

-- no digit is asked for
pub no_digit : (n : ℕ) → eqb (n % 10 ^ 0) 0 ≡ true
no_digit n = eq-eqb (mod-one n)

-- in front of a last digit that is zero the others tell
pub digit_zero : (k n : ℕ) → n % 10 ≡ 0 → eqb (n % 10 ^ suc k) 0 ≡ eqb (n / 10 % 10 ^ k) 0
digit_zero k n e = go (eqb (n / 10 % 10 ^ k) 0) refl
  where
    go : (b : Bool) → eqb (n / 10 % 10 ^ k) 0 ≡ b → eqb (n % 10 ^ suc k) 0 ≡ b
    go true f =
        let z : n / 10 % 10 ^ k ≡ 0 = eqb_eq f in
        eq-eqb (let y : n % 10 ^ suc k ≡ 0 = omega (arith, last_digit k n) in y)
    go false f = ne_eqb λ (z : n % 10 ^ suc k ≡ 0). eqb_ne f (let y : n / 10 % 10 ^ k ≡ 0 = omega (arith, last_digit k n) in y)

-- any other makes a decimal
pub digit_other : (k n : ℕ) → (n % 10 ≡ 0 → ⊥) → eqb (n % 10 ^ suc k) 0 ≡ false
digit_other k n f = ne_eqb λ (z : n % 10 ^ suc k ≡ 0). f (omega (arith, last_digit k n))

-- a number without fraction digits is an int
pub unscaled_int : (x : Number) → x.scale ≡ 0 → is_int x ≡ true
unfolding is_int
unscaled_int x e = ap (λ (k : ℕ). eqb (x.coefficient % 10 ^ k) 0) e ∙ no_digit x.coefficient

-- ---- values of kind int

-- a number of kind int
pub is_an_int : (x : Number) → among (kind_of (Value.number x)) (Kind.int ∷ []) ≡ true → is_int x ≡ true
unfolding kind_of among rank
is_an_int x = go (is_int x)
  where
    go : (b : Bool) → among (elim b [ true ↦ Kind.int | false ↦ Kind.dec ]) (Kind.int ∷ []) ≡ true → b ≡ true
    go true h = refl
    go false h = absurd (false≢true h)

-- only numbers are
pub int_number
    : (P : Value → Type 0) (v : Value) → among (kind_of v) (Kind.int ∷ []) ≡ true
    → ((x : Number) → is_int x ≡ true → P (Value.number x)) → P v
unfolding kind_of among rank
int_number P Value.null e f = absurd (false≢true e)
int_number P (Value.bool b) e f = absurd (false≢true e)
int_number P (Value.number x) e f = f x (is_an_int x e)
int_number P (Value.text t) e f = absurd (false≢true e)
int_number P (Value.list vs) e f = absurd (false≢true e)
int_number P (Value.rec ms) e f = absurd (false≢true e)

-- ---- without its fraction

-- an int is worth the same
pub whole_same : (x : Number) → is_int x ≡ true → (whole x).coefficient * 10 ^ x.scale ≡ x.coefficient
unfolding is_int whole
whole_same x h =
    let p = 10 ^ x.scale in
    let z : x.coefficient % p ≡ 0 = eqb_eq h in
    mul_comm (x.coefficient / p) p ∙ omega (arith, div-add-mod x.coefficient p)

-- and no other number at scale 0 is
pub whole_only : (x : Number) (c : ℕ) → c * 10 ^ x.scale ≡ x.coefficient → (whole x).coefficient ≡ c
unfolding whole
whole_only x c e = ap (λ (n : ℕ). n / 10 ^ x.scale) (sym e) ∙ mul-div_left c (power_positive x.scale)

-- it is an int
pub whole_int : (x : Number) → is_int (whole x) ≡ true
unfolding whole
whole_int x = unscaled_int (whole x) refl

-- and a number of the paper: where it is zero there was no minus
pub whole_good : (x : Number) → is_int x ≡ true → GoodNumber x → GoodNumber (whole x)
unfolding whole
whole_good x h g =
    record {
      coefficient_fits = le_trans (div-le_self x.coefficient (10 ^ x.scale)) g.coefficient_fits;
      scale_fits = omega arith;
      minus_fits = λ m z. g.minus_fits m (sym (whole_same x h) ∙ ap (λ (n : ℕ). n * 10 ^ x.scale) z ∙ zero-mul (10 ^ x.scale));
    }

-- without fraction digits it is as it was
pub whole_unscaled : (x : Number) → x.scale ≡ 0 → whole x ≡ x
unfolding whole
whole_unscaled x e = λ i. record { negative = x.negative; coefficient = same i; scale = sym e i }
  where
    same : x.coefficient / 10 ^ x.scale ≡ x.coefficient
    same = ap (λ (k : ℕ). x.coefficient / 10 ^ k) e ∙ div-one x.coefficient
