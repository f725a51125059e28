-- Quotients by a power of ten of the table: a product that is at most one short, and whether the power goes in once more. Assumes nothing.
use Prim.Native.Nat.{ℕ, ◌+◌, ◌-◌, ◌*◌, ◌/◌, ◌%◌, ◌^◌, ◌≤◌, ◌<◌}
use native.Mathlib.Omega.{arith}
use mathlib.Core.Path.{◌≡◌, sym, ap, ◌∙◌, subst}
use native.Mathlib.Nat.{add-mul, one-mul}
use lib.Arith.{digits_div}

-- p goes into c so often, or once more
pub record Near (c p q : ℕ) : Type 0 where
  pub least : q * p ≤ c
  pub most : c < q * p + p + p
  pub fits : c < 2 ^ 64

module _ {c p q : ℕ} (n : Near c p q) where
  pub near_fits : q * p < 2 ^ 64
  near_fits = omega (arith, n.least, n.fits)

  -- it does not
  pub no_more : c - q * p < p → q ≡ c / p
  no_more h = sym (ap (λ (x : ℕ). x / p) (let e : c ≡ q * p + (c - q * p) = omega (arith, n.least) in e) ∙ digits_div q h)

  -- it does
  pub once_more : p ≤ c - q * p → q + 1 ≡ c / p
  once_more h =
      sym
      (ap (λ (x : ℕ). x / p) (let e : c ≡ (q + 1) * p + (c - q * p - p) = omega (arith, n.least, add-mul q 1 p, one-mul p) in e)
      ∙ digits_div (q + 1) (let l : c - q * p - p < p = omega (arith, n.most) in l))

-- the products of both powers
module _ {c p : ℕ} where
  pub near_16 : c < 10 ^ 18 → p ≡ 10 ^ 16 → Near c p (c / 2 ^ 44 * 118059 / 2 ^ 26)
  near_16 h e =
      subst (λ (t : ℕ). Near c t (c / 2 ^ 44 * 118059 / 2 ^ 26)) (sym e)
      (record { least = omega arith; most = omega arith; fits = omega arith })

  pub near_8 : c < 10 ^ 16 → p ≡ 10 ^ 8 → Near c p (c / 2 ^ 24 * 2882303761 / 2 ^ 34)
  near_8 h e =
      subst (λ (t : ℕ). Near c t (c / 2 ^ 24 * 2882303761 / 2 ^ 34)) (sym e)
      (record { least = omega arith; most = omega arith; fits = omega arith })

-- and one more fits a word
pub next_fits : {c : ℕ} (q : ℕ) → c < 10 ^ 18 → q * 10 ^ 16 ≤ c → q + 1 < 2 ^ 64
next_fits q h l = omega arith

-- ---- by ten

-- the product is the quotient
pub over_ten : (n : ℕ) → n < 10 ^ 8 → n * 3435973837 / 2 ^ 35 ≡ n / 10
over_ten n h = omega arith

module _ {p : ℕ} (n q : ℕ) (e : q ≡ n / 10) (f : p ≡ 10 ^ 1) where
  pub ten_least : q * p ≤ n
  ten_least = rw (e, f) (omega arith)

  pub ten_left : n - q * p ≡ n % 10
  ten_left = rw (e, f) (omega arith)
