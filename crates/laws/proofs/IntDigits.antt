-- A number is an int exactly where RFC 8259's grammar derives a fraction of zeros alone, or none (request Q-5). Assumes nothing.
use Rattle.std.specs.Prelude.{ℕ, suc, ◌+◌, ◌-◌, ◌*◌, ◌%◌, ◌^◌, ◌≤◌, ◌≡◌, ◌↔◌, ◌⊎◌, Bool, true, ◌∷◌}
use Rattle.std.proofs.Common.{sym, ap, ◌∙◌, subst, inl, inr, arith, mul-le-mul_right}
use Rattle.std.proofs.Math.Nat.{one-le-pow, pow-succ', div-add-mod, mul-mod_left}
use Rattle.definitions.specs.Bytes.{Bytes}
use Rattle.definitions.specs.Number.{is_int}
use Rattle.laws.specs.Tests.{eqb_eq, eq-eqb, lt_or_le}
use Rattle.laws.specs.Rfc8259 as Rfc
use Rattle.laws.proofs.NumberRound.{digits_value, frac_int}
use Rattle.laws.specs.ZeroDigits.{Zeros, no_zeros, a_zero, ZeroFrac, no_frac, point}

-- a digit and those behind it that add nothing to c, where p is what the digit counts for
first_zero : (c x p e : ℕ) → 1 ≤ p → c * (10 * p) ≡ (c * 10 + x) * p + e → (x ≡ 0) × (e ≡ 0)
first_zero c x p e h f = go (lt_or_le 0 x)
  where
    go : (1 ≤ x) ⊎ (x ≤ 0) → (x ≡ 0) × (e ≡ 0)
    go (inl l) = let k : 1 * p ≤ x * p = mul-le-mul_right p l in absurd (let z : ⊥ = omega arith in z)
    go (inr l) =
        let z : x ≡ 0 = omega arith in
        let g : c * (10 * p) ≡ (c * 10 + 0) * p + e = subst (λ (y : ℕ). c * (10 * p) ≡ (c * 10 + y) * p + e) z f in
        (z, omega arith)

-- digits that only shift the coefficient are zeros
zeros_to : {c d n : ℕ} {s r : Bytes} → Rfc.digits c s d n r → d ≡ c * 10 ^ n → Zeros n s r
zeros_to Rfc.no_digits e = no_zeros
zeros_to {c} {r = r} (Rfc.digit {b} {d = d} {n = n} {s} i h) e =
    let k = digits_value h in
    let z = first_zero c (b - 0x30) (10 ^ n) k.0 (one-le-pow n 10 (omega arith))
    (ap (λ (q : ℕ). c * q) (sym (pow-succ' 10 n)) ∙ sym e ∙ k.2) in
    let x : b - 0x30 ≡ 0 = z.0 in
    let y : k.0 ≡ 0 = z.1 in
    let digit_is : 0x30 ≡ b = omega arith in
    let rest : d ≡ (c * 10 + (b - 0x30)) * 10 ^ n = omega (arith, k.2) in
    subst (λ (a : ℕ). Zeros (suc n) (a ∷ s) r) digit_is (a_zero (zeros_to h rest))

zeros_from : {c d n : ℕ} {s r : Bytes} → Rfc.digits c s d n r → Zeros n s r → d ≡ c * 10 ^ n
zeros_from Rfc.no_digits z = omega arith
zeros_from {c} (Rfc.digit {n = n} i h) (a_zero zs) =
    let shifted : (c * 10 + 0) * 10 ^ n ≡ c * (10 * 10 ^ n) = omega arith in
    zeros_from h zs ∙ shifted ∙ ap (λ (q : ℕ). c * q) (sym (pow-succ' 10 n))

-- with the point, if there is one
zero_frac_to : {c d n : ℕ} {s r : Bytes} → Rfc.frac c s d n r → d ≡ c * 10 ^ n → ZeroFrac n s r
zero_frac_to Rfc.no_frac e = no_frac
zero_frac_to (Rfc.point i h) e = point (zeros_to h e)

zero_frac_from : {c d n : ℕ} {s r : Bytes} → Rfc.frac c s d n r → ZeroFrac n s r → d ≡ c * 10 ^ n
zero_frac_from Rfc.no_frac z = omega arith
zero_frac_from (Rfc.point i h) (point zs) = zeros_from h zs

-- "a number whose fraction digits are all zero is an int"
pub ints_by_digits
    : (m : Bool) {c d n : ℕ} {s r : Bytes} → Rfc.frac c s d n r
    → (is_int (record { negative = m; coefficient = d; scale = n }) ≡ true) ↔ ZeroFrac n s r
unfolding is_int
ints_by_digits m {c} {d} {n} f =
    let split = div-add-mod d (10 ^ n) in
    let part = frac_int f in (
      λ h.
          let z : d % 10 ^ n ≡ 0 = eqb_eq h in
          zero_frac_to f (omega (arith, ap (λ (q : ℕ). 10 ^ n * q) part)),
      λ h.
          let e = zero_frac_from f h in
          eq-eqb (ap (λ (q : ℕ). q % 10 ^ n) e ∙ mul-mod_left c (10 ^ n)),
    )
