-- Laws of decimal digits: `decimal` by its last digit, as last digits, and its length; and how long a number is as plain
-- JSON. Assumes nothing.
use Rattle.std.specs.Prelude.{ℕ, zero, suc, ◌+◌, ◌-◌, ◌*◌, ◌/◌, ◌%◌, ◌^◌, ◌≤◌, ◌<◌, max, ◌≡◌, refl, Bool, true, false, [], ◌∷◌, ◌++◌, ltb, length}
use Rattle.std.proofs.Common.{not-suc-le-zero, le_refl, mod-eq_of_lt, div-one, pow-suc, arith, sym, ap, ◌∙◌, append_assoc, ltb-true, ltb-false, lt-ltb}
use Rattle.std.proofs.Common.{le-ltb, length-append}
use Rattle.std.proofs.Math.Nat.{pow-succ', one-le-pow, div-div-eq-div-mul}
use Rattle.definitions.specs.Bytes.{Bytes, bytes}
use Rattle.definitions.specs.Number.{Number, most_coefficient, most_scale}
use Rattle.definitions.specs.Plain.{decimal_within, decimal, last_digits, fraction, minus, plain_number}
use Rattle.number.specs.NumberWrite.{Bounded}

-- below ten or not
pub data Size (n : ℕ) : Type 0 where
  one_digit : n < 10 → Size n
  more_digits : 10 ≤ n → Size n

pub size : (n : ℕ) → Size n
size n = go (ltb n 10) refl
  where
    go : (b : Bool) → ltb n 10 ≡ b → Size n
    go true e = one_digit (ltb-true n 10 e)
    go false e = more_digits (ltb-false n 10 e)

-- ---- decimal by its last digit

within_small : (k n : ℕ) (after : Bytes) → n < 10 → decimal_within (suc k) n after ≡ (48 + n) ∷ after
unfolding decimal_within
within_small k n after h = rw (lt-ltb n 10 h, decimal_within)

within_large
    : (k n : ℕ) (after : Bytes) → 10 ≤ n → decimal_within (suc k) n after ≡ decimal_within k (n / 10) ((48 + n % 10) ∷ after)
unfolding decimal_within
within_large k n after h = rw (le-ltb n 10 h, decimal_within)

within_append : (k n : ℕ) (after : Bytes) → decimal_within k n after ≡ decimal_within k n [] ++ after
unfolding decimal_within
within_append zero n after = refl
within_append (suc k) n after = go (size n) (within_append k (n / 10))
  where
    go
        : Size n → ((t : Bytes) → decimal_within k (n / 10) t ≡ decimal_within k (n / 10) [] ++ t)
        → decimal_within (suc k) n after ≡ decimal_within (suc k) n [] ++ after
    go (one_digit s) more = within_small k n after s ∙ ap (λ (t : Bytes). t ++ after) (sym (within_small k n [] s))
    go (more_digits s) more =
        within_large k n after s
        ∙ more ((48 + n % 10) ∷ after)
        ∙ sym (append_assoc (decimal_within k (n / 10) []) ((48 + n % 10) ∷ []) after)
        ∙ ap (λ (t : Bytes). t ++ after) (sym (more ((48 + n % 10) ∷ [])) ∙ sym (within_large k n [] s))

-- with enough steps the digits do not depend on how many
within_enough : (k m n : ℕ) (after : Bytes) → n < k → n < m → decimal_within k n after ≡ decimal_within m n after
within_enough zero m n after h g = absurd (not-suc-le-zero h)
within_enough (suc k) zero n after h g = absurd (not-suc-le-zero g)
within_enough (suc k) (suc m) n after h g = go (size n) (within_enough k m (n / 10) ((48 + n % 10) ∷ after))
  where
    go
        : Size n
        → (n / 10 < k → n / 10 < m → decimal_within k (n / 10) ((48 + n % 10) ∷ after) ≡ decimal_within m (n / 10) ((48 + n % 10) ∷ after))
        → decimal_within (suc k) n after ≡ decimal_within (suc m) n after
    go (one_digit s) more = within_small k n after s ∙ sym (within_small m n after s)
    go (more_digits s) more =
        within_large k n after s ∙ more (omega arith) (omega arith) ∙ sym (within_large m n after s)

pub decimal_small : (n : ℕ) → n < 10 → decimal n ≡ (48 + n) ∷ []
unfolding decimal
decimal_small n h = within_small n n [] h

pub decimal_large : (n : ℕ) → 10 ≤ n → decimal n ≡ decimal (n / 10) ++ (48 + n % 10) ∷ []
unfolding decimal
decimal_large n h =
    within_large n n [] h
    ∙ within_enough n (suc (n / 10)) (n / 10) ((48 + n % 10) ∷ []) (omega arith) (omega arith)
    ∙ within_append (suc (n / 10)) (n / 10) ((48 + n % 10) ∷ [])

-- ---- induction on the number of digits

-- what holds of one digit, and of n where it holds of n / 10, holds of every number
pub by_digits : (P : ℕ → Type 0) → ((n : ℕ) → n < 10 → P n) → ((n : ℕ) → 10 ≤ n → P (n / 10) → P n) → (n : ℕ) → P n
by_digits P small large n = below (suc n) n (le_refl (suc n))
  where
    below : (k m : ℕ) → m < k → P m
    below zero m h = absurd (not-suc-le-zero h)
    below (suc k) m h = go (size m) (below k (m / 10))
      where
        go : Size m → (m / 10 < k → P (m / 10)) → P m
        go (one_digit s) more = small m s
        go (more_digits s) more = large m s (more (omega arith))

-- ---- last digits

pub last_append : (k n : ℕ) (after : Bytes) → last_digits k n after ≡ last_digits k n [] ++ after
unfolding last_digits
last_append zero n after = refl
last_append (suc k) n after =
    last_append k (n / 10) ((48 + n % 10) ∷ after)
    ∙ sym (append_assoc (last_digits k (n / 10) []) ((48 + n % 10) ∷ []) after)
    ∙ ap (λ (t : Bytes). t ++ after) (sym (last_append k (n / 10) ((48 + n % 10) ∷ [])))

pub length_last : (k n : ℕ) (after : Bytes) → length (last_digits k n after) ≡ k + length after
unfolding last_digits
length_last zero n after = omega arith
length_last (suc k) n after = length_last k (n / 10) ((48 + n % 10) ∷ after) ∙ omega arith

-- ---- the length of a decimal

pub length_small : (n : ℕ) → n < 10 → length (decimal n) ≡ 1
length_small n h = ap length (decimal_small n h)

pub length_large : (n : ℕ) → 10 ≤ n → length (decimal n) ≡ suc (length (decimal (n / 10)))
length_large n h =
    ap length (decimal_large n h) ∙ length-append (decimal (n / 10)) ((48 + n % 10) ∷ []) ∙ omega arith

-- a decimal is its last digits, as many as it has
pub decimal_last : (n : ℕ) → decimal n ≡ last_digits (length (decimal n)) n []
unfolding last_digits
decimal_last = by_digits (λ (n : ℕ). decimal n ≡ last_digits (length (decimal n)) n []) small large
  where
    small : (n : ℕ) → n < 10 → decimal n ≡ last_digits (length (decimal n)) n []
    small n h = rw (length_small n h, decimal_small n h, mod-eq_of_lt h)

    large
        : (n : ℕ) → 10 ≤ n → decimal (n / 10) ≡ last_digits (length (decimal (n / 10))) (n / 10) []
        → decimal n ≡ last_digits (length (decimal n)) n []
    large n h more =
        decimal_large n h
        ∙ ap (λ (t : Bytes). t ++ (48 + n % 10) ∷ []) more
        ∙ sym (last_append (length (decimal (n / 10))) (n / 10) ((48 + n % 10) ∷ []))
        ∙ ap (λ (k : ℕ). last_digits k n []) (sym (length_large n h))

pub length_some : (n : ℕ) → 1 ≤ length (decimal n)
length_some n = go (size n)
  where
    go : Size n → 1 ≤ length (decimal n)
    go (one_digit s) = omega (arith, length_small n s)
    go (more_digits s) = omega (arith, length_large n s)

-- a number from a power of ten on has more digits than the power
pub length_more : (k n : ℕ) → 10 ^ k ≤ n → k < length (decimal n)
length_more zero n h = length_some n
length_more (suc k) n h =
    let p : 10 ^ k * 10 ≤ n = rw (pow-suc 10 k) at h in
    let one : 1 ≤ 10 ^ k = one-le-pow k 10 (omega arith) in
    omega (arith, length_large n (omega arith), length_more k (n / 10) (omega arith))

-- and one below the next power has no more
pub length_most : (k n : ℕ) → n < 10 ^ suc k → length (decimal n) ≤ suc k
length_most zero n h = omega (arith, length_small n h)
length_most (suc k) n h = go (size n) (length_most k (n / 10))
  where
    go : Size n → (n / 10 < 10 ^ suc k → length (decimal (n / 10)) ≤ suc k) → length (decimal n) ≤ suc (suc k)
    go (one_digit s) more = omega (arith, length_small n s)
    go (more_digits s) more =
        let p : n < 10 ^ suc k * 10 = rw (pow-suc 10 (suc k)) at h in
        omega (arith, length_large n s, more (omega arith))

-- ---- dividing by a power of ten

pub quotient_zero : (n : ℕ) → n / 10 ^ 0 ≡ n
quotient_zero n = div-one n

pub quotient_suc : (k n : ℕ) → n / 10 ^ suc k ≡ n / 10 / 10 ^ k
quotient_suc k n = ap (λ (m : ℕ). n / m) (pow-succ' 10 k) ∙ sym (div-div-eq-div-mul n 10 (10 ^ k))

-- what is left behind k digits has as many digits less, but at least one
pub length_quotient : (k n : ℕ) → length (decimal (n / 10 ^ k)) ≡ max 1 (length (decimal n) - k)
length_quotient zero n = ap (λ (m : ℕ). length (decimal m)) (quotient_zero n) ∙ omega (arith, length_some n)
length_quotient (suc k) n =
    ap (λ (m : ℕ). length (decimal m)) (quotient_suc k n) ∙ length_quotient k (n / 10) ∙ go (size n)
  where
    go : Size n → max 1 (length (decimal (n / 10)) - k) ≡ max 1 (length (decimal n) - suc k)
    go (one_digit s) = omega (arith, length_small n s, length_small (n / 10) (omega arith))
    go (more_digits s) = omega (arith, length_large n s)

-- ---- fractions

pub length_fraction_none : (k n : ℕ) → k ≡ 0 → 0 ≡ length (fraction k n)
unfolding fraction
length_fraction_none k n e = rw e

pub length_fraction : (k n : ℕ) → (k ≡ 0 → ⊥) → 1 + k ≡ length (fraction k n)
unfolding fraction bytes
length_fraction zero n h = absurd (h refl)
length_fraction (suc k) n h = omega (arith, length_last (suc k) n [])

-- ---- a number as plain JSON

pub length_plain
    : (x : Number)
    → length (plain_number x)
    ≡ length (minus x.negative) + length (decimal (x.coefficient / 10 ^ x.scale)) + length (fraction x.scale x.coefficient)
unfolding plain_number
length_plain x = simp length-append

length_minus : (b : Bool) → length (minus b) ≤ 1
unfolding minus bytes
length_minus true = omega arith
length_minus false = omega arith

length_fraction_most : (k n : ℕ) → length (fraction k n) ≤ 1 + k
unfolding fraction
length_fraction_most zero n = omega arith
length_fraction_most (suc k) n = omega (arith, length_fraction (suc k) n (λ e. omega (arith, e)))

-- a sign, 18 digits and a point
pub plain_short : (x : Number) → Bounded x → length (plain_number x) ≤ 20
unfolding most_coefficient most_scale
plain_short x b =
    omega (
      arith,
      length_plain x,
      length_minus x.negative,
      length_quotient x.scale x.coefficient,
      length_most 17 x.coefficient (omega (arith, b.coefficient)),
      length_fraction_most x.scale x.coefficient,
      b.scale,
    )
