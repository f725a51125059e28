-- How many digits a number has by how many bits it has, and powers of ten by a table. Assumes nothing.
use Prim.Native.Nat.{ℕ, zero, suc, ◌+◌, ◌-◌, ◌*◌, ◌/◌, ◌%◌, ◌^◌, ◌≤◌, ◌<◌, zero-le}
use native.Mathlib.Nat.{not-suc-le-zero, le_of_suc-le-suc, lt_of_lt_of_le, le_trans, eq-or-lt_of_le}
use native.Mathlib.Omega.{arith}
use mathlib.Core.Path.{◌≡◌, refl, sym, ap, ◌∙◌}
use mathlib.Core.Logic.{⊎_elim}
use mathlib.Core.Bool.{Bool, true, ◌&&◌}
use mathlib.Core.List.{List, [], ◌∷◌}
use borrow.Author.Tests.{leb-true}
use lib.Arith.{lt_of_le-ne}
use lib.Bits.{bit_or, or_add_and, and_mask, or_lt}
use lib.Count.{count_leading_zeros, leading_top}
use lib.Dec.{leb}
use lib.ListN.{length, get_or}
use Rattle.definitions.specs.Plain.{decimal}
use Rattle.pool.specs.Lanes.{agree}
use Rattle.pool.specs.LaneLaws.{and_parts, byte_rule}
use Rattle.number.specs.DecimalLaws.{Size, one_digit, more_digits, size, length_small, length_large, length_more, length_most}

-- ---- the table of powers

abbrev powers : List ℕ
powers =
    1
    ∷ 10
    ∷ 100
    ∷ 1000
    ∷ 10000
    ∷ 100000
    ∷ 1000000
    ∷ 10000000
    ∷ 100000000
    ∷ 1000000000
    ∷ 10000000000
    ∷ 100000000000
    ∷ 1000000000000
    ∷ 10000000000000
    ∷ 100000000000000
    ∷ 1000000000000000
    ∷ 10000000000000000
    ∷ 100000000000000000
    ∷ 1000000000000000000
    ∷ 10000000000000000000
    ∷ []

-- its rule, computed over the whole table at once: what stands at a place, if anything does, is that power of ten
power_rule : (a : ℕ) → a < 256 → get_or powers a (10 ^ a) ≡ 10 ^ a
unfolding agree
power_rule = byte_rule (λ (a : ℕ). get_or powers a (10 ^ a)) (λ (a : ℕ). 10 ^ a) refl

-- the entry that stands for k
pub power_at : (k a : ℕ) → k ≤ 19 → k ≡ a → get_or powers a (10 ^ a) ≡ 10 ^ k
power_at k a h e = power_rule a (omega arith) ∙ ap (λ (i : ℕ). 10 ^ i) (sym e)

-- k is none of the first n numbers
abbrev pub Past : ℕ → ℕ → Type 0
Past zero k = Unit {0}
Past (suc n) k = Past n k × (k ≡ n → ⊥)

pub past_all : (n k : ℕ) → Past n k → n ≤ k
past_all zero k p = zero-le
past_all (suc n) k p = lt_of_le-ne (past_all n k p.0) (λ e. p.1 (sym e))

-- ---- the number with its lowest bit set

odd_is : (n : ℕ) → bit_or n 1 + n % 2 ≡ n + 1
odd_is n = ap (λ (x : ℕ). bit_or n 1 + x) (sym (and_mask n 1)) ∙ or_add_and n 1

-- has as many digits
odd_length : (n : ℕ) → length (decimal (bit_or n 1)) ≡ length (decimal n)
odd_length n = go (size n)
  where
    go : Size n → length (decimal (bit_or n 1)) ≡ length (decimal n)
    go (one_digit s) = length_small (bit_or n 1) (omega (arith, odd_is n)) ∙ sym (length_small n s)
    go (more_digits s) =
        let e : bit_or n 1 / 10 ≡ n / 10 = omega (arith, odd_is n) in
        length_large (bit_or n 1) (omega (arith, odd_is n))
        ∙ ap (λ (x : ℕ). suc (length (decimal x))) e
        ∙ sym (length_large n s)

-- ---- digits by bits

-- what so many bits say: log 2 is about 1233 / 4096
abbrev pub digits_of : ℕ → ℕ
digits_of bits = bits * 1233 / 4096

-- a number from 2 ^ j on and below 2 ^ (j + 1) has as many digits as `digits_of` says, or one more
record Fits (j : ℕ) : Type 0 where
  more : 10 ^ (digits_of (suc j) - 1) ≤ 2 ^ j
  most : 2 ^ suc j ≤ 10 ^ suc (digits_of (suc j))

fits : ℕ → Bool
fits j = leb (10 ^ (digits_of (suc j) - 1)) (2 ^ j) && leb (2 ^ suc j) (10 ^ suc (digits_of (suc j)))

all_fit : ℕ → Bool
all_fit zero = true
all_fit (suc n) = fits n && all_fit n

fits_below : (n j : ℕ) → all_fit n ≡ true → j < n → Fits j
unfolding fits all_fit
fits_below zero j e h = absurd (not-suc-le-zero h)
fits_below (suc n) j e h = ⊎_elim last (λ l. fits_below n j t.1 (le_of_suc-le-suc l)) (eq-or-lt_of_le h)
  where
    t : (fits n ≡ true) × (all_fit n ≡ true)
    t = and_parts (fits n) (all_fit n) e

    here : Fits n
    here =
        let b = and_parts (leb (10 ^ (digits_of (suc n) - 1)) (2 ^ n)) (leb (2 ^ suc n) (10 ^ suc (digits_of (suc n)))) t.0 in
        record { more = leb-true _ _ b.0; most = leb-true _ _ b.1 }

    last : suc j ≡ suc n → Fits j
    last e = let q : j ≡ n = omega arith in rw q here

-- each length of a word
fits_all : (j : ℕ) → j < 64 → Fits j
unfolding fits all_fit
fits_all j h = fits_below 64 j refl h

-- ---- a number of a word

module _ (n : ℕ) (h : n < 2 ^ 64) where
  abbrev bits : ℕ
  bits = 64 - count_leading_zeros 64 (bit_or n 1)

  top : (j : ℕ) × (count_leading_zeros 64 (bit_or n 1) + suc j ≡ 64) × (2 ^ j ≤ bit_or n 1) × (bit_or n 1 < 2 ^ suc j)
  top = leading_top 64 (bit_or n 1) (omega (arith, odd_is n)) (or_lt 64 n 1 h (omega arith))

  fit : Fits top.0
  fit = fits_all top.0 (omega (arith, top.1))

  bits_are : bits ≡ suc top.0
  bits_are = omega (arith, top.1)

  pub bits_fit : count_leading_zeros 64 (bit_or n 1) ≤ 64
  bits_fit = omega (arith, top.1)

  pub digits_fit : digits_of bits ≤ 19
  digits_fit = omega (arith, top.1)

  -- below the power it has as many digits
  pub counted_below : bit_or n 1 < 10 ^ digits_of bits → digits_of bits ≡ length (decimal n)
  counted_below l = go (digits_of bits) refl l ∙ odd_length n
    where
      go : (k : ℕ) → digits_of bits ≡ k → bit_or n 1 < 10 ^ k → digits_of bits ≡ length (decimal (bit_or n 1))
      go zero e p = absurd (let z : ⊥ = omega (arith, odd_is n) in z)
      go (suc k) e p =
          let same : digits_of (suc top.0) - 1 ≡ k = omega (arith, ap digits_of bits_are, e) in
          let low : 10 ^ k ≤ 2 ^ top.0 = rw same at fit.more in
          omega (arith, e, length_most k (bit_or n 1) p, length_more k (bit_or n 1) (le_trans low top.2))

  -- and else one more
  pub counted_from : 10 ^ digits_of bits ≤ bit_or n 1 → digits_of bits + 1 ≡ length (decimal n)
  counted_from l =
      let high : 2 ^ suc top.0 ≤ 10 ^ suc (digits_of bits) = rw bits_are fit.most in
      omega (
        arith,
        odd_length n,
        length_more (digits_of bits) (bit_or n 1) l,
        length_most (digits_of bits) (bit_or n 1) (lt_of_lt_of_le top.3 high),
      )
