-- Eight digits in a word, taken together by pairs, by fours and all. Assumes nothing.
use Prim.Native.Nat.{ℕ, ◌+◌, ◌*◌, ◌/◌, ◌%◌, ◌^◌, ◌<◌}
use native.Mathlib.Omega.{arith}
use mathlib.Core.Path.{◌≡◌, ap, ap₂, ◌∙◌, subst}
use lib.Bits.{bit_and, and_block, and_mask}
use lib.Pow.{low, high}
use Rattle.pool.specs.Lanes.{lane}
use Rattle.pool.specs.LaneLaws.{word_sum}
use Rattle.number.specs.NumberCode.{lanes_value}

-- ---- masks of wide lanes

-- the lower bytes of two numbers of sixteen bits
and_two : (a b k l : ℕ) → k < 2 ^ 8 → b < 2 ^ 8 → l < 2 ^ 8 → bit_and ((a * 2 ^ 8 + k) * 2 ^ 16 + (b * 2 ^ 8 + l)) 0x00FF00FF ≡ k * 2 ^ 16 + l
and_two a b k l hk hb hl =
    and_block 16 (a * 2 ^ 8 + k) 255 (b * 2 ^ 8 + l) 255 (omega arith) (omega arith)
    ∙ ap₂ (λ (x y : ℕ). x * 2 ^ 16 + y) (and_mask (a * 2 ^ 8 + k) 8 ∙ low a 8 hk) (and_mask (b * 2 ^ 8 + l) 8 ∙ low b 8 hl)

-- and of four
and_four
    : (z a b c d k l m n : ℕ) → k < 2 ^ 8 → b < 2 ^ 8 → l < 2 ^ 8 → c < 2 ^ 8 → m < 2 ^ 8 → d < 2 ^ 8 → n < 2 ^ 8
    → z ≡ ((a * 2 ^ 8 + k) * 2 ^ 16 + (b * 2 ^ 8 + l)) * 2 ^ 32 + ((c * 2 ^ 8 + m) * 2 ^ 16 + (d * 2 ^ 8 + n))
    → bit_and z 0x00FF00FF00FF00FF ≡ (k * 2 ^ 16 + l) * 2 ^ 32 + (m * 2 ^ 16 + n)
and_four z a b c d k l m n hk hb hl hc hm hd hn e =
    ap (λ (y : ℕ). bit_and y 0x00FF00FF00FF00FF) e
    ∙ and_block 32 ((a * 2 ^ 8 + k) * 2 ^ 16 + (b * 2 ^ 8 + l)) 0x00FF00FF ((c * 2 ^ 8 + m) * 2 ^ 16 + (d * 2 ^ 8 + n)) 0x00FF00FF (omega arith) (omega arith)
    ∙ ap₂ (λ (x y : ℕ). x * 2 ^ 32 + y) (and_two a b k l hk hb hl) (and_two c d m n hm hd hn)

-- the lower halves of two numbers of 32 bits
and_halves
    : (z a b k l : ℕ) → k < 2 ^ 16 → b < 2 ^ 16 → l < 2 ^ 16 → z ≡ (a * 2 ^ 16 + k) * 2 ^ 32 + (b * 2 ^ 16 + l)
    → bit_and z 0x0000FFFF0000FFFF ≡ k * 2 ^ 32 + l
and_halves z a b k l hk hb hl e =
    ap (λ (y : ℕ). bit_and y 0x0000FFFF0000FFFF) e
    ∙ and_block 32 (a * 2 ^ 16 + k) 65535 (b * 2 ^ 16 + l) 65535 (omega arith) (omega arith)
    ∙ ap₂ (λ (x y : ℕ). x * 2 ^ 32 + y) (and_mask (a * 2 ^ 16 + k) 16 ∙ low a 16 hk) (and_mask (b * 2 ^ 16 + l) 16 ∙ low b 16 hl)

-- ---- three products

abbrev pub firsts : ℕ → ℕ
firsts x = bit_and (x / 2 ^ 8) 0x00FF00FF00FF00FF

abbrev pub pairs : ℕ → ℕ
pairs x = firsts x * 10 + bit_and x 0x00FF00FF00FF00FF

abbrev pub first_pairs : ℕ → ℕ
first_pairs a = bit_and (a / 2 ^ 16) 0x0000FFFF0000FFFF

abbrev pub fours : ℕ → ℕ
fours a = first_pairs a * 100 + bit_and a 0x0000FFFF0000FFFF

abbrev pub all : ℕ → ℕ
all b = b / 2 ^ 32 * 10000 + bit_and b 0xFFFFFFFF

all_of : (b q r : ℕ) → r < 2 ^ 32 → b ≡ q * 2 ^ 32 + r → all b ≡ q * 10000 + r
all_of b q r h e =
    ap₂ (λ (x y : ℕ). x * 10000 + y)
    (ap (λ (y : ℕ). y / 2 ^ 32) e ∙ high q 32 h)
    (and_mask b 32 ∙ ap (λ (y : ℕ). y % 2 ^ 32) e ∙ low q 32 h)

-- the products of a word come to v, and none of them is more than a word holds
pub record Products (x v : ℕ) : Type 0 where
  pub pairs_fit : pairs x < 2 ^ 64
  pub fours_fit : fours (pairs x) < 2 ^ 64
  pub all_fit : all (fours (pairs x)) < 2 ^ 64
  pub value : all (fours (pairs x)) ≡ v

-- a word of eight digits
module _ (x d₀ d₁ d₂ d₃ d₄ d₅ d₆ d₇ : ℕ)
    (h₀ : d₀ < 10) (h₁ : d₁ < 10) (h₂ : d₂ < 10) (h₃ : d₃ < 10) (h₄ : d₄ < 10) (h₅ : d₅ < 10) (h₆ : d₆ < 10) (h₇ : d₇ < 10)
    (e : x ≡ d₀ * 2 ^ 56 + d₁ * 2 ^ 48 + d₂ * 2 ^ 40 + d₃ * 2 ^ 32 + d₄ * 2 ^ 24 + d₅ * 2 ^ 16 + d₆ * 2 ^ 8 + d₇) where
  firsts_are : firsts x ≡ (d₀ * 2 ^ 16 + d₂) * 2 ^ 32 + (d₄ * 2 ^ 16 + d₆)
  firsts_are =
      and_four (x / 2 ^ 8) 0 d₁ d₃ d₅ d₀ d₂ d₄ d₆ (omega arith) (omega arith) (omega arith) (omega arith) (omega arith) (omega arith)
      (omega arith) (omega arith)

  seconds_are : bit_and x 0x00FF00FF00FF00FF ≡ (d₁ * 2 ^ 16 + d₃) * 2 ^ 32 + (d₅ * 2 ^ 16 + d₇)
  seconds_are =
      and_four x d₀ d₂ d₄ d₆ d₁ d₃ d₅ d₇ (omega arith) (omega arith) (omega arith) (omega arith) (omega arith) (omega arith) (omega arith) (omega arith)

  pairs_are : pairs x ≡ ((d₀ * 10 + d₁) * 2 ^ 16 + (d₂ * 10 + d₃)) * 2 ^ 32 + ((d₄ * 10 + d₅) * 2 ^ 16 + (d₆ * 10 + d₇))
  pairs_are = omega (arith, firsts_are, seconds_are)

  first_pairs_are : first_pairs (pairs x) ≡ (d₀ * 10 + d₁) * 2 ^ 32 + (d₄ * 10 + d₅)
  first_pairs_are =
      and_halves (pairs x / 2 ^ 16) 0 (d₂ * 10 + d₃) (d₀ * 10 + d₁) (d₄ * 10 + d₅) (omega arith) (omega arith) (omega arith) (omega (arith, pairs_are))

  second_pairs_are : bit_and (pairs x) 0x0000FFFF0000FFFF ≡ (d₂ * 10 + d₃) * 2 ^ 32 + (d₆ * 10 + d₇)
  second_pairs_are =
      and_halves (pairs x) (d₀ * 10 + d₁) (d₄ * 10 + d₅) (d₂ * 10 + d₃) (d₆ * 10 + d₇) (omega arith) (omega arith) (omega arith) pairs_are

  fours_are
      : fours (pairs x) ≡ (d₀ * 1000 + d₁ * 100 + d₂ * 10 + d₃) * 2 ^ 32 + (d₄ * 1000 + d₅ * 100 + d₆ * 10 + d₇)
  fours_are = omega (arith, first_pairs_are, second_pairs_are)

  all_are
      : all (fours (pairs x))
      ≡ d₀ * 10000000 + d₁ * 1000000 + d₂ * 100000 + d₃ * 10000 + d₄ * 1000 + d₅ * 100 + d₆ * 10 + d₇
  all_are =
      all_of (fours (pairs x)) (d₀ * 1000 + d₁ * 100 + d₂ * 10 + d₃) (d₄ * 1000 + d₅ * 100 + d₆ * 10 + d₇) (omega arith) fours_are
      ∙ omega arith

  products : Products x (d₀ * 10000000 + d₁ * 1000000 + d₂ * 100000 + d₃ * 10000 + d₄ * 1000 + d₅ * 100 + d₆ * 10 + d₇)
  products =
      record {
        pairs_fit = omega (arith, pairs_are);
        fours_fit = omega (arith, fours_are);
        all_fit = omega (arith, all_are);
        value = all_are;
      }

-- by the bytes of the word
pub lanes_products : (x : ℕ) → x < 2 ^ 64 → ((j : ℕ) → j < 8 → lane x j < 10) → Products x (lanes_value x 8)
unfolding lanes_value
lanes_products x hx h =
    subst (Products x) same
    (products x (lane x 0) (lane x 1) (lane x 2) (lane x 3) (lane x 4) (lane x 5) (lane x 6) (lane x 7)
    (h 0 (omega arith)) (h 1 (omega arith)) (h 2 (omega arith)) (h 3 (omega arith))
    (h 4 (omega arith)) (h 5 (omega arith)) (h 6 (omega arith)) (h 7 (omega arith)) (word_sum hx))
  where
    same
        : lane x 0 * 10000000 + lane x 1 * 1000000 + lane x 2 * 100000 + lane x 3 * 10000 + lane x 4 * 1000 + lane x 5 * 100 + lane x 6 * 10 + lane x 7
        ≡ lanes_value x 8
    same = omega arith
