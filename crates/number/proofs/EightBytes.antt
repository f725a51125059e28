-- Eight digits as the bytes of a word: by halves, by quarters, and each its byte. Assumes nothing.
use Prim.Native.Nat.{ℕ, ◌+◌, ◌-◌, ◌*◌, ◌/◌, ◌%◌, ◌^◌, ◌≤◌, ◌<◌}
use native.Mathlib.Nat.{mod-eq_of_lt}
use native.Mathlib.Omega.{arith}
use mathlib.Core.Path.{◌≡◌, sym, ap, ap₂, ◌∙◌, subst, subst₂}
use mathlib.Core.List.{List, [], ◌∷◌}
use lib.Bits.{bit_and, and_block, and_mask}
use lib.ListN.{length}
use Rattle.number.specs.NumberGroups.{Lows, Halves, Quarters}

-- ---- quotients by products

over_4 : (q r : ℕ) → q < 10 ^ 4 → r < 10 ^ 4 → (q * 10 ^ 4 + r) * 109951163 / 2 ^ 40 ≡ q
over_4 q r hq hr = omega arith

over_2 : (q r : ℕ) → q < 10 ^ 2 → r < 10 ^ 2 → (q * 10 ^ 2 + r) * 10486 / 2 ^ 20 ≡ q
over_2 q r hq hr = omega arith

over_1 : (q r : ℕ) → q < 10 → r < 10 → (q * 10 + r) * 103 / 2 ^ 10 ≡ q
over_1 q r hq hr = omega arith

-- ---- both halves at once

-- two numbers below 128, each in the lowest bits of its half
and_two : (z p q u : ℕ) → p < 2 ^ 7 → q < 2 ^ 7 → u < 2 ^ 20 → z ≡ p * 2 ^ 32 + (u * 2 ^ 12 + q) → bit_and z 0x0000007F0000007F ≡ p * 2 ^ 32 + q
and_two z p q u hp hq hu e =
    ap (λ (y : ℕ). bit_and y 0x0000007F0000007F) e
    ∙ and_block 32 p 127 (u * 2 ^ 12 + q) 127 (omega arith) (omega arith)
    ∙ ap₂ (λ (x y : ℕ). x * 2 ^ 32 + y)
    (and_mask p 7 ∙ (let l : p % 2 ^ 7 ≡ p = omega arith in l))
    (and_mask (u * 2 ^ 12 + q) 7 ∙ (let l : (u * 2 ^ 12 + q) % 2 ^ 7 ≡ q = omega arith in l))

two_over_2
    : (z a b k l : ℕ) → a < 10 ^ 2 → b < 10 ^ 2 → k < 10 ^ 2 → l < 10 ^ 2 → z ≡ (a * 10 ^ 2 + b) * 2 ^ 32 + (k * 10 ^ 2 + l)
    → bit_and (z * 10486 / 2 ^ 20) 0x0000007F0000007F ≡ a * 2 ^ 32 + k
two_over_2 z a b k l ha hb hk hl e =
    and_two (z * 10486 / 2 ^ 20) a k ((a * 10 ^ 2 + b) * 10486 % 2 ^ 20) (omega arith) (omega arith) (omega arith)
    (omega (arith, over_2 a b ha hb, over_2 k l hk hl))

-- ---- all four at once

-- a digit in each quarter, with up to ten bits above it
and_four
    : (z p q k l u v w : ℕ) → p < 10 → q < 10 → k < 10 → l < 10 → u < 2 ^ 10 → v < 2 ^ 10 → w < 2 ^ 10
    → z ≡ (p * 2 ^ 16 + (u * 2 ^ 6 + q)) * 2 ^ 32 + ((v * 2 ^ 6 + k) * 2 ^ 16 + (w * 2 ^ 6 + l))
    → bit_and z 0x000F000F000F000F ≡ (p * 2 ^ 16 + q) * 2 ^ 32 + (k * 2 ^ 16 + l)
and_four z p q k l u v w hp hq hk hl hu hv hw e =
    ap (λ (y : ℕ). bit_and y 0x000F000F000F000F) e
    ∙ and_block 32 (p * 2 ^ 16 + (u * 2 ^ 6 + q)) 0x000F000F ((v * 2 ^ 6 + k) * 2 ^ 16 + (w * 2 ^ 6 + l)) 0x000F000F (omega arith)
    (omega arith)
    ∙ ap₂ (λ (x y : ℕ). x * 2 ^ 32 + y) (half p (u * 2 ^ 6 + q) p q (omega arith) (omega arith) (omega arith))
    (half (v * 2 ^ 6 + k) (w * 2 ^ 6 + l) k l (omega arith) (omega arith) (omega arith))
  where
    half : (a b i j : ℕ) → b < 2 ^ 16 → a % 2 ^ 4 ≡ i → b % 2 ^ 4 ≡ j → bit_and (a * 2 ^ 16 + b) 0x000F000F ≡ i * 2 ^ 16 + j
    half a b i j hb ea eb =
        and_block 16 a 15 b 15 (omega arith) (omega arith)
        ∙ ap₂ (λ (x y : ℕ). x * 2 ^ 16 + y) (and_mask a 4 ∙ ea) (and_mask b 4 ∙ eb)

-- ---- halves

module _ (x p : ℕ) (h : x < 10 ^ 8) (e : p ≡ 10 ^ 4) where
  abbrev upper : ℕ
  upper = x * 109951163 / 2 ^ 40

  upper_is : upper ≡ x / 10 ^ 4
  upper_is = omega arith

  pub halves_fit : upper * p < 2 ^ 64
  halves_fit = rw e (omega (arith, upper_is))

  pub halves_least : upper * p ≤ x
  halves_least = rw e (omega (arith, upper_is))

  pub halves_are : Halves x (upper * 2 ^ 32 % 2 ^ 64 + (x - upper * p))
  halves_are = record { parts = rw e (omega (arith, upper_up, upper_is)) }
    where
      upper_up : upper * 2 ^ 32 % 2 ^ 64 ≡ upper * 2 ^ 32
      upper_up = mod-eq_of_lt (let l : upper * 2 ^ 32 < 2 ^ 64 = omega (arith, upper_is) in l)

-- ---- quarters

module _ (x w p : ℕ) (h : x < 10 ^ 8) (b : Halves x w) (e : p ≡ 10 ^ 2) where
  abbrev uppers : ℕ
  uppers = bit_and (w * 10486 / 2 ^ 20) 0x0000007F0000007F

  uppers_are : uppers ≡ x / 10 ^ 4 / 10 ^ 2 * 2 ^ 32 + x % 10 ^ 4 / 10 ^ 2
  uppers_are =
      two_over_2 w (x / 10 ^ 4 / 10 ^ 2) (x / 10 ^ 4 % 10 ^ 2) (x % 10 ^ 4 / 10 ^ 2) (x % 10 ^ 4 % 10 ^ 2) (omega arith) (omega arith) (omega arith)
      (omega arith) (omega (arith, b.parts))

  pub quarters_fit : uppers * p < 2 ^ 64
  quarters_fit = rw e (omega (arith, uppers_are))

  pub quarters_least : uppers * p ≤ w
  quarters_least = rw e (omega (arith, uppers_are, b.parts))

  uppers_up : uppers * 2 ^ 16 % 2 ^ 64 ≡ uppers * 2 ^ 16
  uppers_up = mod-eq_of_lt (let l : uppers * 2 ^ 16 < 2 ^ 64 = omega (arith, uppers_are) in l)

  pub quarters_are : Quarters x (uppers * 2 ^ 16 % 2 ^ 64 + (w - uppers * p))
  quarters_are = record { parts = rw e (omega (arith, uppers_up, uppers_are, b.parts)) }

  pub quarters_sum : uppers * 2 ^ 16 % 2 ^ 64 + (w - uppers * p) < 2 ^ 64
  quarters_sum = omega (arith, quarters_are.parts)

-- a number below 10^2 is its own
pub own_quarters : (x : ℕ) → x < 10 ^ 2 → Quarters x x
own_quarters x h = record { parts = omega arith }

-- ---- bytes

-- digits, the last one first: as the bytes of a word, and as a number
abbrev word_of : List ℕ → ℕ
word_of [] = 0
word_of (d ∷ ds) = word_of ds * 256 + (48 + d)

abbrev value_of : List ℕ → ℕ
value_of [] = 0
value_of (d ∷ ds) = value_of ds * 10 + d

abbrev Digits : List ℕ → Type 0
Digits [] = Unit {0}
Digits (d ∷ ds) = (d < 10) × Digits ds

lows_of : (ds : List ℕ) → Digits ds → Lows (length ds) (word_of ds) (value_of ds)
lows_of [] b = tt
lows_of (d ∷ ds) b =
    let r = word_of ds in
    let y = value_of ds in
    let small = b.0 in (
      (let q : (r * 256 + (48 + d)) % 256 ≡ 48 + (y * 10 + d) % 10 = omega arith in q),
      subst₂ (Lows (length ds))
          (let q : r ≡ (r * 256 + (48 + d)) / 256 = omega arith in q)
          (let q : y ≡ (y * 10 + d) / 10 = omega arith in q)
          (lows_of ds b.1),
    )

-- the first digits of four numbers below 10^2, and all eight as bytes
abbrev tens : ℕ → ℕ
tens w = bit_and (w * 103 / 2 ^ 10) 0x000F000F000F000F

abbrev made : ℕ → ℕ → ℕ
made w p = tens w * 2 ^ 8 % 2 ^ 64 + (w - tens w * p) + 0x3030303030303030

-- they are the digits of x
pub record Eighths (x w p : ℕ) : Type 0 where
  pub fits : tens w * p < 2 ^ 64
  pub least : tens w * p ≤ w
  pub sum : made w p < 2 ^ 64
  pub bytes : Lows 8 (made w p) x

module _ (w d₀ d₁ d₂ d₃ d₄ d₅ d₆ d₇ : ℕ)
    (h₀ : d₀ < 10) (h₁ : d₁ < 10) (h₂ : d₂ < 10) (h₃ : d₃ < 10) (h₄ : d₄ < 10) (h₅ : d₅ < 10) (h₆ : d₆ < 10) (h₇ : d₇ < 10)
    (b : w ≡ ((d₀ * 10 + d₁) * 2 ^ 16 + (d₂ * 10 + d₃)) * 2 ^ 32 + ((d₄ * 10 + d₅) * 2 ^ 16 + (d₆ * 10 + d₇))) where
  tens_are : tens w ≡ (d₀ * 2 ^ 16 + d₂) * 2 ^ 32 + (d₄ * 2 ^ 16 + d₆)
  tens_are =
      and_four (w * 103 / 2 ^ 10) d₀ d₂ d₄ d₆ ((d₀ * 10 + d₁) * 103 % 2 ^ 10) ((d₂ * 10 + d₃) * 103 % 2 ^ 10) ((d₄ * 10 + d₅) * 103 % 2 ^ 10)
      h₀ h₂ h₄ h₆ (omega arith) (omega arith) (omega arith)
      (omega (arith, over_1 d₀ d₁ h₀ h₁, over_1 d₂ d₃ h₂ h₃, over_1 d₄ d₅ h₄ h₅, over_1 d₆ d₇ h₆ h₇))

  tens_up : tens w * 2 ^ 8 % 2 ^ 64 ≡ tens w * 2 ^ 8
  tens_up = mod-eq_of_lt (let l : tens w * 2 ^ 8 < 2 ^ 64 = omega (arith, tens_are) in l)

  bytes_are
      : word_of (d₇ ∷ d₆ ∷ d₅ ∷ d₄ ∷ d₃ ∷ d₂ ∷ d₁ ∷ d₀ ∷ []) ≡ made w 10
  bytes_are = omega (arith, tens_up, tens_are)

  by_digits : (x : ℕ) → value_of (d₇ ∷ d₆ ∷ d₅ ∷ d₄ ∷ d₃ ∷ d₂ ∷ d₁ ∷ d₀ ∷ []) ≡ x → Eighths x w 10
  by_digits x e =
      record {
        fits = omega (arith, tens_are);
        least = omega (arith, tens_are);
        sum = omega (arith, bytes_are);
        bytes = subst₂ (Lows 8) bytes_are e
            (lows_of (d₇ ∷ d₆ ∷ d₅ ∷ d₄ ∷ d₃ ∷ d₂ ∷ d₁ ∷ d₀ ∷ []) (h₇, (h₆, (h₅, (h₄, (h₃, (h₂, (h₁, (h₀, tt)))))))));
      }

pub eighths_are : (x w p : ℕ) → x < 10 ^ 8 → Quarters x w → p ≡ 10 ^ 1 → Eighths x w p
eighths_are x w p h b e =
    subst (Eighths x w) (sym e)
    (by_digits w (a₀ / 10) (a₀ % 10) (a₁ / 10) (a₁ % 10) (a₂ / 10) (a₂ % 10) (a₃ / 10) (a₃ % 10)
    (omega arith) (omega arith) (omega arith) (omega arith) (omega arith) (omega arith) (omega arith) (omega arith)
    (omega (arith, b.parts)) x (omega arith))
  where
    a₀ : ℕ
    a₀ = x / 10 ^ 4 / 10 ^ 2

    a₁ : ℕ
    a₁ = x / 10 ^ 4 % 10 ^ 2

    a₂ : ℕ
    a₂ = x % 10 ^ 4 / 10 ^ 2

    a₃ : ℕ
    a₃ = x % 10 ^ 4 % 10 ^ 2
