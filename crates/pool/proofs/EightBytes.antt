-- The word of eight bytes that stand in a row, and of its first bytes with zeros behind them. Assumes nothing.
use Prim.Native.Nat.{ℕ, zero, suc, ◌+◌, ◌-◌, ◌*◌, ◌/◌, ◌%◌, ◌^◌, ◌≤◌, ◌<◌}
use mathlib.Core.Path.{◌≡◌, refl, sym, ap, ap₂, ◌∙◌, subst}
use mathlib.Core.List.{List, [], ◌∷◌, ◌++◌}
use native.Mathlib.Nat.{mod-eq_of_lt}
use native.Mathlib.Omega.{arith}
use lib.Bits.{bit_and, and_high}
use lib.ListN.{length, get_or, take, drop, replicate, length-replicate}
use lib.Pow.{shl_exact, shr_lt}
use lib.Seq.{drop_at}
use Rattle.definitions.specs.Bytes.{Bytes}
use Rattle.pool.specs.Pool.{unpacked}
use Rattle.pool.specs.LaneLaws.{part, unpacked_shl, unpacked_shr}

-- the bytes from place i on, one by one
part_on
    : (doc : Bytes) (i j k : ℕ) → i + j < length doc
    → take (suc k) (drop (i + j) doc) ≡ get_or doc (i + j) 0 ∷ take k (drop (i + (j + 1)) doc)
part_on doc i j k h =
    part doc (i + j) k h ∙ ap (λ (x : ℕ). get_or doc (i + j) 0 ∷ take k (drop x doc)) (let e : i + j + 1 ≡ i + (j + 1) = omega arith in e)

eight_bytes
    : (doc : Bytes) (i : ℕ) → i + 8 ≤ length doc
    → take 8 (drop i doc)
    ≡ get_or doc i 0
    ∷ get_or doc (i + 1) 0
    ∷ get_or doc (i + 2) 0
    ∷ get_or doc (i + 3) 0
    ∷ get_or doc (i + 4) 0
    ∷ get_or doc (i + 5) 0
    ∷ get_or doc (i + 6) 0
    ∷ get_or doc (i + 7) 0
    ∷ []
eight_bytes doc i h =
    part doc i 7 (omega arith)
    ∙ ap (λ (s : Bytes). get_or doc i 0 ∷ s)
    (part_on doc i 1 6 (omega arith)
    ∙ ap (λ (s : Bytes). get_or doc (i + 1) 0 ∷ s)
    (part_on doc i 2 5 (omega arith)
    ∙ ap (λ (s : Bytes). get_or doc (i + 2) 0 ∷ s)
    (part_on doc i 3 4 (omega arith)
    ∙ ap (λ (s : Bytes). get_or doc (i + 3) 0 ∷ s)
    (part_on doc i 4 3 (omega arith)
    ∙ ap (λ (s : Bytes). get_or doc (i + 4) 0 ∷ s)
    (part_on doc i 5 2 (omega arith)
    ∙ ap (λ (s : Bytes). get_or doc (i + 5) 0 ∷ s)
    (part_on doc i 6 1 (omega arith)
    ∙ ap (λ (s : Bytes). get_or doc (i + 6) 0 ∷ s)
    (part_on doc i 7 0 (omega arith))))))))

unpacked_sum
    : (a b c d e f g h : ℕ) → a < 256 → b < 256 → c < 256 → d < 256 → e < 256 → f < 256 → g < 256 → h < 256
    → unpacked (a * 2 ^ 56 + b * 2 ^ 48 + c * 2 ^ 40 + d * 2 ^ 32 + e * 2 ^ 24 + f * 2 ^ 16 + g * 2 ^ 8 + h) ≡ a ∷ b ∷ c ∷ d ∷ e ∷ f ∷ g ∷ h ∷ []
unfolding unpacked
unpacked_sum a b c d e f g h ha hb hc hd he hf hg hh =
    ap₂ ◌∷◌ (omega arith)
    (ap₂ ◌∷◌ (omega arith)
    (ap₂ ◌∷◌ (omega arith)
    (ap₂ ◌∷◌ (omega arith)
    (ap₂ ◌∷◌ (omega arith) (ap₂ ◌∷◌ (omega arith) (ap₂ ◌∷◌ (omega arith) (ap₂ ◌∷◌ (omega arith) refl)))))))

-- the word of which these eight bytes are the digits, the highest first
pub unpacked_word
    : (doc : Bytes) (i x : ℕ) → i + 8 ≤ length doc → ((k : ℕ) → get_or doc k 0 < 256)
    → x
    ≡ get_or doc i 0 * 2 ^ 56
    + get_or doc (i + 1) 0 * 2 ^ 48
    + get_or doc (i + 2) 0 * 2 ^ 40
    + get_or doc (i + 3) 0 * 2 ^ 32
    + get_or doc (i + 4) 0 * 2 ^ 24
    + get_or doc (i + 5) 0 * 2 ^ 16
    + get_or doc (i + 6) 0 * 2 ^ 8
    + get_or doc (i + 7) 0
    → unpacked x ≡ take 8 (drop i doc)
unpacked_word doc i x h small e =
    ap unpacked e
    ∙ unpacked_sum (get_or doc i 0) (get_or doc (i + 1) 0) (get_or doc (i + 2) 0) (get_or doc (i + 3) 0) (get_or doc (i + 4) 0)
    (get_or doc (i + 5) 0) (get_or doc (i + 6) 0) (get_or doc (i + 7) 0)
    (small i) (small (i + 1)) (small (i + 2)) (small (i + 3)) (small (i + 4)) (small (i + 5)) (small (i + 6)) (small (i + 7))
    ∙ sym (eight_bytes doc i h)

-- ---- its first bytes

-- the words whose first bytes are full and whose others are zero
abbrev pub masks : List ℕ
masks =
    0
    ∷ 0xFF00000000000000
    ∷ 0xFFFF000000000000
    ∷ 0xFFFFFF0000000000
    ∷ 0xFFFFFFFF00000000
    ∷ 0xFFFFFFFFFF000000
    ∷ 0xFFFFFFFFFFFF0000
    ∷ 0xFFFFFFFFFFFFFF00
    ∷ 0xFFFFFFFFFFFFFFFF
    ∷ []

pub masks_at : (m : ℕ) → m ≤ 8 → get_or masks m 0 ≡ 2 ^ 64 - 2 ^ (64 - 8 * m)
masks_at zero h = refl
masks_at (suc zero) h = refl
masks_at (suc (suc zero)) h = refl
masks_at (suc (suc (suc zero))) h = refl
masks_at (suc (suc (suc (suc zero)))) h = refl
masks_at (suc (suc (suc (suc (suc zero))))) h = refl
masks_at (suc (suc (suc (suc (suc (suc zero)))))) h = refl
masks_at (suc (suc (suc (suc (suc (suc (suc zero))))))) h = refl
masks_at (suc (suc (suc (suc (suc (suc (suc (suc zero)))))))) h = refl
masks_at (suc (suc (suc (suc (suc (suc (suc (suc (suc m))))))))) h = absurd (let z : ⊥ = omega arith in z)

-- the mask clears what shifts down and up again would
pub unpacked_front
    : (x m y : ℕ) → x < 2 ^ 64 → m ≤ 8 → y ≡ 2 ^ 64 - 2 ^ (64 - 8 * m) → unpacked (bit_and x y) ≡ take m (unpacked x) ++ replicate (8 - m) 0
unpacked_front x m y hx hm e =
    ap unpacked (ap (bit_and x) (e ∙ mask) ∙ and_high x (8 * m) (8 * k) ∙ ap (λ (n : ℕ). n * 2 ^ (8 * k)) (mod-eq_of_lt small) ∙ sym fits)
    ∙ unpacked_shl (x / 2 ^ (8 * k)) k (omega arith)
    ∙ ap (λ (s : Bytes). drop k s ++ replicate k 0) (unpacked_shr x k hx (omega arith))
    ∙ ap (λ (s : Bytes). s ++ replicate k 0) (drop_at (replicate k 0) (take (8 - k) (unpacked x)) k (length-replicate {A = ℕ} k 0))
    ∙ ap (λ (n : ℕ). take n (unpacked x) ++ replicate k 0) (let q : 8 - k ≡ m = omega arith in q)
  where
    k : ℕ
    k = 8 - m

    whole : 64 ≡ 8 * m + 8 * k
    whole = omega arith

    mask : 2 ^ 64 - 2 ^ (64 - 8 * m) ≡ 2 ^ (8 * m + 8 * k) - 2 ^ (8 * k)
    mask = ap₂ (λ (i j : ℕ). 2 ^ i - 2 ^ j) whole (let q : 64 - 8 * m ≡ 8 * k = omega arith in q)

    small : x / 2 ^ (8 * k) < 2 ^ (8 * m)
    small = shr_lt (8 * m) (8 * k) (subst (λ (i : ℕ). x < 2 ^ i) whole hx)

    fits : x / 2 ^ (8 * k) * 2 ^ (8 * k) % 2 ^ 64 ≡ x / 2 ^ (8 * k) * 2 ^ (8 * k)
    fits = shl_exact (8 * m) (8 * k) 64 small (omega arith)
