-- Laws of lanes: bit operations, sums, differences and shifts by whole bytes go byte by byte where no byte carries; a word is its bytes; the
-- first byte that a test refuses, by counting zeros. Assumes nothing.
use Prim.Native.Nat.{ℕ, zero, suc, ◌+◌, ◌-◌, ◌*◌, ◌/◌, ◌%◌, ◌^◌, ◌≤◌, ◌<◌}
use Rattle.std.specs.Prelude.{◌≡◌, refl, Bool, true, false, ◌&&◌, ◌∷◌, ◌++◌, T, eqb, length, get_or, take, drop, replicate}
use Rattle.std.proofs.Common.{sym, ap₂, ◌∙◌, div-one, mod-lt, mod-eq_of_lt, lt_of_lt_of_le, le-div_iff_mul-le, zero-lt-suc, add_comm, add-mul, mul_assoc}
use Rattle.std.proofs.Common.{mul_comm, one-mul, arith, eqb→eq, length-append, length-drop, pow-add, pow_mono, pow_pos, shr-shr, drop-cons, ext_get_or}
use Rattle.std.proofs.Common.{get_or-take, get_or-drop, get_or-append-add, length-take-le}
use Rattle.std.proofs.Math.Path.{ap, subst}
use Rattle.std.proofs.lemmas.Bool.{false≢true}
use Rattle.std.proofs.Math.Nat.{zero-div, zero-mod, div-eq_of_lt, le_trans, mul-mod_left}
use Rattle.std.proofs.Math.Decide.{dec_lt}
use Rattle.std.proofs.Math.Arith.{digits_div, digits_mod}
use Rattle.std.specs.Int.Bits.{bit_and, bit_or, bit_xor}
use Rattle.std.proofs.lemmas.Nat.{and_shr, or_shr, xor_shr, and_mod, or_mod, xor_mod, leading_top, shl-shr}
use Rattle.std.specs.Int.Count.{count_leading_zeros}
use Rattle.std.proofs.lemmas.List.{length-replicate, get_or-replicate}
use Rattle.std.proofs.Math.ListN.{get_or-append}
use Rattle.std.proofs.Math.Pow.{shr_mono, shr_lt, split, field, mod-mod-pow}
use Rattle.definitions.specs.Bytes.{Bytes}
use Rattle.pool.specs.Pool.{unpacked}
use Rattle.pool.specs.PoolLaws.{length_unpacked, get_or_unpacked}
use Rattle.pool.specs.Lanes.{lane, top, every, mark, Marks, FirstFails, agree}

-- ---- a byte of a word

pub lane_lt : (x j : ℕ) → lane x j < 256
unfolding lane
lane_lt x j = mod-lt (x / 2 ^ (56 - 8 * j)) (zero-lt-suc 255)

pub unpacked_lane : (x j : ℕ) → j < 8 → get_or (unpacked x) j 0 ≡ lane x j
unfolding lane
unpacked_lane x j h = get_or_unpacked x j h

-- of a word that eight bytes of a list make
pub lane_at : (x : ℕ) (s : Bytes) (i j : ℕ) → unpacked x ≡ take 8 (drop i s) → j < 8 → lane x j ≡ get_or s (i + j) 0
lane_at x s i j e h =
    sym (unpacked_lane x j h) ∙ ap (λ (t : Bytes). get_or t j 0) e ∙ get_or-take 8 (drop i s) j 0 h ∙ get_or-drop i s j 0

-- the bytes from place i on, by the first
pub part : (doc : Bytes) (i k : ℕ) → i < length doc → take (suc k) (drop i doc) ≡ get_or doc i 0 ∷ take k (drop (i + 1) doc)
part doc i k h =
    ap (take (suc k)) (drop-cons doc i 0 h) ∙ ap (λ (j : ℕ). get_or doc i 0 ∷ take k (drop j doc)) (let e : suc i ≡ i + 1 = omega arith in e)

-- the bytes of a word by its lanes
pub unpacked_by : (x : ℕ) (s : Bytes) → length s ≡ 8 → ((j : ℕ) → j < 8 → lane x j ≡ get_or s j 0) → unpacked x ≡ s
unpacked_by x s l h =
    ext_get_or 0 (unpacked x) s (length_unpacked x ∙ sym l)
    (λ j b. let k : j < 8 = omega (arith, length_unpacked x) in unpacked_lane x j k ∙ h j k)

pub lane_zero : (j : ℕ) → lane 0 j ≡ 0
unfolding lane
lane_zero j = ap (λ (y : ℕ). y % 256) (zero-div (2 ^ (56 - 8 * j))) ∙ zero-mod 256

-- by how far up it stands, counted from the lowest
lane_up : (x j : ℕ) → lane x j ≡ x / 2 ^ (8 * (7 - j)) % 256
unfolding lane
lane_up x j = ap (λ (s : ℕ). x / 2 ^ s % 256) (let e : 56 - 8 * j ≡ 8 * (7 - j) = omega arith in e)

-- one byte further up
up : (x n : ℕ) → x / 2 ^ (8 * suc n) ≡ x / 2 ^ (8 * n) / 256
up x n = ap (λ (s : ℕ). x / 2 ^ s) (let e : 8 * suc n ≡ 8 * n + 8 = omega arith in e) ∙ sym (shr-shr x (8 * n) 8)

-- a law of every byte, of the byte that stands n bytes up
from_low : (P : ℕ → Type 0) → ((j : ℕ) → j < 8 → P (7 - j)) → (n : ℕ) → n < 8 → P n
from_low P h n l = subst P (let e : 7 - (7 - n) ≡ n = omega arith in e) (h (7 - n) (omega arith))

-- ---- a word is its bytes

pub lane_of_top : (x y k j : ℕ) → k ≤ 8 → j < k → top x k ≡ top y k → lane x j ≡ lane y j
unfolding lane
lane_of_top x y k j hk hj e =
    ap (λ (z : ℕ). z % 256) (from x ∙ ap (λ (z : ℕ). z / 2 ^ (8 * k - 8 - 8 * j)) e ∙ sym (from y))
  where
    from : (z : ℕ) → z / 2 ^ (56 - 8 * j) ≡ top z k / 2 ^ (8 * k - 8 - 8 * j)
    from z =
        ap (λ (s : ℕ). z / 2 ^ s) (let q : 56 - 8 * j ≡ 64 - 8 * k + (8 * k - 8 - 8 * j) = omega arith in q)
        ∙ sym (shr-shr z (64 - 8 * k) (8 * k - 8 - 8 * j))

-- one byte more
pub top_next : (x k : ℕ) → k < 8 → top x (suc k) ≡ top x k * 256 + lane x k
unfolding lane
top_next x k h =
    ap (λ (s : ℕ). x / 2 ^ s) (let q : 64 - 8 * suc k ≡ 56 - 8 * k = omega arith in q)
    ∙ sym (split (x / 2 ^ (56 - 8 * k)) 8)
    ∙ ap (λ (z : ℕ). z * 256 + x / 2 ^ (56 - 8 * k) % 256)
    (shr-shr x (56 - 8 * k) 8 ∙ ap (λ (s : ℕ). x / 2 ^ s) (let q : 56 - 8 * k + 8 ≡ 64 - 8 * k = omega arith in q))

pub top_of_lanes : (x y k : ℕ) → x < 2 ^ 64 → y < 2 ^ 64 → k ≤ 8 → ((j : ℕ) → j < k → lane x j ≡ lane y j) → top x k ≡ top y k
top_of_lanes x y zero hx hy hk h = div-eq_of_lt hx ∙ sym (div-eq_of_lt hy)
top_of_lanes x y (suc k) hx hy hk h =
    top_next x k (omega arith)
    ∙ ap₂ (λ (z b : ℕ). z * 256 + b) (top_of_lanes x y k hx hy (omega arith) (λ j l. h j (omega arith))) (h k (omega arith))
    ∙ sym (top_next y k (omega arith))

-- a word is the sum of its bytes, each times its power
pub word_sum
    : {x : ℕ} → x < 2 ^ 64
    → x ≡ lane x 0 * 2 ^ 56 + lane x 1 * 2 ^ 48 + lane x 2 * 2 ^ 40 + lane x 3 * 2 ^ 32 + lane x 4 * 2 ^ 24 + lane x 5 * 2 ^ 16 + lane x 6 * 2 ^ 8 + lane x 7
word_sum {x} h = sym (div-one x) ∙ by (top x) (div-eq_of_lt h) (λ k l. top_next x k l)
  where
    -- as numbers that are unknown, so that no power is divided by
    by
        : (t : ℕ → ℕ) → t 0 ≡ 0 → ((k : ℕ) → k < 8 → t (suc k) ≡ t k * 256 + lane x k)
        → t 8
        ≡ lane x 0 * 2 ^ 56 + lane x 1 * 2 ^ 48 + lane x 2 * 2 ^ 40 + lane x 3 * 2 ^ 32 + lane x 4 * 2 ^ 24 + lane x 5 * 2 ^ 16 + lane x 6 * 2 ^ 8
        + lane x 7
    by t z n =
        omega (
          arith,
          n 0 (omega arith),
          n 1 (omega arith),
          n 2 (omega arith),
          n 3 (omega arith),
          n 4 (omega arith),
          n 5 (omega arith),
          n 6 (omega arith),
          n 7 (omega arith),
        )

-- ---- bit operations

pub lane_and : (x y j : ℕ) → lane (bit_and x y) j ≡ bit_and (lane x j) (lane y j)
unfolding lane
lane_and x y j = ap (λ (z : ℕ). z % 256) (and_shr x y (56 - 8 * j)) ∙ and_mod (x / 2 ^ (56 - 8 * j)) (y / 2 ^ (56 - 8 * j)) 8

pub lane_or : (x y j : ℕ) → lane (bit_or x y) j ≡ bit_or (lane x j) (lane y j)
unfolding lane
lane_or x y j = ap (λ (z : ℕ). z % 256) (or_shr x y (56 - 8 * j)) ∙ or_mod (x / 2 ^ (56 - 8 * j)) (y / 2 ^ (56 - 8 * j)) 8

pub lane_xor : (x y j : ℕ) → lane (bit_xor x y) j ≡ bit_xor (lane x j) (lane y j)
unfolding lane
lane_xor x y j = ap (λ (z : ℕ). z % 256) (xor_shr x y (56 - 8 * j)) ∙ xor_mod (x / 2 ^ (56 - 8 * j)) (y / 2 ^ (56 - 8 * j)) 8

-- ---- sums and differences

module _ (x y : ℕ) (fits : (j : ℕ) → j < 8 → lane x j + lane y j < 256) where
  sum_low : (n : ℕ) → n < 8 → x / 2 ^ (8 * n) % 256 + y / 2 ^ (8 * n) % 256 < 256
  sum_low = from_low (λ n. x / 2 ^ (8 * n) % 256 + y / 2 ^ (8 * n) % 256 < 256) (λ j h. omega (arith, fits j h, lane_up x j, lane_up y j))

  sum_up : (n : ℕ) → n ≤ 8 → (x + y) / 2 ^ (8 * n) ≡ x / 2 ^ (8 * n) + y / 2 ^ (8 * n)
  sum_up zero h = div-one (x + y) ∙ sym (ap₂ ◌+◌ (div-one x) (div-one y))
  sum_up (suc n) h = omega (arith, up (x + y) n, up x n, up y n, sum_up n (omega arith), sum_low n (omega arith))

  pub lane_add : (j : ℕ) → j < 8 → lane (x + y) j ≡ lane x j + lane y j
  lane_add j h =
      omega
      (arith, lane_up (x + y) j, lane_up x j, lane_up y j, sum_up (7 - j) (omega arith), sum_low (7 - j) (omega arith))

  -- and no bit is lost
  pub add_fits : x < 2 ^ 64 → y < 2 ^ 64 → x + y < 2 ^ 64
  add_fits hx hy = omega (arith, sum_up 8 (omega arith))

module _ (x y : ℕ) (fits : (j : ℕ) → j < 8 → lane y j ≤ lane x j) where
  difference_low : (n : ℕ) → n < 8 → y / 2 ^ (8 * n) % 256 ≤ x / 2 ^ (8 * n) % 256
  difference_low = from_low (λ n. y / 2 ^ (8 * n) % 256 ≤ x / 2 ^ (8 * n) % 256) (λ j h. omega (arith, fits j h, lane_up x j, lane_up y j))

  -- at every height the difference is that of what stands there, and none where that is none
  difference_up : (n : ℕ) → n ≤ 8 → (x - y) / 2 ^ (8 * n) ≡ x / 2 ^ (8 * n) - y / 2 ^ (8 * n)
  difference_up zero h = div-one (x - y) ∙ sym (ap₂ ◌-◌ (div-one x) (div-one y))
  difference_up (suc n) h = omega (arith, up (x - y) n, up x n, up y n, difference_up n (omega arith), difference_low n (omega arith))

  tops_le : y < 2 ^ 64 → (k : ℕ) → k ≤ 8 → top y k ≤ top x k
  tops_le hy zero h = omega (arith, div-eq_of_lt hy)
  tops_le hy (suc k) h = omega (arith, top_next x k (omega arith), top_next y k (omega arith), fits k (omega arith), tops_le hy k (omega arith))

  -- the difference is of a number that is no less
  pub lanes_le : y < 2 ^ 64 → y ≤ x
  lanes_le hy = omega (arith, tops_le hy 8 (omega arith), div-one x, div-one y)

  pub lane_sub : y < 2 ^ 64 → (j : ℕ) → j < 8 → lane (x - y) j ≡ lane x j - lane y j
  lane_sub hy j h =
      omega (
        arith,
        lane_up (x - y) j,
        lane_up x j,
        lane_up y j,
        difference_up (7 - j) (omega arith),
        difference_low (7 - j) (omega arith),
        shr_mono (8 * (7 - j)) (lanes_le hy),
      )

-- ---- products with a number

module _ (x c : ℕ) (fits : (j : ℕ) → j < 8 → lane x j * c < 256) where
  product_low : (n : ℕ) → n < 8 → x / 2 ^ (8 * n) % 256 * c < 256
  product_low = from_low (λ n. x / 2 ^ (8 * n) % 256 * c < 256) (λ j h. subst (λ (b : ℕ). b * c < 256) (lane_up x j) (fits j h))

  -- what stands at a height, times c, by its bytes above and its lowest
  product_split : (z : ℕ) → z * c ≡ z / 256 * c * 256 + z % 256 * c
  product_split z =
      ap (λ (y : ℕ). y * c) (sym (split z 8))
      ∙ add-mul (z / 256 * 256) (z % 256) c
      ∙ ap (λ (y : ℕ). y + z % 256 * c)
      (mul_assoc (z / 256) 256 c ∙ ap (λ (y : ℕ). z / 256 * y) (mul_comm 256 c) ∙ sym (mul_assoc (z / 256) c 256))

  product_up : (n : ℕ) → n ≤ 8 → x * c / 2 ^ (8 * n) ≡ x / 2 ^ (8 * n) * c
  product_up zero h = div-one (x * c) ∙ sym (ap (λ (y : ℕ). y * c) (div-one x))
  product_up (suc n) h =
      up (x * c) n
      ∙ ap (λ (y : ℕ). y / 256) (product_up n (omega arith) ∙ product_split (x / 2 ^ (8 * n)))
      ∙ digits_div (x / 2 ^ (8 * n) / 256 * c) (product_low n (omega arith))
      ∙ ap (λ (y : ℕ). y * c) (sym (up x n))

  pub lane_mul : (j : ℕ) → j < 8 → lane (x * c) j ≡ lane x j * c
  lane_mul j h =
      lane_up (x * c) j
      ∙ ap (λ (y : ℕ). y % 256) (product_up (7 - j) (omega arith) ∙ product_split (x / 2 ^ (8 * (7 - j))))
      ∙ digits_mod (x / 2 ^ (8 * (7 - j)) / 256 * c) (product_low (7 - j) (omega arith))
      ∙ ap (λ (b : ℕ). b * c) (sym (lane_up x j))

-- ---- the same byte in every lane, and the complement

lane_ones : (j : ℕ) → j < 8 → lane 0x0101010101010101 j ≡ 1
unfolding lane
lane_ones zero h = refl
lane_ones (suc zero) h = refl
lane_ones (suc (suc zero)) h = refl
lane_ones (suc (suc (suc zero))) h = refl
lane_ones (suc (suc (suc (suc zero)))) h = refl
lane_ones (suc (suc (suc (suc (suc zero))))) h = refl
lane_ones (suc (suc (suc (suc (suc (suc zero)))))) h = refl
lane_ones (suc (suc (suc (suc (suc (suc (suc zero))))))) h = refl
lane_ones (suc (suc (suc (suc (suc (suc (suc (suc j)))))))) h = absurd (let z : ⊥ = omega arith in z)

pub lane_every : (b j : ℕ) → b < 256 → j < 8 → lane (every b) j ≡ b
lane_every b j hb h =
    lane_mul 0x0101010101010101 b (λ i l. subst (λ (n : ℕ). n < 256) (sym (one i l)) hb) j h ∙ one j h
  where
    one : (i : ℕ) → i < 8 → lane 0x0101010101010101 i * b ≡ b
    one i l = ap (λ (n : ℕ). n * b) (lane_ones i l) ∙ one-mul b

pub every_lt : (c : ℕ) → c < 256 → every c < 2 ^ 64
every_lt c h = omega arith

pub lane_and_every : (x c j : ℕ) → c < 256 → j < 8 → lane (bit_and x (every c)) j ≡ bit_and (lane x j) c
lane_and_every x c j hc h = lane_and x (every c) j ∙ ap (bit_and (lane x j)) (lane_every c j hc h)

pub lane_xor_every : (x c j : ℕ) → c < 256 → j < 8 → lane (bit_xor x (every c)) j ≡ bit_xor (lane x j) c
lane_xor_every x c j hc h = lane_xor x (every c) j ∙ ap (bit_xor (lane x j)) (lane_every c j hc h)

-- the same added to every byte
module _ (x c : ℕ) (hc : c < 256) (fits : (j : ℕ) → j < 8 → lane x j + c < 256) where
  every_fits : (j : ℕ) → j < 8 → lane x j + lane (every c) j < 256
  every_fits j h = omega (arith, fits j h, lane_every c j hc h)

  pub lane_add_every : (j : ℕ) → j < 8 → lane (x + every c) j ≡ lane x j + c
  lane_add_every j h = lane_add x (every c) every_fits j h ∙ ap (λ (b : ℕ). lane x j + b) (lane_every c j hc h)

  pub add_every_fits : x < 2 ^ 64 → x + every c < 2 ^ 64
  add_every_fits hx = add_fits x (every c) every_fits hx (every_lt c hc)

-- `!x`
pub lane_not : (x j : ℕ) → x < 2 ^ 64 → j < 8 → lane (2 ^ 64 - 1 - x) j ≡ 255 - lane x j
lane_not x j hx h =
    lane_sub (every 255) x (λ i l. omega (arith, lane_lt x i, lane_every 255 i (omega arith) l)) hx j h
    ∙ ap (λ (b : ℕ). b - lane x j) (lane_every 255 j (omega arith) h)

-- ---- shifts by whole bytes

-- what is shifted out of a word is in none of its bytes
pub lane_mod : (x j : ℕ) → j < 8 → lane (x % 2 ^ 64) j ≡ lane x j
unfolding lane
lane_mod x j h =
    ap (λ (y : ℕ). y % 256)
    (ap (λ (s : ℕ). x % 2 ^ s / 2 ^ (56 - 8 * j)) (let e : 64 ≡ 8 * j + 8 + (56 - 8 * j) = omega arith in e) ∙ field x (8 * j + 8) (56 - 8 * j))
    ∙ mod-mod-pow (x / 2 ^ (56 - 8 * j)) (8 * j) 8

pub lane_shr : (x k j : ℕ) → k ≤ j → j < 8 → lane (x / 2 ^ (8 * k)) j ≡ lane x (j - k)
unfolding lane
lane_shr x k j h l =
    ap (λ (y : ℕ). y % 256)
    (shr-shr x (8 * k) (56 - 8 * j) ∙ ap (λ (s : ℕ). x / 2 ^ s) (let e : 8 * k + (56 - 8 * j) ≡ 56 - 8 * (j - k) = omega arith in e))

pub lane_shr_out : (x k j : ℕ) → x < 2 ^ 64 → j < k → j < 8 → lane (x / 2 ^ (8 * k)) j ≡ 0
unfolding lane
lane_shr_out x k j hx h l =
    ap (λ (y : ℕ). y % 256)
    (shr-shr x (8 * k) (56 - 8 * j)
    ∙ div-eq_of_lt (lt_of_lt_of_le hx (pow_mono (let e : 64 ≤ 8 * k + (56 - 8 * j) = omega arith in e))))

lane_times : (x k j : ℕ) → j + k < 8 → lane (x * 2 ^ (8 * k)) j ≡ lane x (j + k)
unfolding lane
lane_times x k j h =
    ap (λ (y : ℕ). y % 256)
    (ap (λ (s : ℕ). x * 2 ^ (8 * k) / 2 ^ s) (let e : 56 - 8 * j ≡ 8 * k + (56 - 8 * (j + k)) = omega arith in e)
    ∙ sym (shr-shr (x * 2 ^ (8 * k)) (8 * k) (56 - 8 * (j + k)))
    ∙ ap (λ (y : ℕ). y / 2 ^ (56 - 8 * (j + k))) (shl-shr x (8 * k)))

-- a number that is moved up by a byte and more, t bits up
pub moved : (x u t : ℕ) → x * 2 ^ (u + 8 + t) / 2 ^ t % 256 ≡ 0
moved x u t =
    ap (λ (y : ℕ). y % 256)
    (ap (λ (y : ℕ). y / 2 ^ t) (ap (λ (y : ℕ). x * y) (pow-add 2 (u + 8) t) ∙ sym (mul_assoc x (2 ^ (u + 8)) (2 ^ t)))
    ∙ shl-shr (x * 2 ^ (u + 8)) t
    ∙ ap (λ (y : ℕ). x * y) (pow-add 2 u 8)
    ∙ sym (mul_assoc x (2 ^ u) 256))
    ∙ mul-mod_left (x * 2 ^ u) 256

lane_times_out : (x k j : ℕ) → j < 8 → 8 ≤ j + k → lane (x * 2 ^ (8 * k)) j ≡ 0
unfolding lane
lane_times_out x k j l h =
    ap (λ (s : ℕ). x * 2 ^ s / 2 ^ (56 - 8 * j) % 256) (let e : 8 * k ≡ 8 * (j + k) - 64 + 8 + (56 - 8 * j) = omega arith in e)
    ∙ moved x (8 * (j + k) - 64) (56 - 8 * j)

pub lane_shl : (x k j : ℕ) → j + k < 8 → lane (x * 2 ^ (8 * k) % 2 ^ 64) j ≡ lane x (j + k)
lane_shl x k j h = lane_mod (x * 2 ^ (8 * k)) j (omega arith) ∙ lane_times x k j h

pub lane_shl_out : (x k j : ℕ) → j < 8 → 8 ≤ j + k → lane (x * 2 ^ (8 * k) % 2 ^ 64) j ≡ 0
lane_shl_out x k j l h = lane_mod (x * 2 ^ (8 * k)) j l ∙ lane_times_out x k j l h

zeros : (i n : ℕ) → i < n → ◌≡◌ {A = ℕ} (get_or (replicate n 0) i 0) 0
zeros i n h = get_or-replicate n i 0 0 h

-- the bytes of `x << 8 * k`
pub unpacked_shl : (x k : ℕ) → k ≤ 8 → unpacked (x * 2 ^ (8 * k) % 2 ^ 64) ≡ drop k (unpacked x) ++ replicate k 0
unpacked_shl x k hk = unpacked_by (x * 2 ^ (8 * k) % 2 ^ 64) (drop k (unpacked x) ++ replicate k 0) sizes (λ j h. byte j h (dec_lt (j + k) 8))
  where
    kept : length (drop k (unpacked x)) ≡ 8 - k
    kept = length-drop k (unpacked x) ∙ ap (λ (n : ℕ). n - k) (length_unpacked x)

    sizes : length (drop k (unpacked x) ++ replicate k 0) ≡ 8
    sizes = length-append (drop k (unpacked x)) (replicate k 0) ∙ omega (arith, kept, length-replicate {A = ℕ} k 0)

    byte : (j : ℕ) → j < 8 → Dec (j + k < 8) → lane (x * 2 ^ (8 * k) % 2 ^ 64) j ≡ get_or (drop k (unpacked x) ++ replicate k 0) j 0
    byte j h (yes l) =
        lane_shl x k j l
        ∙ sym
        (get_or-append (drop k (unpacked x)) (replicate k 0) 0 j (omega (arith, kept))
        ∙ get_or-drop k (unpacked x) j 0
        ∙ ap (λ (i : ℕ). get_or (unpacked x) i 0) (add_comm k j)
        ∙ unpacked_lane x (j + k) l)
    byte j h (no l) =
        lane_shl_out x k j h (omega arith)
        ∙ sym (zeros (j + k - 8) k (omega arith))
        ∙ sym (get_or-append-add (drop k (unpacked x)) (replicate k 0) (j + k - 8) 0)
        ∙ ap (λ (i : ℕ). get_or (drop k (unpacked x) ++ replicate k 0) i 0)
        (let e : length (drop k (unpacked x)) + (j + k - 8) ≡ j = omega (arith, kept) in e)

-- the bytes of `x >> 8 * k`
pub unpacked_shr : (x k : ℕ) → x < 2 ^ 64 → k ≤ 8 → unpacked (x / 2 ^ (8 * k)) ≡ replicate k 0 ++ take (8 - k) (unpacked x)
unpacked_shr x k hx hk =
    unpacked_by (x / 2 ^ (8 * k)) (replicate k 0 ++ take (8 - k) (unpacked x)) sizes (λ j h. byte j h (dec_lt j k))
  where
    kept : length (take (8 - k) (unpacked x)) ≡ 8 - k
    kept = length-take-le (8 - k) (unpacked x) (omega (arith, length_unpacked x))

    before : length {A = ℕ} (replicate k 0) ≡ k
    before = length-replicate {A = ℕ} k 0

    sizes : length (replicate k 0 ++ take (8 - k) (unpacked x)) ≡ 8
    sizes = length-append (replicate k 0) (take (8 - k) (unpacked x)) ∙ omega (arith, kept, before)

    byte : (j : ℕ) → j < 8 → Dec (j < k) → lane (x / 2 ^ (8 * k)) j ≡ get_or (replicate k 0 ++ take (8 - k) (unpacked x)) j 0
    byte j h (yes l) =
        lane_shr_out x k j hx l h
        ∙ sym (get_or-append (replicate k 0) (take (8 - k) (unpacked x)) 0 j (omega (arith, before)) ∙ zeros j k l)
    byte j h (no l) =
        lane_shr x k j (omega arith) h
        ∙ sym (get_or-take (8 - k) (unpacked x) (j - k) 0 (omega arith) ∙ unpacked_lane x (j - k) (omega arith))
        ∙ sym (get_or-append-add (replicate k 0) (take (8 - k) (unpacked x)) (j - k) 0)
        ∙ ap (λ (i : ℕ). get_or (replicate k 0 ++ take (8 - k) (unpacked x)) i 0)
        (let e : length {A = ℕ} (replicate k 0) + (j - k) ≡ j = omega (arith, before) in e)

-- ---- tests of all bytes

-- the first byte of a word that is not 0, by its leading zeros
module _ (y : ℕ) (hy : y < 2 ^ 64) (pos : 0 < y) where
  highest : (h : ℕ) × (count_leading_zeros 64 y + suc h ≡ 64) × (2 ^ h ≤ y) × (y < 2 ^ suc h)
  highest = leading_top 64 y pos hy

  pub leading_within : count_leading_zeros 64 y / 8 < 8
  leading_within = omega (arith, highest.1)

  pub leading_before : (j : ℕ) → j < count_leading_zeros 64 y / 8 → lane y j ≡ 0
  unfolding lane
  leading_before j h =
      ap (λ (z : ℕ). z % 256)
      (div-eq_of_lt (lt_of_lt_of_le highest.3 (pow_mono (let e : suc highest.0 ≤ 56 - 8 * j = omega (arith, highest.1) in e))))

  pub leading_lane : 0 < lane y (count_leading_zeros 64 y / 8)
  unfolding lane
  leading_lane =
      let i = count_leading_zeros 64 y / 8 in
      let s = 56 - 8 * i in
      let small : y / 2 ^ s < 2 ^ 8 =
      shr_lt 8 s (lt_of_lt_of_le highest.3 (pow_mono (let e : suc highest.0 ≤ 8 + s = omega (arith, highest.1) in e))) in
      let some : 2 ^ s ≤ y = le_trans (pow_mono (let e : s ≤ highest.0 = omega (arith, highest.1) in e)) highest.2 in
      let here : 1 ≤ y / 2 ^ s = (le-div_iff_mul-le (pow_pos s)).1 (subst (λ (z : ℕ). z ≤ y) (sym (one-mul (2 ^ s))) some) in
      subst (λ (z : ℕ). 0 < z) (sym (mod-eq_of_lt small)) here

mark_passed : (b : Bool) → mark b ≡ 0 → b ≡ true
unfolding mark
mark_passed true e = refl
mark_passed false e = absurd (let z : ⊥ = omega arith in z)

mark_failed : (b : Bool) → 0 < mark b → b ≡ false
unfolding mark
mark_failed true e = absurd (let z : ⊥ = omega arith in z)
mark_failed false e = refl

pub mark_true : {b : Bool} → b ≡ true → mark b ≡ 0
unfolding mark
mark_true e = ap mark e

module _ {t : ℕ → Bool} {x y : ℕ} (marks : Marks t x y) where
  -- no mark: every byte passes
  pub none_marked : y ≡ 0 → (j : ℕ) → j < 8 → t (lane x j) ≡ true
  none_marked e j h = mark_passed (t (lane x j)) (sym (marks.each j h) ∙ ap (λ (z : ℕ). lane z j) e ∙ lane_zero j)

  -- else the marks' leading zeros lead to the first that fails
  pub first_marked : y < 2 ^ 64 → 0 < y → FirstFails t x (count_leading_zeros 64 y / 8)
  first_marked hy pos =
      let w = leading_within y hy pos in
      record {
        within = w;
        fails = mark_failed (t (lane x (count_leading_zeros 64 y / 8)))
            (subst (λ (z : ℕ). 0 < z) (marks.each (count_leading_zeros 64 y / 8) w) (leading_lane y hy pos));
        before = λ j h.
            mark_passed (t (lane x j)) (sym (marks.each j (let l : j < 8 = omega arith in l)) ∙ leading_before y hy pos j h);
      }

-- ---- rules of bytes, by computing all of them

pub and_parts : (c d : Bool) → c && d ≡ true → (c ≡ true) × (d ≡ true)
and_parts true d p = (refl, p)
and_parts false d p = absurd (false≢true p)

agree_at : (f g : ℕ → ℕ) (n : ℕ) → agree f g n ≡ true → (b : ℕ) → b < n → f b ≡ g b
unfolding agree
agree_at f g zero e b h = absurd (let z : ⊥ = omega arith in z)
agree_at f g (suc n) e b h = go (and_parts (eqb (f n) (g n)) (agree f g n) e) (agree_at f g n) (dec_lt b n)
  where
    go : (eqb (f n) (g n) ≡ true) × (agree f g n ≡ true) → (agree f g n ≡ true → (c : ℕ) → c < n → f c ≡ g c) → Dec (b < n) → f b ≡ g b
    go p below (yes l) = below p.1 b l
    go p below (no l) =
        let k : b ≡ n = omega arith in
        ap f k ∙ eqb→eq (f n) (g n) (subst T (sym p.0) tt) ∙ ap g (sym k)

-- two functions of bytes are the same where a computation says so: `byte_rule f g refl b h`, under `unfolding agree`
pub byte_rule : (f g : ℕ → ℕ) → agree f g 256 ≡ true → (b : ℕ) → b < 256 → f b ≡ g b
byte_rule f g e b h = agree_at f g 256 e b h
