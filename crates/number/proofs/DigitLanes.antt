-- Eight bytes of a document in a word: which of them are digits, and the values of those. Assumes nothing.
use Prim.Native.Nat.{ℕ, ◌+◌, ◌-◌, ◌*◌, ◌/◌, ◌^◌, ◌≤◌, ◌<◌}
use native.Mathlib.Omega.{arith}
use mathlib.Core.Path.{◌≡◌, refl, sym, ap, ap₂, ◌∙◌}
use mathlib.Core.Bool.{true}
use lib.Bits.{bit_and, bit_or, bit_xor, and_le_r, and_lt, xor_block, xor_zero_r, xor_lt}
use lib.Count.{count_leading_zeros}
use lib.ListN.{length, get_or, take, drop}
use Rattle.definitions.specs.Bytes.{Bytes, between}
use Rattle.pool.specs.Pool.{unpacked}
use Rattle.pool.specs.Lanes.{lane, mark, agree, Marks}
use Rattle.pool.specs.LaneLaws.{lane_lt, lane_at, lane_and, lane_or, lane_xor, lane_add, lane_every, add_fits, byte_rule, none_marked, first_marked}
use Rattle.number.specs.NumberCode.{AllDigits, DigitLanes}
use Rattle.number.proofs.Rows.{row_bounds}

-- ---- the test of all bytes

-- of one byte
byte_mark : (b : ℕ) → b < 256 → bit_and (bit_or (bit_and (bit_xor b 48) 127 + 118) (bit_xor b 48)) 128 ≡ mark (between 48 57 b)
unfolding agree mark between
byte_mark b h =
    byte_rule (λ (n : ℕ). bit_and (bit_or (bit_and (bit_xor n 48) 127 + 118) (bit_xor n 48)) 128) (λ (n : ℕ). mark (between 48 57 n)) refl b h

module _ (w : ℕ) where
  abbrev values : ℕ
  values = bit_xor w 0x3030303030303030

  abbrev lows : ℕ
  lows = bit_and values 0x7F7F7F7F7F7F7F7F

  lane_values : (j : ℕ) → j < 8 → lane values j ≡ bit_xor (lane w j) 48
  lane_values j h = lane_xor w 0x3030303030303030 j ∙ ap (bit_xor (lane w j)) (lane_every 48 j (omega arith) h)

  lane_lows : (j : ℕ) → j < 8 → lane lows j ≡ bit_and (lane values j) 127
  lane_lows j h = lane_and values 0x7F7F7F7F7F7F7F7F j ∙ ap (bit_and (lane values j)) (lane_every 127 j (omega arith) h)

  no_carry : (j : ℕ) → j < 8 → lane lows j + lane 0x7676767676767676 j < 256
  no_carry j h = omega (arith, lane_lows j h, and_le_r (lane values j) 127, lane_every 118 j (omega arith) h)

  pub sum_fits : w < 2 ^ 64 → lows + 0x7676767676767676 < 2 ^ 64
  sum_fits h =
      add_fits lows 0x7676767676767676 no_carry
      (and_lt 64 values 0x7F7F7F7F7F7F7F7F (xor_lt 64 w 0x3030303030303030 h (omega arith)) (omega arith))
      (omega arith)

  pub digits_marked : Marks (between 48 57) w (bit_and (bit_or (lows + 0x7676767676767676) values) 0x8080808080808080)
  digits_marked =
      record {
        each = λ j h.
            lane_and (bit_or (lows + 0x7676767676767676) values) 0x8080808080808080 j
            ∙ ap₂ bit_and
            (lane_or (lows + 0x7676767676767676) values j
            ∙ ap₂ bit_or
            (lane_add lows 0x7676767676767676 no_carry j h
            ∙ ap₂ ◌+◌ (lane_lows j h ∙ ap (λ (b : ℕ). bit_and b 127) (lane_values j h)) (lane_every 118 j (omega arith) h))
            (lane_values j h))
            (lane_every 128 j (omega arith) h)
            ∙ byte_mark (lane w j) (lane_lt w j);
      }

-- ---- the values of digits

digit_value : (b : ℕ) → between 48 57 b ≡ true → bit_xor b 48 ≡ b - 48
digit_value b e =
    let m = row_bounds 48 57 b e in
    let parts : b ≡ 3 * 2 ^ 4 + (b - 48) = omega (arith, m.0) in
    ap (λ (n : ℕ). bit_xor n 48) parts
    ∙ xor_block 4 3 3 (b - 48) 0 (omega (arith, m.1)) (omega arith)
    ∙ (let low : bit_xor 3 3 * 2 ^ 4 + bit_xor (b - 48) 0 ≡ b - 48 = omega (arith, xor_zero_r (b - 48)) in low)

-- a word of eight bytes of a document
module _ {doc : Bytes} {at : ℕ} (w : ℕ) (e : unpacked w ≡ take 8 (drop at doc)) where
  pub digit_lanes : DigitLanes doc at (bit_xor w 0x3030303030303030)
  digit_lanes =
      record {
        value = λ j h d.
            lane_values w j h
            ∙ ap (λ (b : ℕ). bit_xor b 48) (lane_at w doc at j e h)
            ∙ digit_value (get_or doc (at + j) 0) d;
      }

  module _ (fits : at + 8 ≤ length doc) {y : ℕ} (marks : Marks (between 48 57) w y) where
    lanes_digits
        : (n : ℕ) → n ≤ 8 → ((j : ℕ) → j < n → between 48 57 (lane w j) ≡ true) → AllDigits doc at (at + n)
    lanes_digits n hn h =
        record {
          behind = omega arith;
          within = omega arith;
          each = λ i l m.
              let k : i - at < 8 = omega arith in
              let q : at + (i - at) ≡ i = omega arith in
              ap (λ (b : ℕ). between 48 57 b) (ap (λ (p : ℕ). get_or doc p 0) (sym q) ∙ sym (lane_at w doc at (i - at) e k))
              ∙ h (i - at) (omega arith);
        }

    -- no mark: eight digits
    pub eight_more : y ≡ 0 → AllDigits doc at (at + 8)
    eight_more z = lanes_digits 8 (omega arith) (none_marked marks z)

    -- else as many as stand before the first mark
    pub some_more : y < 2 ^ 64 → 0 < y → AllDigits doc at (at + count_leading_zeros 64 y / 8)
    some_more hy pos =
        let first = first_marked marks hy pos in
        lanes_digits (count_leading_zeros 64 y / 8) (omega (arith, first.within)) first.before
