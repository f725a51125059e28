-- The marks of the bytes that are not plain ASCII: byte by byte, and the rule of a byte by computing all of them. Assumes nothing.
use Prim.Native.Nat.{ℕ, ◌+◌, ◌-◌, ◌/◌, ◌^◌, ◌<◌}
use mathlib.Core.Path.{◌≡◌, refl, sym, ap, ap₂, ◌∙◌, subst}
use native.Mathlib.Omega.{arith}
use lib.Bits.{bit_and, bit_or, bit_xor, mask_lt, xor_lt, and_lt}
use lib.Count.{count_leading_zeros}
use Rattle.definitions.specs.Bytes.{between}
use Rattle.pool.specs.Lanes.{lane, every, mark, Marks, agree}
use Rattle.pool.specs.LaneLaws.{lane_lt, lane_and, lane_or, lane_not, lane_and_every, lane_xor_every, lane_add_every, add_every_fits}
use Rattle.pool.specs.LaneLaws.{none_marked, first_marked, byte_rule}
use Rattle.text.specs.TextParts.{plain_ascii, plain_bits, PlainBits, FrontStands}
use Rattle.text.proofs.Stands.{front_plain}

-- ---- a byte

abbrev low : ℕ → ℕ
low b = bit_and b 0x7F

abbrev apart : (c b : ℕ) → ℕ
apart c b = bit_xor (low b) c + 0x7F

abbrev odd_byte : ℕ → ℕ
odd_byte b = bit_and (bit_or (255 - plain_bits b) b) 0x80

odd_rule : (b : ℕ) → b < 256 → odd_byte b ≡ mark (plain_ascii b)
unfolding agree mark plain_ascii between
odd_rule b h = byte_rule odd_byte (λ (c : ℕ). mark (plain_ascii c)) refl b h

-- ---- a word

module _ (x : ℕ) (hx : x < 2 ^ 64) where
  abbrev lows : ℕ
  lows = bit_and x (every 0x7F)

  lows_lt : lows < 2 ^ 64
  lows_lt = and_lt 64 x (every 0x7F) hx (omega arith)

  lane_lows : (j : ℕ) → j < 8 → lane lows j ≡ low (lane x j)
  lane_lows j h = lane_and_every x 0x7F j (omega arith) h

  low_room : (j : ℕ) → j < 8 → lane lows j + 0x60 < 256
  low_room j h = omega (arith, lane_lows j h, mask_lt (lane x j) 7)

  pub above_fits : lows + every 0x60 < 2 ^ 64
  above_fits = add_every_fits lows 0x60 (omega arith) low_room lows_lt

  lane_above : (j : ℕ) → j < 8 → lane (lows + every 0x60) j ≡ low (lane x j) + 0x60
  lane_above j h = lane_add_every lows 0x60 (omega arith) low_room j h ∙ ap (λ (b : ℕ). b + 0x60) (lane_lows j h)

  -- the same for a byte c that is told apart
  module _ (c : ℕ) (hc : c < 128) where
    lane_differs : (j : ℕ) → j < 8 → lane (bit_xor lows (every c)) j ≡ bit_xor (low (lane x j)) c
    lane_differs j h = lane_xor_every lows c j (omega arith) h ∙ ap (λ (b : ℕ). bit_xor b c) (lane_lows j h)

    apart_room : (j : ℕ) → j < 8 → lane (bit_xor lows (every c)) j + 0x7F < 256
    apart_room j h = omega (arith, lane_differs j h, xor_lt 7 (low (lane x j)) c (mask_lt (lane x j) 7) hc)

    pub apart_fits : bit_xor lows (every c) + every 0x7F < 2 ^ 64
    apart_fits = add_every_fits (bit_xor lows (every c)) 0x7F (omega arith) apart_room (xor_lt 64 lows (every c) lows_lt (omega arith))

    lane_apart : (j : ℕ) → j < 8 → lane (bit_xor lows (every c) + every 0x7F) j ≡ apart c (lane x j)
    lane_apart j h =
        lane_add_every (bit_xor lows (every c)) 0x7F (omega arith) apart_room j h ∙ ap (λ (b : ℕ). b + 0x7F) (lane_differs j h)

  abbrev plains : ℕ
  plains = bit_and (bit_and (lows + every 0x60) (bit_xor lows (every 0x22) + every 0x7F)) (bit_xor lows (every 0x5C) + every 0x7F)

  plains_lt : plains < 2 ^ 64
  plains_lt =
      and_lt 64 (bit_and (lows + every 0x60) (bit_xor lows (every 0x22) + every 0x7F)) (bit_xor lows (every 0x5C) + every 0x7F)
      (and_lt 64 (lows + every 0x60) (bit_xor lows (every 0x22) + every 0x7F) above_fits (apart_fits 0x22 (omega arith)))
      (apart_fits 0x5C (omega arith))

  lane_plains : (j : ℕ) → j < 8 → lane plains j ≡ plain_bits (lane x j)
  lane_plains j h =
      lane_and (bit_and (lows + every 0x60) (bit_xor lows (every 0x22) + every 0x7F)) (bit_xor lows (every 0x5C) + every 0x7F) j
      ∙ ap₂ bit_and
      (lane_and (lows + every 0x60) (bit_xor lows (every 0x22) + every 0x7F) j
      ∙ ap₂ bit_and (lane_above j h) (lane_apart 0x22 (omega arith) j h))
      (lane_apart 0x5C (omega arith) j h)

  pub plains_told : PlainBits x plains
  plains_told = record { each = lane_plains; small = plains_lt }

pub odd_marks : {x y : ℕ} → PlainBits x y → Marks plain_ascii x (bit_and (bit_or (2 ^ 64 - 1 - y) x) (every 0x80))
odd_marks {x} {y} p =
    record {
      each = λ j h.
          lane_and_every (bit_or (2 ^ 64 - 1 - y) x) 0x80 j (omega arith) h
          ∙ ap (λ (b : ℕ). bit_and b 0x80)
          (lane_or (2 ^ 64 - 1 - y) x j
          ∙ ap (λ (b : ℕ). bit_or b (lane x j)) (lane_not y j p.small h ∙ ap (λ (b : ℕ). 255 - b) (p.each j h)))
          ∙ odd_rule (lane x j) (lane_lt x j);
    }

-- ---- the bytes before the first mark

pub all_stand : {x y : ℕ} → Marks plain_ascii x y → y ≡ 0 → FrontStands x 8
all_stand {x} m e = front_plain x 8 (omega arith) (none_marked m e)

pub front_stands
    : {x y r : ℕ} → Marks plain_ascii x y → y < 2 ^ 64 → (y ≡ 0 → ⊥) → r ≡ count_leading_zeros 64 y / 8
    → FrontStands x r
front_stands {x} {y} m h z e =
    let f = first_marked m h (omega arith) in
    subst (FrontStands x) (sym e) (front_plain x (count_leading_zeros 64 y / 8) (omega (arith, f.within)) f.before)
