-- Words whose bytes are written as they are, by lanes. Assumes nothing.
use Prim.Native.Nat.{ℕ, zero, suc, ◌*◌, ◌/◌, ◌^◌, ◌≤◌, ◌<◌, min}
use mathlib.Core.Path.{◌≡◌, refl, sym, ap, ap₂, ◌∙◌}
use mathlib.Core.Logic.{◌⊎◌, inl, inr}
use mathlib.Core.Bool.{Bool, true, false, ◌||◌}
use mathlib.Core.List.{[], ◌∷◌, ◌++◌}
use native.Mathlib.Omega.{arith}
use lib.Bits.{bit_and, bit_or, or_zero_r}
use lib.Dec.{eqb, ltb}
use lib.ListN.{length, get_or, take, length-take}
use lib.Seq.{ext_get_or, get_or-take}
use Rattle.definitions.specs.Bytes.{Bytes}
use Rattle.definitions.specs.Plain.{escaped, escaped_all}
use Rattle.laws.specs.Bools.{tell, or_false_left, or_false_right}
use Rattle.laws.specs.Ranges.{leb_gt, eqb_ne}
use Rattle.pool.specs.Pool.{unpacked}
use Rattle.pool.specs.PoolLaws.{length_unpacked}
use Rattle.pool.specs.Lanes.{lane, every, mark, agree}
use Rattle.pool.specs.LaneLaws.{lane_lt, unpacked_lane, lane_or, lane_and_every, lane_every, lane_shr_out}
use Rattle.pool.specs.LaneLaws.{mark_true, byte_rule}
use Rattle.text.specs.Bare.{Bare}
use Rattle.text.proofs.Escaped.{itself}
use Rattle.text.specs.TextParts.{plain_bits, PlainBits}

-- ---- a byte

-- what the test makes of a byte
unfoldable bare_byte : ℕ → ℕ
bare_byte b = bit_and (bit_or (plain_bits b) b) 0x80

-- the bytes that are written as escapes
unfoldable is_escaped : ℕ → Bool
is_escaped b = ltb b 0x20 || eqb b 0x22 || eqb b 0x5C

byte_told : (b : ℕ) → b < 256 → bare_byte b ≡ mark (is_escaped b)
unfolding agree bare_byte is_escaped mark
byte_told b h = byte_rule bare_byte (λ c. mark (is_escaped c)) refl b h

bare_itself : (b : ℕ) → b < 256 → bare_byte b ≡ 0x80 → escaped b ≡ b ∷ []
unfolding is_escaped
bare_itself b h e = go (tell (is_escaped b))
  where
    go : (is_escaped b ≡ true) ⊎ (is_escaped b ≡ false) → escaped b ≡ b ∷ []
    go (inl t) = absurd (let z : ⊥ = omega (arith, byte_told b h, mark_true t) in z)
    go (inr f) =
        let l = or_false_left (ltb b 0x20 || eqb b 0x22) (eqb b 0x5C) f in
        itself b (omega (arith, leb_gt {m = suc b} {n = 0x20} (or_false_left (ltb b 0x20) (eqb b 0x22) l)))
        (eqb_ne (or_false_right (ltb b 0x20) (eqb b 0x22) l))
        (eqb_ne (or_false_right (ltb b 0x20 || eqb b 0x22) (eqb b 0x5C) f))

-- each byte, and so the first ones
all_itself : (s : Bytes) → ((j : ℕ) → j < length s → escaped (get_or s j 0) ≡ get_or s j 0 ∷ []) → (n : ℕ) → escaped_all (take n s) ≡ take n s
unfolding escaped_all
all_itself [] h zero = refl
all_itself [] h (suc n) = refl
all_itself (b ∷ s) h zero = refl
all_itself (b ∷ s) h (suc n) = ap₂ ◌++◌ (h 0 (omega arith)) (all_itself s (λ j l. h (suc j) (omega arith)) n)

-- ---- a word

module _ {x y : ℕ} (p : PlainBits x y) where
  lane_told : (j : ℕ) → j < 8 → lane (bit_and (bit_or y x) (every 0x80)) j ≡ bare_byte (lane x j)
  unfolding bare_byte
  lane_told j h =
      lane_and_every (bit_or y x) 0x80 j (omega arith) h
      ∙ ap (λ (b : ℕ). bit_and b 0x80) (lane_or y x j ∙ ap (λ (b : ℕ). bit_or b (lane x j)) (p.each j h))

  pub told_bare : bit_and (bit_or y x) (every 0x80) ≡ every 0x80 → Bare x
  told_bare e =
      all_itself (unpacked x)
      (λ j h.
      let l : j < 8 = omega (arith, length_unpacked x) in
      ap escaped (unpacked_lane x j l)
      ∙ bare_itself (lane x j) (lane_lt x j) (sym (lane_told j l) ∙ ap (λ (z : ℕ). lane z j) e ∙ lane_every 0x80 j (omega arith) l)
      ∙ ap (λ (b : ℕ). b ∷ []) (sym (unpacked_lane x j l)))

-- the first n bytes, where those behind them are changed
pub bare_first
    : (x n : ℕ) → n ≤ 7 → Bare (bit_or x (every 0x20 / 2 ^ (8 * n))) → escaped_all (take n (unpacked x)) ≡ take n (unpacked x)
bare_first x n h b = ap escaped_all (sym same) ∙ b n ∙ same
  where
    same : take n (unpacked (bit_or x (every 0x20 / 2 ^ (8 * n)))) ≡ take n (unpacked x)
    same =
        ext_get_or 0 (take n (unpacked (bit_or x (every 0x20 / 2 ^ (8 * n))))) (take n (unpacked x))
        (length-take n (unpacked (bit_or x (every 0x20 / 2 ^ (8 * n))))
        ∙ ap (min n) (length_unpacked (bit_or x (every 0x20 / 2 ^ (8 * n))) ∙ sym (length_unpacked x))
        ∙ sym (length-take n (unpacked x)))
        (λ j g.
        let l : j < n = omega (arith, length-take n (unpacked (bit_or x (every 0x20 / 2 ^ (8 * n))))) in
        let k : j < 8 = omega arith in
        get_or-take n (unpacked (bit_or x (every 0x20 / 2 ^ (8 * n)))) j 0 l
        ∙ unpacked_lane (bit_or x (every 0x20 / 2 ^ (8 * n))) j k
        ∙ lane_or x (every 0x20 / 2 ^ (8 * n)) j
        ∙ ap (bit_or (lane x j)) (lane_shr_out (every 0x20) n j (omega arith) l k)
        ∙ or_zero_r (lane x j)
        ∙ sym (unpacked_lane x j k)
        ∙ sym (get_or-take n (unpacked x) j 0 l))
