-- `text::escape::write_hex` meets its contract: six bytes, one behind the other (`writes_next`). Assumes nothing.
use Prim.Native.Nat.{◌+◌}
use mathlib.Core.Path.{refl, ap₂}
use mathlib.Core.List.{[], ◌∷◌}
use lib.ListN.{length-set}
use Rattle.definitions.specs.Bytes.{bytes}
use Rattle.text.specs.TextParts.{hex_escape}
use Rattle.text.proofs.Writing.{writes_none, writes_next, writes_same}
use native.Mathlib.Omega.{arith}
use Rattle.text.proofs.escape.write_hex.Goals as goal

pub bounds-out-at-2 : goal.bounds-out-at-2
bounds-out-at-2 c = simp length-set (omega arith)

pub bounds-out-at-3 : goal.bounds-out-at-3
bounds-out-at-3 c = simp length-set (omega arith)

pub bounds-out-at-4 : goal.bounds-out-at-4
bounds-out-at-4 c = simp length-set (omega arith)

pub bounds-out-at-5 : goal.bounds-out-at-5
bounds-out-at-5 c = simp length-set (omega arith)

pub bounds-out-at-6 : goal.bounds-out-at-6
bounds-out-at-6 c = simp length-set (omega arith)

pub shape_of-out : goal.shape_of-out
shape_of-out c = simp length-set

pub returns : goal.returns
unfolding hex_escape bytes
returns c =
    record {
      written = let a = c.args in
          let l = c.requires in
          let x = c.hex_digit.result in
          let y = c.hex_digit-2.result in
          let u = writes_next a.at 0x5C (writes_none a.out.now a.at) refl (omega arith) in
          let v = writes_next (a.at + 1) 0x75 u refl (omega arith) in
          let w = writes_next (a.at + 2) 0x30 v (omega arith) (omega arith) in
          let z = writes_next (a.at + 3) 0x30 w (omega arith) (omega arith) in
          writes_same (hex_escape a.b) (a.at + 6)
          (writes_next (a.at + 5) y (writes_next (a.at + 4) x z (omega arith) (omega arith)) (omega arith) (omega arith))
          (ap₂ (λ d e. 0x5C ∷ 0x75 ∷ 0x30 ∷ 0x30 ∷ d ∷ e ∷ []) c.hex_digit.ensures.told c.hex_digit-2.ensures.told) (omega arith);
    }
