-- `number::digits::slow_value` meets its contract. The loop's invariant is what it ensures, up to here. Assumes nothing.
use Prim.Native.Nat.{◌+◌, ◌-◌, ◌<◌}
use mathlib.Core.Path.{◌≡◌, sym, subst}
use native.Mathlib.Omega.{arith}
use Rattle.number.specs.NumberCode.{Digit}
use Rattle.number.proofs.DigitRuns.{digit_of}
use Rattle.number.proofs.DigitValues.{taken_none, taken_next, part_byte, part_length}
use Rattle.number.proofs.digits.slow_value.Goals as goal

pub loop-b-init : goal.loop-b-init
loop-b-init c = taken_none

pub shifted_on-coefficient-requires : goal.shifted_on-coefficient-requires
shifted_on-coefficient-requires c =
    let a = c.args in
    let l : c.loop-b.b-index < a.end - a.at = omega (arith, part_length c.requires, c.loop-b-test.true) in
    subst Digit (sym (part_byte a.doc.now a.at (a.end - a.at) c.loop-b.b-index l))
    (digit_of _ (c.requires.each (a.at + c.loop-b.b-index) (omega arith) (omega arith)))

pub loop-b-preserved : goal.loop-b-preserved
loop-b-preserved c =
    let a = c.args in
    let l : c.loop-b.b-index < a.end - a.at = omega (arith, part_length c.requires, c.loop-b-test.true) in
    taken_next c.loop-b.invariant (rw (part_byte a.doc.now a.at (a.end - a.at) c.loop-b.b-index l) at c.shifted_on-coefficient.ensures)

pub returns : goal.returns
returns c =
    let a = c.args in
    let end : c.loop-b.b-index ≡ a.end - a.at = omega (arith, part_length c.requires, c.loop-b-test.false, c.loop-b.auto.b-index-end) in
    rw end at c.loop-b.invariant
