-- `number::short::write_digits` meets its contract. The loop's invariant is `Falling`. Assumes nothing.
use Prim.Native.Nat.{suc, ◌-◌}
use native.Mathlib.Omega.{arith}
use mathlib.Core.Path.{◌≡◌}
use Rattle.number.proofs.Writing.{falls, falls_on, falling_length, fallen}
use Rattle.number.proofs.short.write_digits.Goals as goal

pub loop-left-init : goal.loop-left-init
loop-left-init c = falls _ _ _ _ c.requires.0

pub overflow_sub-left : goal.overflow_sub-left
overflow_sub-left c = omega arith

pub over_1-q-requires : goal.over_1-q-requires
over_1-q-requires c = c.loop-left.invariant.small

pub last_digit-requires : goal.last_digit-requires
last_digit-requires c = c.over_1-q.ensures

pub overflow_add-out : goal.overflow_add-out
overflow_add-out c =
    omega (arith, c.requires.1, c.well_formed, c.loop-left.invariant.filling.long)

pub bounds-out-at : goal.bounds-out-at
bounds-out-at c =
    omega (arith, c.requires.1, falling_length c.requires.1 c.loop-left.invariant, c.loop-left.invariant.filling.long)

pub loop-left-smaller : goal.loop-left-smaller
loop-left-smaller c = omega arith

pub loop-left-preserved : goal.loop-left-preserved
loop-left-preserved c =
    let left = c.loop-left.left in
    let more : left ≡ suc (left - 1) = omega arith in
    falls_on c.requires.1 (rw more at c.loop-left.invariant) c.last_digit.ensures c.over_1-q.ensures

pub shape_of-out : goal.shape_of-out
shape_of-out c = falling_length c.requires.1 c.loop-left.invariant

pub returns : goal.returns
returns c =
    let none : c.loop-left.left ≡ 0 = omega arith in
    fallen c.requires.1 (rw none at c.loop-left.invariant)
