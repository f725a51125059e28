-- `number::places::write_rest` meets its contract. The loop's invariant is `Placing`. Assumes nothing.
use Prim.Native.Nat.{suc, ◌-◌}
use native.Mathlib.Omega.{arith}
use mathlib.Core.Path.{◌≡◌}
use lib.Bits.{and_mask}
use Rattle.number.proofs.Writing.{places_start, places_on, places_end}
use Rattle.number.proofs.places.write_rest.Goals as goal

pub loop-left-init : goal.loop-left-init
loop-left-init c = places_start _ _ _ _

pub overflow_sub-left : goal.overflow_sub-left
overflow_sub-left c = omega arith

pub overflow_cast-out : goal.overflow_cast-out
overflow_cast-out c = omega (arith, and_mask c.loop-left.word 8)

pub overflow_add-out : goal.overflow_add-out
overflow_add-out c =
    omega (arith, c.requires, c.well_formed, c.loop-left.invariant.within)

pub bounds-out-at : goal.bounds-out-at
bounds-out-at c =
    omega (arith, c.requires, c.loop-left.invariant.same, c.loop-left.invariant.within)

pub loop-left-smaller : goal.loop-left-smaller
loop-left-smaller c = omega arith

pub loop-left-preserved : goal.loop-left-preserved
loop-left-preserved c =
    let left = c.loop-left.left in
    let more : left ≡ suc (left - 1) = omega arith in
    places_on c.requires (rw more at c.loop-left.invariant)

pub shape_of-out : goal.shape_of-out
shape_of-out c = c.loop-left.invariant.same

pub returns : goal.returns
returns c =
    let none : c.loop-left.left ≡ 0 = omega arith in
    places_end (rw none at c.loop-left.invariant)
