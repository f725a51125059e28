-- `growing::find_place` meets its contract. The loop's invariant is `Walking`. Assumes nothing.
use native.Mathlib.Omega.{arith}
use Rattle.growing.proofs.Places.{walk_begins, left_within, past_last, answer_less, answer_equal, walk_on}
use Rattle.growing.proofs.find_place.Goals as goal

pub loop-row-init : goal.loop-row-init
loop-row-init c = walk_begins _ _ _ _ _ _

pub returns-in-Less : goal.returns-in-Less
returns-in-Less c =
    record {
      found = answer_less c.name.result _ c.loop-row.invariant c.loop-row-test.true c.name.ensures.read
          c.compare_names.ensures.compared c.in-Less.is;
    }

pub returns-in-Equal : goal.returns-in-Equal
returns-in-Equal c =
    record {
      found = answer_equal c.name.result _ c.loop-row.invariant c.loop-row-test.true c.name.ensures.read
          c.compare_names.ensures.compared c.in-Equal.is;
    }

pub overflow_add-row : goal.overflow_add-row
overflow_add-row c =
    let w = left_within (c.loop-row.invariant.left c.requires.fields_held.part c.requires.fields_held.fields c.requires.fields_held.meets)
    c.loop-row-test.true in
    omega (arith, w.0, c.size-row.ensures.read, c.requires.fields_held.meets.within, c.requires.room.enough, c.requires.room.small)

pub loop-row-smaller : goal.loop-row-smaller
loop-row-smaller c =
    let w = left_within (c.loop-row.invariant.left c.requires.fields_held.part c.requires.fields_held.fields c.requires.fields_held.meets)
    c.loop-row-test.true in
    omega (arith, w.0, w.1, c.size-row.ensures.read, c.loop-row-test.true)

pub loop-row-preserved : goal.loop-row-preserved
loop-row-preserved c =
    walk_on c.name.result _ c.loop-row.invariant c.loop-row-test.true c.name.ensures.read
    c.compare_names.ensures.compared c.in-Greater.is c.size-row.ensures.read

pub returns : goal.returns
returns c = record { found = λ p fs n m r. past_last (c.loop-row.invariant.going p fs n m r) c.loop-row-test.false }
