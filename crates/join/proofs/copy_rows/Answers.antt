-- `join::copy_rows` meets its contract. Assumes nothing.
use Rattle.join.proofs.Copies.{copies, copies_on, copied}
use Rattle.join.proofs.copy_rows.Goals as goal

pub loop-i-init : goal.loop-i-init
loop-i-init c = copies _ _ _ _ _

pub loop-i-preserved : goal.loop-i-preserved
loop-i-preserved c =
    copies_on c.loop-i.invariant c.loop-i-test.true c.requires.count_in_bounds c.requires.within

pub shape_of-shapes : goal.shape_of-shapes
shape_of-shapes c = c.loop-i.invariant.same

pub returns : goal.returns
returns c = record { copied = copied c.loop-i.invariant c.loop-i-test.false }
