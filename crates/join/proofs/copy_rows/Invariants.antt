-- The invariant of the loop of `join::copy_rows`. Assumes nothing.
use Rattle.join.proofs.Copies.{Copying}
use Rattle.join.proofs.copy_rows.Given as goal

abbrev pub invariant-loop-i : goal.invariant-loop-i
invariant-loop-i l = Copying l.initial.shapes l.at l.second l.from l.count l.shapes l.i
