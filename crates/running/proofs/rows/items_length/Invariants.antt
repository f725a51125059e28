-- The invariants of `running::rows::items_length` and what falls in its loops. Assumes nothing.
use Prim.Native.Nat.{◌-◌}
use Rattle.running.proofs.Elements.{Measuring}
use Rattle.running.proofs.rows.items_length.Given as goal

abbrev pub invariant-loop-i : goal.invariant-loop-i
invariant-loop-i l = Measuring l.results l.row l.end l.i l.length

abbrev pub decreases-loop-i : goal.decreases-loop-i
decreases-loop-i l = l.end - l.i
