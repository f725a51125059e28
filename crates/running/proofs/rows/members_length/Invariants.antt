-- The invariants of `running::rows::members_length` and what falls in its loops. Assumes nothing.
use Prim.Native.Nat.{◌-◌}
use Rattle.running.proofs.Named.{Measuring}
use Rattle.running.proofs.rows.members_length.Given as goal

abbrev pub invariant-loop-i : goal.invariant-loop-i
invariant-loop-i l = Measuring l.results l.pool l.row l.end l.i l.length

abbrev pub decreases-loop-i : goal.decreases-loop-i
decreases-loop-i l = l.end - l.i
