-- The invariants of `admits::missing_have_null` and what falls in its loops. Assumes nothing.
use Prim.Native.Nat.{◌-◌}
use Rattle.admits.proofs.Lacking.{Walking}
use Rattle.admits.proofs.missing_have_null.Given as goal

abbrev pub invariant-loop-i : goal.invariant-loop-i
invariant-loop-i l = Walking l.shapes l.from l.to l.nodes l.at l.end l.pool l.i

abbrev pub decreases-loop-i : goal.decreases-loop-i
decreases-loop-i l = l.to - l.i
