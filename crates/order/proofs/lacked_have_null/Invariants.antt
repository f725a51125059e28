-- The invariants of `order::lacked_have_null` and what falls in its loops. Assumes nothing.
use Prim.Native.Nat.{◌-◌}
use Rattle.order.proofs.Lacking.{Walking}
use Rattle.order.proofs.lacked_have_null.Given as goal

abbrev pub invariant-loop-i : goal.invariant-loop-i
invariant-loop-i l = Walking l.first l.from l.to l.second l.at l.end l.pool l.i

abbrev pub decreases-loop-i : goal.decreases-loop-i
decreases-loop-i l = l.end - l.i
