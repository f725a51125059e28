-- The invariants of `pool::same_whole` and what falls in its loops. Assumes nothing.
use Rattle.pool.proofs.WordOrder.{Alike}
use Rattle.pool.proofs.same_whole.Given as goal

abbrev pub invariant-loop-i : goal.invariant-loop-i
invariant-loop-i l = Alike l.pool l.w l.v l.i
