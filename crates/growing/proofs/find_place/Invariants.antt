-- The invariants of `growing::find_place` and what falls in its loops. Assumes nothing.
use Prim.Native.Nat.{◌-◌}
use Rattle.growing.proofs.Places.{Walking}
use Rattle.growing.proofs.find_place.Given as goal

abbrev pub invariant-loop-row : goal.invariant-loop-row
invariant-loop-row l = Walking l.shapes l.pool l.used l.first l.last l.name l.row

abbrev pub decreases-loop-row : goal.decreases-loop-row
decreases-loop-row l = l.last - l.row
