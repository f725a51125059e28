-- The invariants of `shapes::find_named` and what falls in its loops. Assumes nothing.
use Prim.Native.Nat.{◌-◌, ◌/◌, ◌%◌}
use Rattle.shapes.proofs.Searches.{Searching}
use Rattle.shapes.proofs.find_named.Given as goal

abbrev pub invariant-loop-row : goal.invariant-loop-row
invariant-loop-row l = Searching l.shapes l.pool l.from l.end (l.k % 65536) (l.k / 65536) l.row

abbrev pub decreases-loop-row : goal.decreases-loop-row
decreases-loop-row l = l.end - l.row
