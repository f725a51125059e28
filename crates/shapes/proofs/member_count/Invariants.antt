-- The invariants of `shapes::member_count` and what falls in its loops. Assumes nothing.
use Prim.Native.Nat.{◌-◌}
use Rattle.shapes.proofs.Counting.{Counting}
use Rattle.shapes.proofs.member_count.Given as goal

abbrev pub invariant-loop-row : goal.invariant-loop-row
invariant-loop-row l = Counting l.shapes l.from l.end l.row l.count

abbrev pub decreases-loop-row : goal.decreases-loop-row
decreases-loop-row l = l.end - l.row
