-- The measures and invariants of the cycle of calls. Assumes nothing.
use Prim.Native.Nat.{◌-◌}
use Rattle.shape_writer.proofs.Depth.{Descent}
use Rattle.shape_writer.proofs.+is_deeper.Given as goal

abbrev pub decreases-is_deeper : goal.decreases-is_deeper
decreases-is_deeper l = l.left

abbrev pub invariant-loop-i : goal.invariant-loop-i
invariant-loop-i l = Descent l.shapes l.row l.left l.end l.i

abbrev pub decreases-loop-i : goal.decreases-loop-i
decreases-loop-i l = l.end - l.i
