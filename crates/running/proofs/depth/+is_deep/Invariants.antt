-- The measures and invariants of the cycle of calls. Assumes nothing.
use Prim.Native.Nat.{◌-◌}
use Rattle.running.proofs.Depths.{Looking}
use Rattle.running.proofs.depth.+is_deep.Given as goal

abbrev pub decreases-is_deep : goal.decreases-is_deep
decreases-is_deep l = l.left

abbrev pub invariant-loop-i : goal.invariant-loop-i
invariant-loop-i l = Looking l.nodes l.at l.left l.i

abbrev pub decreases-loop-i : goal.decreases-loop-i
decreases-loop-i l = l.end - l.i
