-- The invariants of `running::places::find_member` and what falls in its loops. Assumes nothing.
use Prim.Native.Nat.{◌-◌}
use Rattle.running.proofs.Lookup.{Looking}
use Rattle.running.proofs.places.find_member.Given as goal

abbrev pub invariant-loop-i : goal.invariant-loop-i
invariant-loop-i l = Looking l.nodes l.pool l.at l.name l.i

abbrev pub decreases-loop-i : goal.decreases-loop-i
decreases-loop-i l = l.end - l.i
