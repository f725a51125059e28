-- The measures and invariants of the cycle of calls. Assumes nothing.
use Prim.Native.Nat.{◌+◌, ◌-◌}
use lib.ListN.{length}
use Rattle.plain.proofs.Loop.{Loop}
use Rattle.plain.proofs.+write_at_write_parts.Given as goal

abbrev pub decreases-write_at : goal.decreases-write_at
decreases-write_at l = length l.nodes.now - l.row

abbrev pub decreases-write_parts : goal.decreases-write_parts
decreases-write_parts l = length l.nodes.now - l.row + 1

abbrev pub invariant-write_parts-loop-i : goal.invariant-write_parts-loop-i
invariant-write_parts-loop-i l = Loop l.nodes l.pool l.named l.row l.end l.initial.out l.at l.out l.i l.j

abbrev pub decreases-write_parts-loop-i : goal.decreases-write_parts-loop-i
decreases-write_parts-loop-i l = l.end - l.i
