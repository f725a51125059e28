-- The invariant of `shape_reader::kinds::read_kinds` and what falls in its loop. Assumes nothing.
use Prim.Native.Nat.{◌-◌}
use lib.ListN.{length}
use Rattle.shape_reader.proofs.KindReading.{KindsSoFar}
use Rattle.shape_reader.proofs.kinds.read_kinds.Given as goal

abbrev pub invariant-loop-word : goal.invariant-loop-word
invariant-loop-word l = KindsSoFar l.text l.at l.kinds.kinds l.end

abbrev pub decreases-loop-word : goal.decreases-loop-word
decreases-loop-word l = length l.text - l.end
