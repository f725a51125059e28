-- The invariants of `text::read_rest` and what falls in its loops. Assumes nothing.
use Prim.Native.Nat.{◌-◌}
use lib.ListN.{length}
use Rattle.text.specs.TextParts.{Reading}
use Rattle.text.proofs.read_rest.Given as goal

abbrev pub invariant-loop-i : goal.invariant-loop-i
invariant-loop-i l = Reading l.doc l.at l.initial.pool l.w l.i l.n l.written l.pool

abbrev pub decreases-loop-i : goal.decreases-loop-i
decreases-loop-i l = length l.doc - l.i
