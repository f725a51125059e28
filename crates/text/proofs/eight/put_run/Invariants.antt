-- The invariants of `text::eight::put_run` and what falls in its loops. Assumes nothing.
use Prim.Native.Nat.{◌-◌}
use lib.ListN.{length}
use Rattle.text.specs.TextParts.{Stood}
use Rattle.text.proofs.eight.put_run.Given as goal

abbrev pub invariant-loop-i : goal.invariant-loop-i
invariant-loop-i l = Stood l.doc l.at l.initial.pool l.pool l.w l.n l.i

abbrev pub decreases-loop-i : goal.decreases-loop-i
decreases-loop-i l = length l.doc - l.i
