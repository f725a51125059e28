-- The invariants of `text::wide::tails_end` and what falls in its loops. Assumes nothing.
use Rattle.definitions.specs.Text.{Inside}
use Rattle.text.proofs.Characters.{TailsSoFar}
use Rattle.text.proofs.wide.tails_end.Given as goal

abbrev pub invariant-loop-from : goal.invariant-loop-from
invariant-loop-from l = TailsSoFar l.doc (Inside.tail l.lo l.hi l.more) l.at l.i l.from l.to l.left

abbrev pub decreases-loop-from : goal.decreases-loop-from
decreases-loop-from l = l.left
