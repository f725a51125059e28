-- The invariants of `number::places::write_rest` and what falls in its loops. Assumes nothing.
use Rattle.number.proofs.Writing.{Placing}
use Rattle.number.proofs.places.write_rest.Given as goal

abbrev pub invariant-loop-left : goal.invariant-loop-left
invariant-loop-left l = Placing l.initial.out l.at l.count l.x l.out l.left l.word

abbrev pub decreases-loop-left : goal.decreases-loop-left
decreases-loop-left l = l.left
