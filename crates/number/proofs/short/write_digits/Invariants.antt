-- The invariants of `number::short::write_digits` and what falls in its loops. Assumes nothing.
use Rattle.number.proofs.Writing.{Falling}
use Rattle.number.proofs.short.write_digits.Given as goal

abbrev pub invariant-loop-left : goal.invariant-loop-left
invariant-loop-left l = Falling l.initial.out l.at l.count l.value l.out l.left l.n

abbrev pub decreases-loop-left : goal.decreases-loop-left
decreases-loop-left l = l.left
