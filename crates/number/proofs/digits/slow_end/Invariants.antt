-- The invariant of the loop of `number::digits::slow_end`. Assumes nothing.
use Rattle.number.specs.NumberCode.{AllDigits}
use Rattle.number.proofs.digits.slow_end.Given as goal

abbrev pub invariant-loop-i : goal.invariant-loop-i
invariant-loop-i l = AllDigits l.doc l.at l.i
