-- The invariant of the loop of `number::digits::slow_value`. Assumes nothing.
use Rattle.number.specs.NumberCode.{Taken}
use Rattle.number.proofs.digits.slow_value.Given as goal

abbrev pub invariant-loop-b : goal.invariant-loop-b
invariant-loop-b l = Taken l.doc l.at l.b-index l.start l.coefficient
