-- `number::digits::not_digits` meets its contract: no byte carries. Assumes nothing.
use native.Mathlib.Omega.{arith}
use Rattle.number.proofs.DigitLanes.{sum_fits, digits_marked}
use Rattle.number.proofs.digits.not_digits.Goals as goal

pub overflow_add-result : goal.overflow_add-result
overflow_add-result c = record { fits = sum_fits c.args.word (omega arith) }

pub returns : goal.returns
returns c = digits_marked c.args.word
