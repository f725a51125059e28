-- `number::phase::int_step` meets its contract: a digit that is not 0 is one from 1 to 9. Assumes nothing.
use Rattle.definitions.specs.Number.{int_rows}
use native.Mathlib.Omega.{arith}
use Rattle.number.proofs.Rows.{looked, in_one, past_one, narrowed}
use Rattle.number.proofs.phase.int_step.Goals as goal

pub returns-in-48 : goal.returns-in-48
unfolding int_rows
returns-in-48 c = looked (in_one c.in-48.is)

pub returns-in_default : goal.returns-in_default
unfolding int_rows
returns-in_default c = looked (past_one (omega arith) (narrowed 48 (omega arith) c.digit_step.ensures))
