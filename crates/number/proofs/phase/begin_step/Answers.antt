-- `number::phase::begin_step` meets its contract, a row at a time. Assumes nothing.
use Rattle.definitions.specs.Number.{next}
use native.Mathlib.Omega.{arith}
use Rattle.number.proofs.Rows.{looked, known, in_one, past_one}
use Rattle.number.proofs.phase.begin_step.Goals as goal

pub returns-in-45 : goal.returns-in-45
unfolding next
returns-in-45 c = looked (in_one c.in-45.is)

pub returns-in_default : goal.returns-in_default
unfolding next
returns-in_default c = looked (past_one (omega arith) (known c.int_step.ensures))
