-- `number::phase::point_step` meets its contract, a row at a time. Assumes nothing.
use native.Mathlib.Omega.{arith}
use Rattle.number.proofs.Rows.{looked, known, in_one, past_one}
use Rattle.number.proofs.phase.point_step.Goals as goal

pub returns-in-46 : goal.returns-in-46
returns-in-46 c = looked (in_one c.in-46.is)

pub returns-in_default : goal.returns-in_default
returns-in_default c = looked (past_one (omega arith) (known c.e_step.ensures))
