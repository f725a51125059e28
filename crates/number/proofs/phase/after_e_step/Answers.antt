-- `number::phase::after_e_step` meets its contract, a row at a time. Assumes nothing.
use mathlib.Core.Logic.{inl, inr}
use native.Mathlib.Omega.{arith}
use Rattle.definitions.specs.Number.{next}
use Rattle.number.proofs.Rows.{looked, known, in_one, past_one}
use Rattle.number.proofs.phase.after_e_step.Goals as goal

pub returns-in-45 : goal.returns-in-45
unfolding next
returns-in-45 c = elim c.in-45.is [ inl e ↦ looked (past_one (omega arith) (in_one e)) | inr e ↦ looked (in_one e) ]

pub returns-in_default : goal.returns-in_default
unfolding next
returns-in_default c = looked (past_one (grind arith) (past_one (grind arith) (known c.digit_step.ensures)))
