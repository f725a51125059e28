-- `number::phase::e_step` meets its contract, a row at a time. Assumes nothing.
use mathlib.Core.Logic.{inl, inr}
use native.Mathlib.Omega.{arith}
use Rattle.definitions.specs.Number.{e_rows}
use Rattle.number.proofs.Rows.{looked, nowhere, in_one, past_one}
use Rattle.number.proofs.phase.e_step.Goals as goal

pub returns-in-101 : goal.returns-in-101
unfolding e_rows
returns-in-101 c = elim c.in-101.is [ inl e ↦ looked (past_one (omega arith) (in_one e)) | inr e ↦ looked (in_one e) ]

pub returns-in_default : goal.returns-in_default
unfolding e_rows
returns-in_default c = looked (past_one (grind arith) (past_one (grind arith) nowhere))
