-- `number::phase::step` meets its contract: each phase's function looks up that phase's table. Assumes nothing.
use mathlib.Core.Logic.{inl, inr}
use Rattle.definitions.specs.Number.{next}
use Rattle.number.proofs.phase.step.Goals as goal

pub returns-in-Begin : goal.returns-in-Begin
unfolding next
returns-in-Begin c = rw c.in-Begin.is c.begin_step.ensures

pub returns-in-AfterMinus : goal.returns-in-AfterMinus
unfolding next
returns-in-AfterMinus c = rw c.in-AfterMinus.is c.int_step.ensures

pub returns-in-AfterZero : goal.returns-in-AfterZero
unfolding next
returns-in-AfterZero c = rw c.in-AfterZero.is c.point_step.ensures

pub returns-in-InInt : goal.returns-in-InInt
unfolding next
returns-in-InInt c = rw c.in-InInt.is c.in_int_step.ensures

pub returns-in-AfterPoint : goal.returns-in-AfterPoint
unfolding next
returns-in-AfterPoint c = rw c.in-AfterPoint.is c.digit_step.ensures

pub returns-in-InFrac : goal.returns-in-InFrac
unfolding next
returns-in-InFrac c = rw c.in-InFrac.is c.in_frac_step.ensures

pub returns-in-AfterE : goal.returns-in-AfterE
unfolding next
returns-in-AfterE c = rw c.in-AfterE.is c.after_e_step.ensures

pub returns-in-AfterSign : goal.returns-in-AfterSign
unfolding next
returns-in-AfterSign c = elim c.in-AfterSign.is [ inl e ↦ rw e c.digit_step-in-AfterSign.ensures | inr e ↦ rw e c.digit_step-in-AfterSign.ensures ]
