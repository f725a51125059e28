-- `number::whole_end` meets its contract. Assumes nothing.
use mathlib.Core.Path.{refl}
use Rattle.number.specs.NumberCode.{a_zero, no_zero}
use Rattle.number.proofs.whole_end.Goals as goal

pub returns-then-stands_at : goal.returns-then-stands_at
returns-then-stands_at c = a_zero (c.stands_at.ensures.inside c.if-stands_at.true) (c.stands_at.ensures.here c.if-stands_at.true) refl

pub returns : goal.returns
returns c = no_zero (c.stands_at.ensures.other c.if-stands_at.false) c.digits_end.ensures
