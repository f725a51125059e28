-- `number::fraction_end` meets its contract. Assumes nothing.
use native.Mathlib.Omega.{arith}
use mathlib.Core.Path.{refl}
use Rattle.number.specs.NumberCode.{a_point, no_point}
use Rattle.number.proofs.fraction_end.Goals as goal

pub digits_end-requires : goal.digits_end-requires
digits_end-requires c = omega (arith, c.stands_at.ensures.inside c.if-stands_at.true)

pub returns-then-stands_at : goal.returns-then-stands_at
returns-then-stands_at c =
    a_point (c.stands_at.ensures.inside c.if-stands_at.true) (c.stands_at.ensures.here c.if-stands_at.true)
    c.digits_end.ensures

pub returns : goal.returns
returns c = no_point refl
