-- `number::decimal::fraction_length` meets its contract. Assumes nothing.
use native.Mathlib.Omega.{arith}
use Rattle.definitions.specs.Number.{most_scale}
use Rattle.number.specs.DecimalLaws.{length_fraction_none, length_fraction}
use Rattle.number.proofs.decimal.fraction_length.Goals as goal

pub returns-then-scale-eq0 : goal.returns-then-scale-eq0
returns-then-scale-eq0 c d = length_fraction_none _ d c.if-scale-eq0.true

pub overflow_add-result : goal.overflow_add-result
unfolding most_scale
overflow_add-result c = omega arith

pub returns : goal.returns
returns c d = length_fraction _ d c.if-scale-eq0.false
