-- `nodes::number_bits` meets its contract. Assumes nothing.
use mathlib.Core.Path.{ap}
use native.Mathlib.Omega.{arith}
use Rattle.nodes.specs.Nodes.{sign_bit}
use Rattle.nodes.proofs.number_bits.Goals as goal

pub returns-then-negative : goal.returns-then-negative
unfolding sign_bit
returns-then-negative c = record { made = omega (arith, ap sign_bit c.if-negative.true) }

pub returns-else-negative : goal.returns-else-negative
unfolding sign_bit
returns-else-negative c = record { made = omega (arith, ap sign_bit c.if-negative.false) }
