-- `nodes::text_reference` meets its contract. Assumes nothing.
use native.Mathlib.Omega.{arith}
use Rattle.nodes.specs.Nodes.{reference}
use Rattle.nodes.proofs.text_reference.Goals as goal

pub overflow_mul-result : goal.overflow_mul-result
unfolding reference
overflow_mul-result c = omega arith

pub overflow_add-result : goal.overflow_add-result
unfolding reference
overflow_add-result c = omega arith

pub returns : goal.returns
unfolding reference
returns c = record { made = omega arith }
