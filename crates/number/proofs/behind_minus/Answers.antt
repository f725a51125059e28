-- `number::behind_minus` meets its contract. Assumes nothing.
use mathlib.Core.Path.{sym, ap}
use native.Mathlib.Omega.{arith}
use Rattle.number.specs.NumberCode.{behind_minus}
use Rattle.number.proofs.behind_minus.Goals as goal

pub returns-then-negative : goal.returns-then-negative
returns-then-negative c = sym (ap (behind_minus c.args.at) c.if-negative.true)

pub returns-else-negative : goal.returns-else-negative
returns-else-negative c = sym (ap (behind_minus c.args.at) c.if-negative.false)

pub overflow_add-result : goal.overflow_add-result
overflow_add-result c =
    omega arith
