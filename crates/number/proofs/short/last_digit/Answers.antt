-- `number::short::last_digit` meets its contract. Assumes nothing.
use native.Mathlib.Omega.{arith}
use Rattle.number.proofs.Quotients.{ten_least, ten_left}
use Rattle.number.proofs.short.last_digit.Goals as goal

pub overflow_mul-result : goal.overflow_mul-result
overflow_mul-result c = omega (arith, ten_least c.args.n c.args.q c.requires c.power.ensures)

pub overflow_sub-result : goal.overflow_sub-result
overflow_sub-result c = ten_least c.args.n c.args.q c.requires c.power.ensures

pub overflow_add-result : goal.overflow_add-result
overflow_add-result c = omega (arith, ten_left c.args.n c.args.q c.requires c.power.ensures)

pub overflow_cast-result : goal.overflow_cast-result
overflow_cast-result c = omega (arith, ten_left c.args.n c.args.q c.requires c.power.ensures)

pub returns : goal.returns
returns c = omega (arith, ten_left c.args.n c.args.q c.requires c.power.ensures)
