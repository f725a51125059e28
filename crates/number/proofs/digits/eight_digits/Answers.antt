-- `number::digits::eight_digits` meets its contract. Assumes nothing.
use native.Mathlib.Omega.{arith}
use Rattle.number.proofs.EightDigits.{lanes_products}
use Rattle.number.proofs.digits.eight_digits.Goals as goal

pub overflow_mul-pairs : goal.overflow_mul-pairs
overflow_mul-pairs c = omega (arith, (lanes_products c.args.x (omega arith) c.requires).pairs_fit)

pub overflow_add-pairs : goal.overflow_add-pairs
overflow_add-pairs c = record { fits = (lanes_products c.args.x (omega arith) c.requires).pairs_fit }

pub overflow_mul-fours : goal.overflow_mul-fours
overflow_mul-fours c = omega (arith, (lanes_products c.args.x (omega arith) c.requires).fours_fit)

pub overflow_add-fours : goal.overflow_add-fours
overflow_add-fours c = record { fits = (lanes_products c.args.x (omega arith) c.requires).fours_fit }

pub overflow_mul-result : goal.overflow_mul-result
overflow_mul-result c = omega (arith, (lanes_products c.args.x (omega arith) c.requires).all_fit)

pub overflow_add-result : goal.overflow_add-result
overflow_add-result c = record { fits = (lanes_products c.args.x (omega arith) c.requires).all_fit }

pub returns : goal.returns
returns c = (lanes_products c.args.x (omega arith) c.requires).value
