-- `number::write::number_length` meets its contract: the length is the sum of the parts'. Assumes nothing.
use native.Mathlib.Omega.{arith}
use Rattle.number.specs.NumberWrite.{as_number}
use Rattle.number.specs.DecimalLaws.{length_plain, plain_short}
use Rattle.number.proofs.write.number_length.Goals as goal

pub overflow_add-result : goal.overflow_add-result
overflow_add-result c =
    let x = as_number c.args.negative c.args.coefficient c.args.scale in
    omega (arith, length_plain x, plain_short x c.requires)

pub overflow_add-result-2 : goal.overflow_add-result-2
overflow_add-result-2 c =
    let x = as_number c.args.negative c.args.coefficient c.args.scale in
    omega (arith, length_plain x, plain_short x c.requires, c.fraction_length.ensures c.args.coefficient)

pub returns : goal.returns
returns c =
    let x = as_number c.args.negative c.args.coefficient c.args.scale in
    omega (arith, length_plain x, c.fraction_length.ensures c.args.coefficient)
