-- `number::decimal::whole_length` meets its contract. Assumes nothing.
use native.Mathlib.Omega.{arith}
use Rattle.number.specs.DecimalLaws.{length_quotient}
use Rattle.number.proofs.decimal.whole_length.Goals as goal

pub returns-then-behind-digits : goal.returns-then-behind-digits
returns-then-behind-digits c =
    let a = c.args in
    omega (arith, c.decimal_length-digits.ensures, length_quotient a.scale a.coefficient)

pub returns-else-behind-digits : goal.returns-else-behind-digits
returns-else-behind-digits c =
    let a = c.args in
    omega (arith, c.decimal_length-digits.ensures, length_quotient a.scale a.coefficient)
