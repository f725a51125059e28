-- `number::decimal::decimal_length` meets its contract: its bits say how many digits it has. Assumes nothing.
use native.Mathlib.Omega.{arith}
use Rattle.definitions.specs.Number.{most_coefficient}
use Rattle.number.proofs.Counting.{bits_fit, digits_fit, counted_below, counted_from}
use Rattle.number.proofs.decimal.decimal_length.Goals as goal

pub overflow_cast-bits : goal.overflow_cast-bits
unfolding most_coefficient
overflow_cast-bits c = omega (arith, bits_fit c.args.n (omega arith))

pub overflow_sub-bits : goal.overflow_sub-bits
unfolding most_coefficient
overflow_sub-bits c = bits_fit c.args.n (omega arith)

pub power-requires : goal.power-requires
unfolding most_coefficient
power-requires c = digits_fit c.args.n (omega arith)

pub returns-then-m-power : goal.returns-then-m-power
unfolding most_coefficient
returns-then-m-power c = counted_below c.args.n (omega arith) (rw c.power.ensures at c.if-m-power.true)

pub returns-else-m-power : goal.returns-else-m-power
unfolding most_coefficient
returns-else-m-power c = counted_from c.args.n (omega arith) (rw c.power.ensures at c.if-m-power.false)
