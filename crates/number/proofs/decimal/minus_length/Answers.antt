-- `number::decimal::minus_length` meets its contract. Assumes nothing.
use Rattle.definitions.specs.Plain.{minus}
use Rattle.definitions.specs.Bytes.{bytes}
use Rattle.number.proofs.decimal.minus_length.Goals as goal

pub returns-then-negative : goal.returns-then-negative
unfolding minus bytes
returns-then-negative c = rw c.if-negative.true

pub returns-else-negative : goal.returns-else-negative
unfolding minus
returns-else-negative c = rw c.if-negative.false
