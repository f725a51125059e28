-- `json_reader::scalar::read_scalar` meets its contract: the first byte tells. Assumes nothing.
use mathlib.Core.Path.{sym, ◌∙◌}
use Rattle.json_reader.proofs.Literals.{true_literal, false_literal, null_literal, only_number}
use Rattle.json_reader.proofs.scalar.read_scalar.Goals as goal

pub read_literal-requires : goal.read_literal-requires
read_literal-requires c =
    (c.requires.0.placed, true_literal, sym c.peek-b.ensures.read ∙ c.if-b-eq116.true)

pub returns-then-b-eq116 : goal.returns-then-b-eq116
returns-then-b-eq116 c = record { read = c.read_literal.ensures.read c.args.pool.now }

pub read_literal-requires-then-b-eq102 : goal.read_literal-requires-then-b-eq102
read_literal-requires-then-b-eq102 c =
    (c.requires.0.placed, false_literal, sym c.peek-b.ensures.read ∙ c.if-b-eq102.true)

pub returns-then-b-eq102 : goal.returns-then-b-eq102
returns-then-b-eq102 c = record { read = c.read_literal-then-b-eq102.ensures.read c.args.pool.now }

pub read_literal-requires-then-b-eq110 : goal.read_literal-requires-then-b-eq110
read_literal-requires-then-b-eq110 c =
    (c.requires.0.placed, null_literal, sym c.peek-b.ensures.read ∙ c.if-b-eq110.true)

pub returns-then-b-eq110 : goal.returns-then-b-eq110
returns-then-b-eq110 c = record { read = c.read_literal-then-b-eq110.ensures.read c.args.pool.now }

pub read_number_value-requires : goal.read_number_value-requires
read_number_value-requires c = (
  c.requires.0.placed,
  only_number c.peek-b.ensures.read c.requires.1 c.if-b-eq34.false c.if-b-eq116.false
      c.if-b-eq102.false c.if-b-eq110.false,
)

pub returns : goal.returns
returns c = record { read = c.read_number_value.ensures.read c.args.pool.now }
