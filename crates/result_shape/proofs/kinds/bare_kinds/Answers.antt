-- `result_shape::kinds::bare_kinds` meets its contract. Assumes nothing.
use Rattle.result_shape.proofs.BareKinds.{at_count, at_conversion, at_literal}
use Rattle.result_shape.proofs.kinds.bare_kinds.Goals as goal

pub returns-then-code-eq-COUNT : goal.returns-then-code-eq-COUNT
returns-then-code-eq-COUNT c = record { told = at_count c.if-code-eq-COUNT.true }

pub returns-then-code-lt-COUNT : goal.returns-then-code-lt-COUNT
returns-then-code-lt-COUNT c = record { told = at_conversion c.if-code-lt-COUNT.true c.conversion_kinds.ensures.told }

pub returns : goal.returns
returns c = record { told = at_literal c.if-code-eq-COUNT.false c.if-code-lt-COUNT.false c.literal_kinds.ensures.told }
