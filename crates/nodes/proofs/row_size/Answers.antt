-- `nodes::row_size` meets its contract: lists and records have codes above a text's. Assumes nothing.
use mathlib.Core.Path.{sym, ◌∙◌}
use native.Mathlib.Omega.{arith}
use Rattle.nodes.specs.NodesLaws.{row_size_three, row_size_payload}
use Rattle.nodes.proofs.row_size.Goals as goal

pub returns-then-row_kind-gt-TEXT : goal.returns-then-row_kind-gt-TEXT
returns-then-row_kind-gt-TEXT c = record { sized = c.row_payload.ensures.read ∙ sym (row_size_payload c.args.nodes.now c.args.row (omega arith)) }

pub returns-else-row_kind-gt-TEXT : goal.returns-else-row_kind-gt-TEXT
returns-else-row_kind-gt-TEXT c = record { sized = sym (row_size_three c.args.nodes.now c.args.row (omega arith)) }
