-- `nodes::row_size_in` meets its contract, as `row_size` does. Assumes nothing.
use mathlib.Core.Path.{sym}
use native.Mathlib.Omega.{arith}
use Rattle.nodes.specs.NodesLaws.{row_size_three, row_size_payload}
use Rattle.nodes.proofs.row_size_in.Goals as goal

pub returns-then-nodes-row-gt-TEXT : goal.returns-then-nodes-row-gt-TEXT
returns-then-nodes-row-gt-TEXT c = record { sized = sym (row_size_payload c.args.nodes.now c.args.row (omega arith)) }

pub returns-else-nodes-row-gt-TEXT : goal.returns-else-nodes-row-gt-TEXT
returns-else-nodes-row-gt-TEXT c = record { sized = sym (row_size_three c.args.nodes.now c.args.row (omega arith)) }
