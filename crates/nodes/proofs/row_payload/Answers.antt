-- `nodes::row_payload` meets its contract: past the end stands 0. Assumes nothing.
use mathlib.Core.Path.{sym}
use native.Mathlib.Omega.{arith}
use lib.ListN.{get_or-eq_default}
use Rattle.nodes.proofs.row_payload.Goals as goal

pub returns-else-row-nodes : goal.returns-else-row-nodes
returns-else-row-nodes c = record { read = sym (get_or-eq_default c.args.nodes.now 0 (omega arith)) }
