-- `nodes::put_row` meets its contract: three stores, one behind the other. Assumes nothing.
use native.Mathlib.Omega.{arith}
use lib.ListN.{length-set}
use Rattle.nodes.proofs.Rows.{row_put}
use Rattle.nodes.proofs.put_row.Goals as goal

pub bounds-nodes-row-2 : goal.bounds-nodes-row-2
bounds-nodes-row-2 c = omega (arith, length-set c.args.nodes.now c.args.row c.args.head)

pub bounds-nodes-row-3 : goal.bounds-nodes-row-3
bounds-nodes-row-3 c = simp (length-set, length-set) (omega arith)

pub returns : goal.returns
returns c = record { put = row_put c.args.nodes.now c.args.row c.args.head c.args.payload c.args.name c.requires }
