-- The measures and invariants of the cycle of calls. Assumes nothing.
use Prim.Native.Nat.{◌+◌, ◌-◌}
use lib.ListN.{length}
use Rattle.admits.proofs.Elements as elements
use Rattle.admits.proofs.Named as named
use Rattle.admits.proofs.+admits_admits_items_admits_listed_admits_members.Given as goal

abbrev pub decreases-admits : goal.decreases-admits
decreases-admits l = length l.nodes.now - l.at

abbrev pub decreases-admits_items : goal.decreases-admits_items
decreases-admits_items l = length l.nodes.now - l.at + 1

abbrev pub decreases-admits_listed : goal.decreases-admits_listed
decreases-admits_listed l = length l.nodes.now - l.at + 1

abbrev pub decreases-admits_members : goal.decreases-admits_members
decreases-admits_members l = length l.nodes.now - l.at + 2

abbrev pub invariant-admits_items-loop-i : goal.invariant-admits_items-loop-i
invariant-admits_items-loop-i l = elements.Walking l.shapes l.row l.nodes l.at l.end l.pool l.i

abbrev pub decreases-admits_items-loop-i : goal.decreases-admits_items-loop-i
decreases-admits_items-loop-i l = l.end - l.i

abbrev pub invariant-admits_members-loop-i : goal.invariant-admits_members-loop-i
invariant-admits_members-loop-i l = named.Walking l.shapes l.from l.to l.nodes l.at l.end l.pool l.i

abbrev pub decreases-admits_members-loop-i : goal.decreases-admits_members-loop-i
decreases-admits_members-loop-i l = l.end - l.i
