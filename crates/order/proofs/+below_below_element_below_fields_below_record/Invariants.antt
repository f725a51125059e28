-- The measures and invariants of the cycle of calls. Assumes nothing.
use Prim.Native.Nat.{◌+◌, ◌-◌, ◌*◌}
use Rattle.order.proofs.Named as named
use Rattle.order.proofs.+below_below_element_below_fields_below_record.Given as goal

abbrev pub decreases-below : goal.decreases-below
decreases-below l = 3 * l.left

abbrev pub decreases-below_element : goal.decreases-below_element
decreases-below_element l = 3 * l.left - 1

abbrev pub decreases-below_fields : goal.decreases-below_fields
decreases-below_fields l = 3 * l.left + 1

abbrev pub decreases-below_record : goal.decreases-below_record
decreases-below_record l = 3 * l.left - 1

abbrev pub invariant-below_fields-loop-i : goal.invariant-below_fields-loop-i
invariant-below_fields-loop-i l = named.Walking l.first l.from l.to l.second l.at l.end l.pool l.i

abbrev pub decreases-below_fields-loop-i : goal.decreases-below_fields-loop-i
decreases-below_fields-loop-i l = l.to - l.i
