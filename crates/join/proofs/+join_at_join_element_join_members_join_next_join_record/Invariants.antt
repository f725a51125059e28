-- The measures and invariants of the cycle of calls. Assumes nothing.
use Prim.Native.Nat.{◌+◌, ◌-◌, ◌*◌}
use Rattle.join.proofs.Loop.{Underway}
use Rattle.join.proofs.+join_at_join_element_join_members_join_next_join_record.Given as goal

abbrev pub decreases-join_at : goal.decreases-join_at
decreases-join_at l = 4 * l.left + 3

abbrev pub decreases-join_element : goal.decreases-join_element
decreases-join_element l = 4 * l.left + 2

abbrev pub decreases-join_members : goal.decreases-join_members
decreases-join_members l = 4 * l.left + 5

abbrev pub decreases-join_next : goal.decreases-join_next
decreases-join_next l = 4 * l.left + 4

abbrev pub decreases-join_record : goal.decreases-join_record
decreases-join_record l = 4 * l.left + 2

abbrev pub invariant-join_members-loop-i : goal.invariant-join_members-loop-i
invariant-join_members-loop-i l =
    Underway l.initial.shapes l.second l.pool l.used l.row l.end l.other l.to l.left l.shapes l.words l.i l.j

abbrev pub decreases-join_members-loop-i : goal.decreases-join_members-loop-i
decreases-join_members-loop-i l =
    l.end + l.words + l.to - (l.i + l.j)
