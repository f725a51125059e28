-- The measures and invariants of the cycle of calls. Assumes nothing.
use Prim.Native.Nat.{◌+◌, ◌-◌, ◌*◌}
use lib.ListN.{length}
use Rattle.infer.proofs.Items.{ItemsLoop}
use Rattle.infer.proofs.Walk.{MembersLoop}
use Rattle.infer.proofs.+infer_into_infer_items_infer_list_infer_member_infer_members_infer_record.Given as goal

abbrev pub decreases-infer_into : goal.decreases-infer_into
decreases-infer_into l = 3 * (length l.nodes.now - l.at) + 1

abbrev pub decreases-infer_items : goal.decreases-infer_items
decreases-infer_items l = 3 * (length l.nodes.now - l.at) + 2

abbrev pub decreases-infer_list : goal.decreases-infer_list
decreases-infer_list l = 3 * (length l.nodes.now - l.at)

abbrev pub decreases-infer_member : goal.decreases-infer_member
decreases-infer_member l = 3 * (length l.nodes.now - l.at) + 2

abbrev pub decreases-infer_members : goal.decreases-infer_members
decreases-infer_members l = 3 * (length l.nodes.now - l.at) + 3

abbrev pub decreases-infer_record : goal.decreases-infer_record
decreases-infer_record l = 3 * (length l.nodes.now - l.at)

abbrev pub invariant-infer_items-loop-i : goal.invariant-infer_items-loop-i
invariant-infer_items-loop-i l = ItemsLoop l.initial.shapes l.nodes l.pool l.used l.row l.at l.end l.shapes l.i l.grown

abbrev pub decreases-infer_items-loop-i : goal.decreases-infer_items-loop-i
decreases-infer_items-loop-i l = l.end - l.i

abbrev pub invariant-infer_members-loop-i : goal.invariant-infer_members-loop-i
invariant-infer_members-loop-i l =
    MembersLoop l.initial.shapes l.nodes l.pool l.used l.first l.last l.at l.end l.had l.shapes l.i l.grown

abbrev pub decreases-infer_members-loop-i : goal.decreases-infer_members-loop-i
decreases-infer_members-loop-i l = l.end - l.i
