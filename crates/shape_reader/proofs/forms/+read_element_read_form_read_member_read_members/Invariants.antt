-- The measures and invariants of the cycle of calls. Assumes nothing.
use Prim.Native.Nat.{◌+◌, ◌-◌, ◌*◌}
use lib.ListN.{length}
use Rattle.shape_reader.proofs.MemberForms.{MembersSoFar}
use Rattle.shape_reader.proofs.forms.+read_element_read_form_read_member_read_members.Given as goal

abbrev pub decreases-read_element : goal.decreases-read_element
decreases-read_element l = 3 * l.left + 2

abbrev pub decreases-read_form : goal.decreases-read_form
decreases-read_form l = 3 * l.left

abbrev pub decreases-read_member : goal.decreases-read_member
decreases-read_member l = 3 * l.left + 1

abbrev pub decreases-read_members : goal.decreases-read_members
decreases-read_members l = 3 * l.left + 2

abbrev pub invariant-read_members-loop-from : goal.invariant-read_members-loop-from
invariant-read_members-loop-from l =
    MembersSoFar l.left l.values l.text l.initial.shapes l.initial.pool l.shapes l.pool l.kinds.kinds l.initial.here l.here l.latest

abbrev pub decreases-read_members-loop-from : goal.decreases-read_members-loop-from
decreases-read_members-loop-from l = length l.text - l.here.at
