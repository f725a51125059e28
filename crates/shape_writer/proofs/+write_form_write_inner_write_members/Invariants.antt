-- The measures and invariants of the cycle of calls. Assumes nothing.
use Prim.Native.Nat.{◌+◌, ◌-◌, ◌*◌}
use lib.ListN.{length}
use Rattle.shape_writer.proofs.Members.{Loop}
use Rattle.shape_writer.proofs.+write_form_write_inner_write_members.Given as goal

abbrev pub decreases-write_form : goal.decreases-write_form
decreases-write_form l = 2 * (length l.shapes.now - l.row)

abbrev pub decreases-write_inner : goal.decreases-write_inner
decreases-write_inner l = 2 * (length l.shapes.now - l.row) + 1

abbrev pub decreases-write_members : goal.decreases-write_members
decreases-write_members l = 2 * (length l.shapes.now - l.row) + 2

abbrev pub invariant-write_members-loop-i : goal.invariant-write_members-loop-i
invariant-write_members-loop-i l = Loop l.shapes l.pool l.row l.end l.around l.initial.out l.at l.out l.i l.j

abbrev pub decreases-write_members-loop-i : goal.decreases-write_members-loop-i
decreases-write_members-loop-i l = l.end - l.i
