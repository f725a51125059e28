-- The measures and invariants of the cycle of calls. Assumes nothing.
use Prim.Native.Nat.{◌+◌, ◌-◌, ◌*◌}
use lib.ListN.{length}
use Rattle.shape_writer.proofs.Lengths.{Counting}
use Rattle.shape_writer.proofs.+form_length_inner_length_members_length.Given as goal

abbrev pub decreases-form_length : goal.decreases-form_length
decreases-form_length l = 2 * (length l.shapes.now - l.row)

abbrev pub decreases-inner_length : goal.decreases-inner_length
decreases-inner_length l = 2 * (length l.shapes.now - l.row) + 1

abbrev pub decreases-members_length : goal.decreases-members_length
decreases-members_length l = 2 * (length l.shapes.now - l.row) + 2

abbrev pub invariant-members_length-loop-i : goal.invariant-members_length-loop-i
invariant-members_length-loop-i l = Counting l.shapes l.pool l.row l.end l.around l.i l.length

abbrev pub decreases-members_length-loop-i : goal.decreases-members_length-loop-i
decreases-members_length-loop-i l = l.end - l.i
