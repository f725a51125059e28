-- The measures and invariants of the cycle of calls. Assumes nothing.
use lib.ListN.{length}
use Prim.Native.Nat.{◌+◌, ◌-◌, ◌*◌}
use Rattle.checking.proofs.PackWalk.{LeftAt}
use Rattle.checking.proofs.+check_each_check_form_check_if_check_pack_check_when.Given as goal

abbrev pub decreases-check_each : goal.decreases-check_each
decreases-check_each l = 2 * (length l.forms.now - l.row)

abbrev pub decreases-check_form : goal.decreases-check_form
decreases-check_form l = 2 * (length l.forms.now - l.row) + 1

abbrev pub decreases-check_if : goal.decreases-check_if
decreases-check_if l = 2 * (length l.forms.now - l.row)

abbrev pub decreases-check_pack : goal.decreases-check_pack
decreases-check_pack l = 2 * (length l.forms.now - l.row)

abbrev pub decreases-check_when : goal.decreases-check_when
decreases-check_when l = 2 * (length l.forms.now - l.row)

abbrev pub invariant-check_pack-loop-i : goal.invariant-check_pack-loop-i
invariant-check_pack-loop-i l =
    LeftAt l.forms l.shapes l.pool l.initial.bindings l.bindings l.row l.end l.bound l.i

abbrev pub decreases-check_pack-loop-i : goal.decreases-check_pack-loop-i
decreases-check_pack-loop-i l = l.end - l.i
