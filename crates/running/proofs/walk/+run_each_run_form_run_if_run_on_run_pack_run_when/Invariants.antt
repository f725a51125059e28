-- The measures and invariants of the cycle of calls. Assumes nothing.
use Prim.Native.Nat.{◌+◌, ◌-◌, ◌*◌}
use lib.ListN.{length}
use Rattle.running.proofs.EachRuns as each
use Rattle.running.proofs.PackRuns as pack
use Rattle.running.proofs.walk.+run_each_run_form_run_if_run_on_run_pack_run_when.Given as goal

abbrev pub decreases-run_each : goal.decreases-run_each
decreases-run_each l = 3 * (length l.t.now.forms.now - l.c.row)

abbrev pub decreases-run_form : goal.decreases-run_form
decreases-run_form l = 3 * (length l.t.now.forms.now - l.c.row) + 2

abbrev pub decreases-run_if : goal.decreases-run_if
decreases-run_if l = 3 * (length l.t.now.forms.now - l.c.row)

abbrev pub decreases-run_on : goal.decreases-run_on
decreases-run_on l = 3 * (length l.t.now.forms.now - l.c.row) + 1

abbrev pub decreases-run_pack : goal.decreases-run_pack
decreases-run_pack l = 3 * (length l.t.now.forms.now - l.c.row)

abbrev pub decreases-run_when : goal.decreases-run_when
decreases-run_when l = 3 * (length l.t.now.forms.now - l.c.row)

abbrev pub invariant-run_each-loop-i : goal.invariant-run_each-loop-i
invariant-run_each-loop-i l =
    each.EachLoop l.t.forms.now l.t.nodes.now l.t.pool.now l.initial.bindings l.initial.results l.t.limit l.c l.at l.behind l.end
    l.bindings l.results l.i l.begun l.steps

abbrev pub decreases-run_each-loop-i : goal.decreases-run_each-loop-i
decreases-run_each-loop-i l = l.end - l.i

abbrev pub invariant-run_pack-loop-row : goal.invariant-run_pack-loop-row
invariant-run_pack-loop-row l =
    pack.PackLoop l.t.forms.now l.t.nodes.now l.t.pool.now l.initial.bindings l.initial.results l.t.limit l.c l.end l.bindings l.results l.row l.begun l.steps

abbrev pub decreases-run_pack-loop-row : goal.decreases-run_pack-loop-row
decreases-run_pack-loop-row l = l.end - l.row
