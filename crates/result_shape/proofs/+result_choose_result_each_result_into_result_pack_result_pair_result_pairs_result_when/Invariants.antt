-- The measures and invariants of the cycle of calls. Assumes nothing.
use Prim.Native.Nat.{◌+◌, ◌-◌, ◌*◌}
use lib.ListN.{length}
use Rattle.result_shape.proofs.PairsLoop.{PairsLoop}
use Rattle.result_shape.proofs.+result_choose_result_each_result_into_result_pack_result_pair_result_pairs_result_when.Given as goal

abbrev pub decreases-result_choose : goal.decreases-result_choose
decreases-result_choose l = 4 * (length l.reader.now.forms.now - l.row)

abbrev pub decreases-result_each : goal.decreases-result_each
decreases-result_each l = 4 * (length l.reader.now.forms.now - l.row)

abbrev pub decreases-result_into : goal.decreases-result_into
decreases-result_into l = 4 * (length l.reader.now.forms.now - l.row) + 1

abbrev pub decreases-result_pack : goal.decreases-result_pack
decreases-result_pack l = 4 * (length l.reader.now.forms.now - l.row)

abbrev pub decreases-result_pair : goal.decreases-result_pair
decreases-result_pair l = 4 * (length l.reader.now.forms.now - l.row) + 2

abbrev pub decreases-result_pairs : goal.decreases-result_pairs
decreases-result_pairs l = 4 * (length l.reader.now.forms.now - l.row) + 3

abbrev pub decreases-result_when : goal.decreases-result_when
decreases-result_when l = 4 * (length l.reader.now.forms.now - l.row)

abbrev pub invariant-result_pairs-loop-i : goal.invariant-result_pairs-loop-i
invariant-result_pairs-loop-i l =
    PairsLoop l.reader.forms.now l.reader.shapes.now l.reader.pool.now l.initial.env l.initial.into
    l.row l.end l.bound l.used l.first l.last l.deep l.had l.env l.into l.i l.grown

abbrev pub decreases-result_pairs-loop-i : goal.decreases-result_pairs-loop-i
decreases-result_pairs-loop-i l = l.end - l.i
