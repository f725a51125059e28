-- The measures and invariants of the cycle of calls. Assumes nothing.
use Prim.Native.Nat.{◌+◌, ◌-◌, ◌*◌}
use mathlib.Core.Path.{◌≡◌}
use lib.ListN.{length}
use Rattle.form_reader.specs.FormLeads.{Lead, lead_code}
use Rattle.form_reader.specs.FormParts.{PartsGone}
use Rattle.form_reader.proofs.results.+read_parts_read_result.Given as goal

abbrev pub decreases-read_parts : goal.decreases-read_parts
decreases-read_parts l = 2 * l.left + 1

abbrev pub decreases-read_result : goal.decreases-read_result
decreases-read_result l = 2 * l.left

abbrev pub invariant-read_parts-loop-turn : goal.invariant-read_parts-loop-turn
invariant-read_parts-loop-turn l =
    (lead : Lead) → lead_code lead ≡ l.code
    → PartsGone lead l.left l.values l.bound l.text l.fn.forms l.fn.pool l.forms l.pool l.fn.c l.to l.more

abbrev pub decreases-read_parts-loop-turn : goal.decreases-read_parts-loop-turn
decreases-read_parts-loop-turn l = length l.text - l.to.at
