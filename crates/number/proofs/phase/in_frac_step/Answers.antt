-- `number::phase::in_frac_step` meets its contract, a row at a time. Assumes nothing.
use mathlib.Core.Path.{◌≡◌, sym}
use mathlib.Core.Bool.{false}
use native.Mathlib.Omega.{arith}
use Rattle.definitions.specs.Bytes.{between}
use Rattle.definitions.specs.Number.{next}
use Rattle.number.proofs.Rows.{looked, known, in_bounds, below_row, above_row, in_row, past_row}
use Rattle.number.proofs.phase.in_frac_step.Goals.{in_default-via-then-b-lt48, in_default-via-else-b-lt48+else-b-lt58}
use Rattle.number.proofs.phase.in_frac_step.Goals as goal

pub returns-in-48-to-57 : goal.returns-in-48-to-57
unfolding next
returns-in-48-to-57 c = looked (in_row (sym (in_bounds _ _ _ (omega arith) (omega arith))))

pub returns-in_default : goal.returns-in_default
unfolding next
returns-in_default c =
    let off : between 48 57 c.args.b ≡ false = sym (
    elim c.in_default.branch as (λ _. false ≡ between 48 57 c.args.b) [
      | in_default-via-then-b-lt48 w ↦ below_row _ _ _ (omega arith)
      | in_default-via-else-b-lt48+else-b-lt58 w ↦ above_row _ _ _ (omega arith)
    ]) in
    looked (past_row off (known c.e_step.ensures))
