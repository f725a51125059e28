-- `number::phase::digit_step` meets its contract: the table has one row. Assumes nothing.
use mathlib.Core.Path.{◌≡◌, sym, ap, ◌∙◌}
use mathlib.Core.Bool.{Bool, true, false}
use mathlib.Core.List.{[], ◌∷◌}
use Prim.Native.Nat.{ℕ}
use Rattle.std.specs.Bool.{then_some}
use Rattle.definitions.specs.Bytes.{between, row, look}
use Rattle.number.specs.NumberCode.{phase_of, step_of}
use Rattle.number.specs.declared.phase.NumberPhase.{NumberPhase}
use Rattle.number.proofs.Rows.{looked, nowhere, in_row, past_row}
use Rattle.number.proofs.phase.digit_step.Goals as goal

-- a phase where a byte is a digit
told : (b : ℕ) (q : NumberPhase) (t : Bool) → between 48 57 b ≡ t → step_of (then_some t q) ≡ look (row 48 57 (phase_of q) ∷ []) b
told b q true e = looked (in_row e)
told b q false e = looked (past_row e nowhere)

pub returns : goal.returns
returns c = ap step_of c.then_some.ensures ∙ told _ _ _ (sym c.is_digit.ensures)
