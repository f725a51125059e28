-- `plain::written_length` meets its contract: the length stands above the low byte of the first word. Assumes nothing.
use mathlib.Core.Path.{◌∙◌}
use Rattle.plain.proofs.Rows.{stands_length}
use Rattle.plain.proofs.written_length.Goals as goal

pub returns : goal.returns
returns c = record { measured = λ p v s b. c.row_written.ensures.read ∙ stands_length s b }
