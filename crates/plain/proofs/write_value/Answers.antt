-- `plain::write_value` meets its contract. Assumes nothing.
use native.Mathlib.Nat.{zero-add}
use mathlib.Core.Path.{◌∙◌}
use Rattle.plain.proofs.write_value.Goals as goal

pub returns : goal.returns
returns c = record { written = λ v h. let w = c.write_at.ensures.written v h in record { bytes = w.bytes; size = w.end ∙ zero-add _ } }
