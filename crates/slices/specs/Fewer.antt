-- Limits that differ in values alone, for a text too short to begin as many. Assumes nothing.
use Rattle.std.specs.Prelude.{ℕ}
use Rattle.definitions.specs.declared.Limits.{Limits}

abbrev pub with_values : Limits → ℕ → Limits
with_values l v = record { bytes = l.bytes; values = v; nesting = l.nesting; steps = l.steps }
