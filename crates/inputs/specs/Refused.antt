-- The refusal of a text, with its number. Assumes nothing.
use Rattle.std.specs.Prelude.{ℕ}
use Rattle.reading.specs.declared.Refusal.{Refusal}
use Rattle.inputs.specs.declared.TextRefusal.{TextRefusal}

abbrev pub of_text : ℕ → Refusal → TextRefusal
of_text k r = record { text = k; refusal = r }
