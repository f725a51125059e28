-- The invariant of the loop of `text::write::word_length`. Assumes nothing.
use mathlib.Core.Path.{◌≡◌}
use lib.ListN.{length, take}
use Rattle.definitions.specs.Plain.{escaped_all}
use Rattle.text.proofs.write.word_length.Given as goal

abbrev pub invariant-loop-b : goal.invariant-loop-b
invariant-loop-b l = l.written ≡ length (escaped_all (take l.b-index l.b-items))
