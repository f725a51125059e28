-- The invariant of the loop of `text::write::write_word`. Assumes nothing.
use lib.ListN.{take}
use Rattle.definitions.specs.Plain.{escaped_all}
use Rattle.text.specs.Writes.{Writes}
use Rattle.text.proofs.write.write_word.Given as goal

abbrev pub invariant-loop-b : goal.invariant-loop-b
invariant-loop-b l = Writes l.initial.out l.out l.at (escaped_all (take l.b-index l.b-items)) l.j
