-- The invariants of `number::read_on` and what falls in its loops. Assumes nothing.
use Prim.Native.Nat.{◌-◌}
use lib.ListN.{length}
use Rattle.definitions.specs.Number.{Numeral}
use Rattle.number.specs.NumberCode.{StandsFor, phase_of}
use Rattle.number.proofs.Reading.{Reading}
use Rattle.number.proofs.read_on.Given as goal

abbrev pub invariant-loop-i : goal.invariant-loop-i
invariant-loop-i l = (n : Numeral) → StandsFor l.initial.d n → Reading l.doc (phase_of l.initial.phase) n l.at l.phase l.d l.i

abbrev pub decreases-loop-i : goal.decreases-loop-i
decreases-loop-i l = length l.doc - l.i
