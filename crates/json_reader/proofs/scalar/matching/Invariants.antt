-- The invariants of `json_reader::scalar::matching` and what falls in its loops. Assumes nothing.
use Rattle.json_reader.proofs.Spelling.{Matching}
use Rattle.json_reader.proofs.scalar.matching.Given as goal

abbrev pub invariant-loop-i : goal.invariant-loop-i
invariant-loop-i l = Matching l.doc l.at l.name l.i
