-- The invariant of `tokens::word_value`. Assumes nothing.
use Rattle.tokens.proofs.Words.{Joins}
use Rattle.tokens.proofs.word_value.Given as goal

abbrev pub invariant-loop-b : goal.invariant-loop-b
invariant-loop-b l = Joins l.text l.at l.b-index l.x
