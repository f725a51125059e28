-- The invariant of `tokens::word_end`. Assumes nothing.
use Rattle.tokens.proofs.Borders.{Running}
use Rattle.tokens.proofs.word_end.Given as goal

abbrev pub invariant-loop-i : goal.invariant-loop-i
invariant-loop-i l = Running l.text l.at l.i
