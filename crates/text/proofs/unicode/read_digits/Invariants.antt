-- The invariant of the loop of `text::unicode::read_digits`. Assumes nothing.
use Rattle.text.proofs.Digits.{DigitsSoFar}
use Rattle.text.proofs.unicode.read_digits.Given as goal

abbrev pub invariant-loop-n : goal.invariant-loop-n
invariant-loop-n l = DigitsSoFar l.doc l.at l.low l.n l.c
