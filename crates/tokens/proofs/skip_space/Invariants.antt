-- The invariant of `tokens::skip_space`. Assumes nothing.
use Rattle.tokens.proofs.Borders.{Skipping}
use Rattle.tokens.proofs.skip_space.Given as goal

abbrev pub invariant-loop-i : goal.invariant-loop-i
invariant-loop-i l = Skipping l.text l.at l.i
