-- `tokens::expect::next_word` meets its contract. Assumes nothing.
use native.Mathlib.Omega.{arith}
use Rattle.tokens.specs.Expecting.{a_word}
use Rattle.tokens.proofs.Lexing.{found_word, no_word_there}
use Rattle.tokens.proofs.Expected.{misses}
use Rattle.tokens.proofs.expect.next_word.Goals as goal

pub returns-then-place-end : goal.returns-then-place-end
returns-then-place-end c =
    record {
      read = let runs = c.word_end-end.ensures.ended in
          record { answer = found_word c.skip_space-place.ensures.skipped (omega (arith, c.if-place-end.true, runs.within)) c.if-place-end.true runs };
    }

pub returns-else-place-end : goal.returns-else-place-end
returns-else-place-end c =
    record {
      read =
          record {
            answer =
                misses a_word c.skip_space-place.ensures.skipped (no_word_there c.word_end-end.ensures.ended (omega (arith, c.if-place-end.false)))
                c.misplaced.ensures.place c.misplaced.ensures.cause;
          };
    }
