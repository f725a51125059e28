-- `tokens::expect::next_end` meets its contract. Assumes nothing.
use native.Mathlib.Omega.{arith}
use Rattle.tokens.proofs.Lexing.{found_end}
use Rattle.tokens.proofs.Expected.{more_at}
use Rattle.tokens.proofs.expect.next_end.Goals as goal

pub returns-then-place-text : goal.returns-then-place-text
returns-then-place-text c =
    record {
      read =
          record {
            answer = more_at c.skip_space-place.ensures.skipped c.if-place-text.true c.misplaced.ensures.place c.misplaced.ensures.cause;
          };
    }

pub returns-else-place-text : goal.returns-else-place-text
returns-else-place-text c = record { read = record { answer = found_end c.skip_space-place.ensures.skipped (omega (arith, c.if-place-text.false)) } }
