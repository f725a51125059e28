-- `tokens::expect::next_bracket` meets its contract. Assumes nothing.
use Rattle.std.proofs.Common.{arith, rules}
use Rattle.std.proofs.lemmas.Grind.{common_steps}
use Rattle.tokens.specs.Expecting.{an_opening, a_closing}
use Rattle.tokens.proofs.Lexing.{found_opening, found_closing}
use Rattle.tokens.proofs.Expected.{misses}
use Rattle.tokens.proofs.expect.next_bracket.Goals as goal

pub returns-in-Some-eq40 : goal.returns-in-Some-eq40
returns-in-Some-eq40 c =
    record {
      read =
          record {
            answer =
                found_opening c.skip_space-place.ensures.skipped (grind (arith, common_steps)) (grind (arith, common_steps));
          };
    }

pub returns-in-Some-eq41 : goal.returns-in-Some-eq41
returns-in-Some-eq41 c =
    record {
      read =
          record {
            answer =
                found_closing c.skip_space-place.ensures.skipped (grind (arith, common_steps)) (grind (arith, common_steps));
          };
    }

pub returns-in_default : goal.returns-in_default
returns-in_default c =
    record {
      read =
          let s = c.skip_space-place.ensures.skipped in
          record {
            answer = (
              misses an_opening s (λ l e. search (rules, common_steps)) c.misplaced.ensures.place c.misplaced.ensures.cause,
              misses a_closing s (λ l e. search (rules, common_steps)) c.misplaced.ensures.place c.misplaced.ensures.cause,
            );
          };
    }
