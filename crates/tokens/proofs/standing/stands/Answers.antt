-- `tokens::standing::stands` meets its contract. Assumes nothing.
use native.Mathlib.Omega.{arith}
use Rattle.tokens.proofs.Eight.{word_told}
use Rattle.tokens.proofs.standing.stands.Goals as goal

pub returns-then-eight_at-size : goal.returns-then-eight_at-size
returns-then-eight_at-size c =
    record {
      told = word_told c.eight_at.ensures.told (omega (arith, c.if-text-at-lt8.false, c.requires.0)) c.requires.1
          c.if-eight_at-size.true c.is_border.ensures.told;
    }
