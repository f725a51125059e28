-- `shape_reader::opening::expect` meets its contract. Assumes nothing.
use mathlib.Core.Path.{sym, ◌∙◌}
use Rattle.reading.proofs.Passed.{passed}
use Rattle.shape_reader.specs.ShapeParts.{Expects}
use Rattle.shape_reader.proofs.Openings.{word_missing, word_there, word_other}
use Rattle.shape_reader.proofs.opening.expect.Goals as goal

pub returns-in_err-next : goal.returns-in_err-next
returns-in_err-next c =
    record { read = λ w f e. passed (Expects c.args.text.now c.args.at w) c.from_residual.ensures (word_missing w c.in_err-next.ensures.read) }

pub returns-then-word_value-word : goal.returns-then-word_value-word
returns-then-word_value-word c =
    record {
      read = λ w f e. word_there w c.in_ok-next.ensures.read (c.word_value.ensures.told.is w f (c.if-word_value-word.true ∙ e));
    }

pub returns-else-word_value-word : goal.returns-else-word_value-word
returns-else-word_value-word c =
    record {
      read = λ w f e.
          word_other w c.in_ok-next.ensures.read (c.word_value.ensures.told.other w f (λ i. c.if-word_value-word.false (i ∙ sym e)))
          c.misplaced.ensures.place c.misplaced.ensures.cause;
    }
