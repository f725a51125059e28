-- `json_reader::parts::first_part` meets its contract. Assumes nothing.
use mathlib.Core.Path.{sym, ◌∙◌}
use Rattle.json_reader.proofs.Turns.{closing_byte, first_part_stop, first_part_more}
use Rattle.json_reader.proofs.White.{token}
use Rattle.json_reader.proofs.parts.first_part.Goals as goal

pub returns-then-peek-closing : goal.returns-then-peek-closing
returns-then-peek-closing c =
    record {
      entered = λ seen left values pool p free.
          record {
            answer = first_part_stop c.args.c p free c.args.bracket c.skip_white-at.ensures.skipped
                (token c.skip_white-at.ensures.skipped (sym c.peek.ensures.read ∙ c.if-peek-closing.true ∙ c.closing.ensures)
                (closing_byte c.args.bracket))
                c.put_row_of.ensures.closed;
          };
    }

pub returns : goal.returns
returns c =
    record {
      entered = λ seen left values pool p free.
          record {
            answer = first_part_more c.args.c p free c.args.bracket c.skip_white-at.ensures.skipped
                (λ z. c.if-peek-closing.false (c.peek.ensures.read ∙ z ∙ sym c.closing.ensures));
          };
    }
