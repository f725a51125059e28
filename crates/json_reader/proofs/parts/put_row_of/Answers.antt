-- `json_reader::parts::put_row_of` meets its contract. Assumes nothing.
use mathlib.Core.Path.{◌∙◌}
use Rattle.json_reader.proofs.parts.put_row_of.Goals as goal

pub head_word-head-requires : goal.head_word-head-requires
head_word-head-requires c = rw c.kind.ensures c.requires.head

pub returns : goal.returns
returns c =
    record {
      closed = record {
        row = c.put_row.ensures.put ∙ rw (c.head_word-head.ensures.made, c.kind.ensures);
        answer = c.done.ensures.packed;
      };
    }
