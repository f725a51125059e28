-- `inputs::first_reader` meets its contract. Assumes nothing.
use Rattle.inputs.proofs.ReaderTexts.{reader_long, reader_room, reader_judged}
use Rattle.inputs.proofs.first_reader.Goals as goal

pub returns-then-limits-text : goal.returns-then-limits-text
returns-then-limits-text c =
    record {
      judged = let a = c.args in
          reader_long a.forms.now a.pool.now c.if-limits-text.true;
    }

pub read_reader-requires : goal.read_reader-requires
read_reader-requires c = let facts = reader_room c.fewer-few.ensures.made c.most_reader_forms.ensures.counted c.if-limits-text.false c.requires in
    record { tables = facts.0; one = facts.1 }

pub returns : goal.returns
returns c =
    record {
      judged = reader_judged c.fewer-few.ensures.made c.most_reader_forms.ensures.counted c.if-limits-text.false c.requires.small
          c.read_reader.ensures.read;
    }
