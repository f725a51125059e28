-- `form_reader::parts::next_part` meets its contract. Assumes nothing.
use Rattle.reading.proofs.Passed.{passed}
use Rattle.form_reader.specs.FormParts.{Turns}
use Rattle.form_reader.proofs.PartReading.{part_next, pairs_known, pair_turn, part_end, part_open}
use Rattle.form_reader.proofs.parts.next_part.Goals as goal

pub returns-then-more-gt0 : goal.returns-then-more-gt0
returns-then-more-gt0 c = record { read = part_next c.args.code c.args.more c.args.first c.args.c c.requires c.if-more-gt0.true }

pub next_pair-requires : goal.next_pair-requires
next_pair-requires c =
    pairs_known c.args.code c.args.more c.args.first c.args.c c.requires c.if-code-eq-PACK.true

pub returns-then-code-eq-PACK : goal.returns-then-code-eq-PACK
returns-then-code-eq-PACK c =
    record {
      read = pair_turn c.args.code c.args.more c.args.first c.args.c c.requires c.if-code-eq-PACK.true
          c.next_pair.ensures.read;
    }

pub returns : goal.returns
returns c =
    record {
      read =
          part_end c.args.code c.args.more c.args.first c.args.c c.requires c.if-code-eq-PACK.false c.if-more-gt0.false
          c.in_ok-to.ensures.read;
    }

pub returns-in_err-to : goal.returns-in_err-to
returns-in_err-to c =
    record {
      read =
          passed
          (Turns c.args.text.now c.args.forms.now c.args.pool.now c.args.pool.now c.args.code c.args.more c.args.first c.args.c)
          c.from_residual.ensures
          (part_open c.args.code c.args.more c.args.first c.args.c c.requires c.if-code-eq-PACK.false c.if-more-gt0.false
          c.in_err-to.ensures.read);
    }
