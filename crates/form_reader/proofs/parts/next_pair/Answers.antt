-- `form_reader::parts::next_pair` meets its contract. Assumes nothing.
use native.Mathlib.Omega.{arith}
use Rattle.nodes.specs.Nodes.{reference}
use Rattle.reading.proofs.Passed.{passed}
use Rattle.form_reader.specs.FormParts.{PairTurns}
use Rattle.form_reader.proofs.Steps.{next_room}
use Rattle.form_reader.proofs.OperandReading.{text_small}
use Rattle.form_reader.proofs.PartReading.{names_held, pair_twice, pair_next, pack_closed, pack_open}
use Rattle.form_reader.proofs.parts.next_pair.Goals as goal

pub next_text-requires : goal.next_text-requires
next_text-requires c = next_room c.requires.placed

pub returns-in_default : goal.returns-in_default
returns-in_default c =
    record { read = pack_closed c.args.first c.args.c c.requires c.next_text.ensures.read.kept c.in_ok-to.ensures.read }

pub returns-in_err-to : goal.returns-in_err-to
returns-in_err-to c =
    record {
      read =
          passed (PairTurns c.args.text.now c.args.forms.now c.args.pool.now c.next_text.new.pool c.args.first c.args.c) c.from_residual.ensures
          (pack_open c.args.first c.args.c c.requires c.next_text.ensures.read.kept c.in_default.ensures.read.answer c.in_err-to.ensures.read);
    }

pub has_name-requires : goal.has_name-requires
has_name-requires c = names_held c.args.first c.args.c c.requires c.in-Ok.ensures.read.kept

pub returns-then-has_name : goal.returns-then-has_name
returns-then-has_name c =
    record {
      read =
          pair_twice c.args.first c.args.c c.requires c.in-Ok.ensures.read.kept c.in-Ok.ensures.read.answer c.has_name.ensures.found
          c.if-has_name.true (record { at = c.misplaced.ensures.place; cause = c.misplaced.ensures.cause });
    }

pub text_reference-name-requires : goal.text_reference-name-requires
unfolding reference
text_reference-name-requires c = let s = text_small c.args.c c.requires.placed c.in-Ok.ensures.read.answer in omega (arith, s.0, s.1)

pub returns : goal.returns
returns c =
    record {
      read =
          pair_next c.args.first c.args.c c.requires c.in-Ok.ensures.read.kept c.in-Ok.ensures.read.answer c.has_name.ensures.found
          c.if-has_name.false c.text_reference-name.ensures.made;
    }
