-- `form_reader::operands::read_text` meets its contract. Assumes nothing.
use native.Mathlib.Omega.{arith}
use Rattle.nodes.specs.Nodes.{reference}
use Rattle.reading.proofs.Passed.{passed}
use Rattle.form_reader.specs.FormParts.{ReadsText}
use Rattle.form_reader.proofs.Steps.{next_room}
use Rattle.form_reader.proofs.OperandReading.{text_small, text_missing, text_right}
use Rattle.form_reader.proofs.operands.read_text.Goals as goal

pub next_text-requires : goal.next_text-requires
next_text-requires c = next_room c.requires

pub returns-in_err-quoted : goal.returns-in_err-quoted
returns-in_err-quoted c =
    record {
      read =
          passed (ReadsText c.args.text.now c.args.pool.now c.next_text.new.pool c.args.c) c.from_residual.ensures
          (text_missing c.args.c c.in_err-quoted.ensures.read.kept c.in_err-quoted.ensures.read.answer);
    }

pub text_reference-requires : goal.text_reference-requires
unfolding reference
text_reference-requires c = let s = text_small c.args.c c.requires c.in_ok-quoted.ensures.read.answer in omega (arith, s.0, s.1)

pub returns : goal.returns
returns c =
    record {
      read =
          text_right c.args.c c.in_ok-quoted.ensures.read.kept c.in_ok-quoted.ensures.read.answer c.text_reference.ensures.made;
    }
