-- `form_reader::operands::read_index` meets its contract. Assumes nothing.
use Rattle.reading.proofs.Passed.{passed}
use Rattle.form_reader.specs.FormParts.{ReadsIndex}
use Rattle.form_reader.proofs.Steps.{unfound}
use Rattle.form_reader.proofs.OperandReading.{index_missing, index_wrong, index_right}
use Rattle.form_reader.proofs.operands.read_index.Goals as goal

pub returns-in_err-word : goal.returns-in_err-word
returns-in_err-word c =
    record {
      read =
          passed (ReadsIndex c.args.text.now c.args.bound c.args.c) c.from_residual.ensures
          (index_missing c.args.c c.args.bound c.in_err-word.ensures.read.answer);
    }

pub returns-in_err-value : goal.returns-in_err-value
returns-in_err-value c =
    record {
      read =
          passed (ReadsIndex c.args.text.now c.args.bound c.args.c) c.from_residual-in_err-value.ensures
          (index_wrong c.args.c c.args.bound c.in_ok-word.ensures.read.answer c.slot_of.result c.slot_of.ensures.told
          (unfound c.slot_of.result c.in_err-value.ensures.value c.misplaced.ensures.place c.misplaced.ensures.cause));
    }

pub returns : goal.returns
returns c =
    record {
      read =
          index_right c.args.c c.args.bound c.in_ok-word.ensures.read.answer c.slot_of.result c.slot_of.ensures.told
          c.in_ok-value.ensures.ok_part;
    }
