-- `form_reader::operands::read_test` meets its contract. Assumes nothing.
use Rattle.reading.proofs.Passed.{passed}
use Rattle.form_reader.specs.FormParts.{ReadsTest}
use Rattle.form_reader.proofs.Steps.{unfound}
use Rattle.form_reader.proofs.OperandReading.{test_missing, test_wrong, test_right}
use Rattle.form_reader.proofs.operands.read_test.Goals as goal

pub returns-in_err-word : goal.returns-in_err-word
returns-in_err-word c =
    record {
      read =
          passed (ReadsTest c.args.text.now c.args.c) c.from_residual.ensures
          (test_missing c.args.c c.in_err-word.ensures.read.answer);
    }

pub returns-in_err-operand : goal.returns-in_err-operand
returns-in_err-operand c =
    record {
      read =
          passed (ReadsTest c.args.text.now c.args.c) c.from_residual-in_err-operand.ensures
          (test_wrong c.args.c c.in_ok-word.ensures.read.answer c.test_code.ensures.told
          (unfound c.test_code.result c.in_err-operand.ensures.value c.misplaced.ensures.place c.misplaced.ensures.cause));
    }

pub returns : goal.returns
returns c =
    record {
      read = test_right c.args.c c.in_ok-word.ensures.read.answer c.test_code.ensures.told c.in_ok-operand.ensures.ok_part;
    }
