-- `form_reader::operands::read_number` meets its contract. Assumes nothing.
use native.Mathlib.Omega.{arith}
use Rattle.reading.proofs.Passed.{passed}
use Rattle.tokens.specs.TokenRead.{word_in}
use Rattle.form_reader.specs.FormParts.{ReadsNumber}
use Rattle.form_reader.proofs.Steps.{unfound}
use Rattle.form_reader.proofs.OperandReading.{number_missing, number_wrong, number_right, scale_small}
use Rattle.form_reader.proofs.operands.read_number.Goals as goal

pub returns-in_err-word : goal.returns-in_err-word
returns-in_err-word c =
    record {
      read =
          passed (ReadsNumber c.args.text.now c.args.c) c.from_residual.ensures
          (number_missing c.args.c c.in_err-word.ensures.read.answer);
    }

pub returns-in_err-n : goal.returns-in_err-n
unfolding word_in
returns-in_err-n c =
    record {
      read =
          passed (ReadsNumber c.args.text.now c.args.c) c.from_residual-in_err-n.ensures
          (number_wrong c.args.c c.read_word.result c.in_ok-word.ensures.read.answer c.read_word.ensures.read
          (unfound c.read_word.result c.in_err-n.ensures.value c.misplaced.ensures.place c.misplaced.ensures.cause));
    }

pub number_bits-operand-requires : goal.number_bits-operand-requires
unfolding word_in
number_bits-operand-requires c =
    omega (
      arith,
      scale_small c.args.c c.read_word.result c.in_ok-word.ensures.read.answer c.read_word.ensures.read c.in_ok-n.ensures.ok_part,
    )

pub returns : goal.returns
unfolding word_in
returns c =
    record {
      read =
          number_right c.args.c c.read_word.result c.in_ok-word.ensures.read.answer c.read_word.ensures.read
          c.in_ok-n.ensures.ok_part c.number_bits-operand.ensures.made;
    }
