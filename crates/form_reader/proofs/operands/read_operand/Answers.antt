-- `form_reader::operands::read_operand` meets its contract. Assumes nothing.
use native.Mathlib.Omega.{arith}
use Rattle.reading.proofs.Passed.{passed}
use Rattle.form_reader.specs.FormParts.{ReadsOperand}
use Rattle.form_reader.proofs.OperandReading.{test_operand, number_operand, str_read, str_refused, no_operand}
use Rattle.form_reader.proofs.operands.read_operand.Goals as goal

pub returns-in-10 : goal.returns-in-10
returns-in-10 c = record { read = test_operand c.args.c c.args.pool.now c.read_test.ensures.read c.in-10.is }

pub returns-in-12 : goal.returns-in-12
returns-in-12 c = record { read = number_operand c.args.c c.args.pool.now c.read_number.ensures.read c.in-12.is }

pub returns-in_ok-said-in-13 : goal.returns-in_ok-said-in-13
returns-in_ok-said-in-13 c = record { read = str_read c.args.c c.in_ok-said-in-13.ensures.read c.in-13.is }

pub returns-in_err-said-in-13 : goal.returns-in_err-said-in-13
returns-in_err-said-in-13 c =
    record {
      read =
          passed (ReadsOperand c.args.text.now c.args.pool.now c.read_text.new.pool c.args.code c.args.c) c.from_residual.ensures
          (str_refused c.args.c c.in_err-said-in-13.ensures.read c.in-13.is);
    }

pub returns-in_default : goal.returns-in_default
returns-in_default c =
    record {
      read =
          no_operand c.args.c c.requires.within (λ e. omega (arith, c.in_default)) (λ e. omega (arith, c.in_default))
          (λ e. omega (arith, c.in_default));
    }
