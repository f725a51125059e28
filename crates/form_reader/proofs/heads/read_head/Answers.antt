-- `form_reader::heads::read_head` meets its contract. Assumes nothing.
use Rattle.reading.proofs.Passed.{passed}
use Rattle.form_reader.specs.FormParts.{ReadsHead}
use Rattle.form_reader.proofs.HeadReading.{head_refused, operand_refused, head_read}
use Rattle.form_reader.proofs.heads.read_head.Goals as goal

pub returns-in_err-word : goal.returns-in_err-word
returns-in_err-word c =
    record {
      read =
          passed (ReadsHead c.args.text.now c.args.pool.now c.args.pool.now c.args.values c.args.left c.args.c) c.from_residual.ensures
          (head_refused c.args.values c.args.left c.args.c c.args.pool.now c.in_err-word.ensures.read);
    }

pub returns-in_err-behind : goal.returns-in_err-behind
returns-in_err-behind c =
    record {
      read =
          passed (ReadsHead c.args.text.now c.args.pool.now c.read_operand.new.pool c.args.values c.args.left c.args.c)
          c.from_residual-in_err-behind.ensures
          (operand_refused c.args.values c.args.left c.args.c c.args.pool.now c.in_ok-word.ensures.read c.in_err-behind.ensures.read);
    }

pub returns : goal.returns
returns c =
    record {
      read = head_read c.args.values c.args.left c.args.c c.args.pool.now c.in_ok-word.ensures.read c.in_ok-behind.ensures.read;
    }
