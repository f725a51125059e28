-- `form_reader::read_form` meets its contract. Assumes nothing.
use Rattle.reading.proofs.Passed.{passed}
use Rattle.form_reader.specs.FormReads.{ReadsReader}
use Rattle.form_reader.proofs.TextReading.{reader_refused, reader_ended}
use Rattle.form_reader.proofs.read_form.Goals as goal

pub returns-in_err-to : goal.returns-in_err-to
returns-in_err-to c =
    record {
      read =
          passed
          (ReadsReader c.args.limits c.args.text.now c.args.forms.now c.args.pool.now c.read_result.new.forms c.read_result.new.pool c.args.top)
          c.from_residual.ensures (reader_refused c.args.limits c.requires.tables c.requires.begun c.in_err-to.ensures.read);
    }

pub returns : goal.returns
returns c =
    record { read = reader_ended c.args.limits c.requires.tables c.requires.begun c.in_ok-to.ensures.read c.end_forms.ensures.read }
