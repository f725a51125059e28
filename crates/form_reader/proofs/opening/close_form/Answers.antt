-- `form_reader::opening::close_form` meets its contract. Assumes nothing.
use Rattle.reading.proofs.Passed.{passed}
use Rattle.form_reader.specs.FormParts.{ClosesForm}
use Rattle.form_reader.proofs.FormBrackets.{end_read}
use Rattle.form_reader.proofs.opening.close_form.Goals as goal

pub returns-in_err-place : goal.returns-in_err-place
returns-in_err-place c =
    record {
      read =
          passed (ClosesForm c.args.text.now c.args.c) c.from_residual.ensures (record { answer = c.in_err-place.ensures.read.answer });
    }

pub returns : goal.returns
returns c = record { read = end_read c.args.c c.in_ok-place.ensures.read.answer }
