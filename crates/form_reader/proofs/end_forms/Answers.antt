-- `form_reader::end_forms` meets its contract. Assumes nothing.
use mathlib.Core.Path.{refl}
use Rattle.reading.proofs.Passed.{passed}
use Rattle.form_reader.specs.FormReads.{EndsForms}
use Rattle.form_reader.proofs.end_forms.Goals as goal

pub returns-in_err-next_end : goal.returns-in_err-next_end
returns-in_err-next_end c =
    record {
      read =
          passed (EndsForms c.args.text.now c.args.to) c.from_residual.ensures (record { answer = c.in_err-next_end.ensures.read.answer });
    }

pub returns : goal.returns
returns c = record { read = record { answer = record { over = c.in_ok-next_end.ensures.read.answer; words = refl; top = refl } } }
