-- `form_reader::read_place` meets its contract. Assumes nothing.
use Rattle.reading.proofs.Passed.{passed}
use Rattle.form_reader.specs.FormReads.{ReadsLonePlace}
use Rattle.form_reader.proofs.TextReading.{place_refused, place_ended}
use Rattle.form_reader.proofs.read_place.Goals as goal

pub returns-in_err-to : goal.returns-in_err-to
returns-in_err-to c =
    record {
      read =
          passed
          (ReadsLonePlace c.args.limits c.args.text.now c.args.forms.now c.args.pool.now c.read_place.new.forms c.read_place.new.pool c.args.top)
          c.from_residual.ensures (place_refused c.args.limits c.requires c.in_err-to.ensures.read);
    }

pub returns : goal.returns
returns c = record { read = place_ended c.args.limits c.requires c.in_ok-to.ensures.read c.end_forms.ensures.read }
