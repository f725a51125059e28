-- `form_reader::places::read_it` meets its contract. Assumes nothing.
use Rattle.reading.proofs.Passed.{passed}
use Rattle.form_reader.specs.FormParts.{ReadsIt}
use Rattle.form_reader.proofs.PlaceReading.{index_refused, it_open, it_read}
use Rattle.form_reader.proofs.places.read_it.Goals as goal

pub returns-in_err-slot : goal.returns-in_err-slot
returns-in_err-slot c =
    record {
      read =
          passed
          (ReadsIt c.args.values c.args.bound c.args.text.now c.args.forms.now c.args.pool.now c.args.forms.now c.args.pool.now c.args.place c.args.c)
          c.from_residual.ensures
          (index_refused c.args.values c.args.bound c.args.place c.args.c c.requires c.in_err-slot.ensures.read);
    }

pub returns-in_err-to : goal.returns-in_err-to
returns-in_err-to c =
    record {
      read =
          passed
          (ReadsIt c.args.values c.args.bound c.args.text.now c.args.forms.now c.args.pool.now c.args.forms.now c.args.pool.now c.args.place c.args.c)
          c.from_residual-in_err-to.ensures
          (it_open c.args.values c.args.bound c.args.place c.args.c c.requires c.in_ok-slot.ensures.read c.in_err-to.ensures.read);
    }

pub returns : goal.returns
returns c =
    record {
      read =
          it_read c.args.values c.args.bound c.args.place c.args.c c.requires c.in_ok-slot.ensures.read c.in_ok-to.ensures.read
          c.put_row.ensures.put;
    }
