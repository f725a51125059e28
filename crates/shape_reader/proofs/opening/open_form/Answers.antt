-- `shape_reader::opening::open_form` meets its contract. Assumes nothing.
use Rattle.reading.proofs.Passed.{passed}
use Rattle.shape_reader.specs.ShapeParts.{OpensForm}
use Rattle.shape_reader.proofs.Openings.{form_refused, form_open}
use Rattle.shape_reader.proofs.opening.open_form.Goals as goal

pub returns-in_err-at : goal.returns-in_err-at
returns-in_err-at c =
    record {
      read = passed (OpensForm c.args.text.now c.args.values c.args.left c.args.c) c.from_residual.ensures
          (form_refused c.args.c c.in_err-at.ensures.read);
    }

pub returns : goal.returns
returns c = record { read = form_open c.args.c c.in_ok-at.ensures.read c.read_kinds.result c.read_kinds.ensures.read }
