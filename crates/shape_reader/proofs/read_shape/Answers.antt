-- `shape_reader::read_shape` meets its contract. Assumes nothing.
use Rattle.reading.proofs.Passed.{passed}
use Rattle.shape_reader.specs.ShapeReads.{ReadsShape}
use Rattle.shape_reader.proofs.ShapeTexts.{text_refused, more_behind, whole_text}
use Rattle.shape_reader.proofs.read_shape.Goals as goal

pub returns-in_err-to : goal.returns-in_err-to
returns-in_err-to c =
    record {
      read = passed
          (ReadsShape c.args.limits c.args.text.now c.args.shapes.now c.args.pool.now c.read_form.new.shapes c.read_form.new.pool c.args.top)
          c.from_residual.ensures (text_refused c.args.limits c.requires c.in_err-to.ensures.read);
    }

pub returns-in_err-next_end : goal.returns-in_err-next_end
returns-in_err-next_end c =
    record {
      read = passed
          (ReadsShape c.args.limits c.args.text.now c.args.shapes.now c.args.pool.now c.read_form.new.shapes c.read_form.new.pool c.args.top)
          c.from_residual-in_err-next_end.ensures (more_behind c.args.limits c.requires c.in_ok-to.ensures.read c.in_err-next_end.ensures.read);
    }

pub returns : goal.returns
returns c = record { read = whole_text c.args.limits c.requires c.in_ok-to.ensures.read c.in_ok-next_end.ensures.read }
