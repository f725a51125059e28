-- `form_reader::opening::open_form` meets its contract. Assumes nothing.
use Rattle.reading.proofs.Passed.{passed}
use Rattle.form_reader.specs.FormParts.{OpensForm}
use Rattle.form_reader.proofs.FormBrackets.{bracket_missing, bracket_full, bracket_read}
use Rattle.form_reader.proofs.opening.open_form.Goals as goal

pub returns-in_err-place : goal.returns-in_err-place
returns-in_err-place c =
    record {
      read =
          passed (OpensForm c.args.text.now c.args.values c.args.left c.args.c) c.from_residual.ensures
          (bracket_missing c.args.values c.args.left c.args.c c.in_err-place.ensures.read.answer);
    }

pub returns-then-is_full : goal.returns-then-is_full
returns-then-is_full c =
    record {
      read = bracket_full c.args.values c.args.left c.args.c c.in_ok-place.ensures.read.answer c.is_full.ensures.judged c.if-is_full.true;
    }

pub returns : goal.returns
returns c =
    record {
      read = bracket_read c.args.values c.args.left c.args.c c.in_ok-place.ensures.read.answer c.is_full.ensures.judged c.if-is_full.false;
    }
