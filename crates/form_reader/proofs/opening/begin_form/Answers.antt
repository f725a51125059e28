-- `form_reader::opening::begin_form` meets its contract. Assumes nothing.
use Rattle.reading.proofs.Passed.{passed}
use Rattle.form_reader.specs.FormParts.{BeginsForm}
use Rattle.form_reader.proofs.FormBrackets.{form_refused, word_read, word_missing}
use Rattle.form_reader.proofs.opening.begin_form.Goals as goal

pub returns-in_err-place : goal.returns-in_err-place
returns-in_err-place c =
    record {
      read =
          passed (BeginsForm c.args.text.now c.args.values c.args.left c.args.c) c.from_residual.ensures
          (form_refused c.args.values c.args.left c.args.c c.in_err-place.ensures.read);
    }

pub returns-in_err-word : goal.returns-in_err-word
returns-in_err-word c =
    record {
      read =
          passed (BeginsForm c.args.text.now c.args.values c.args.left c.args.c) c.from_residual-in_err-word.ensures
          (word_missing c.args.values c.args.left c.args.c c.in_ok-place.ensures.read.answer c.in_err-word.ensures.read.answer);
    }

pub returns : goal.returns
returns c =
    record {
      read = word_read c.args.values c.args.left c.args.c c.in_ok-place.ensures.read.answer c.in_ok-word.ensures.read.answer;
    }
