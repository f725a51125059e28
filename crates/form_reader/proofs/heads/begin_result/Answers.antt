-- `form_reader::heads::begin_result` meets its contract. Assumes nothing.
use Rattle.reading.proofs.Passed.{passed}
use Rattle.form_reader.specs.FormParts.{BeginsResult}
use Rattle.form_reader.proofs.Steps.{unfound}
use Rattle.form_reader.proofs.HeadReading.{result_refused, result_unknown, result_known}
use Rattle.form_reader.proofs.heads.begin_result.Goals as goal

pub returns-in_err-form : goal.returns-in_err-form
returns-in_err-form c =
    record {
      read =
          passed (BeginsResult c.args.text.now c.args.values c.args.left c.args.c) c.from_residual.ensures
          (result_refused c.args.values c.args.left c.args.c c.in_err-form.ensures.read);
    }

pub returns-in_err-code : goal.returns-in_err-code
returns-in_err-code c =
    record {
      read =
          passed (BeginsResult c.args.text.now c.args.values c.args.left c.args.c) c.from_residual-in_err-code.ensures
          (result_unknown c.args.values c.args.left c.args.c c.in_ok-form.ensures.read.answer c.result_code.ensures.told
          (unfound c.result_code.result c.in_err-code.ensures.value c.misplaced.ensures.place c.misplaced.ensures.cause));
    }

pub returns : goal.returns
returns c =
    record {
      read =
          result_known c.args.values c.args.left c.args.c c.in_ok-form.ensures.read.answer c.result_code.ensures.told
          c.in_ok-code.ensures.ok_part;
    }
