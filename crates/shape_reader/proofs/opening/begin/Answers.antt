-- `shape_reader::opening::begin` meets its contract. Assumes nothing.
use Rattle.reading.proofs.Passed.{passed}
use Rattle.shape_reader.specs.ShapeParts.{BeginsShape}
use Rattle.shape_reader.proofs.Openings.{bracket_missing, bracket_full, shape_begun}
use Rattle.shape_reader.proofs.opening.begin.Goals as goal

pub returns-in_err-place : goal.returns-in_err-place
returns-in_err-place c =
    record {
      read = passed (BeginsShape c.args.text.now c.args.values c.args.left c.args.c) c.from_residual.ensures
          (bracket_missing c.args.values c.args.left c.args.c c.in_err-place.ensures.read);
    }

pub returns-then-is_full : goal.returns-then-is_full
returns-then-is_full c =
    record { read = bracket_full c.args.values c.args.left c.args.c c.in_ok-place.ensures.read c.if-is_full.ensures.judged }

pub returns : goal.returns
returns c =
    record {
      read = shape_begun c.args.values c.args.left c.args.c c.in_ok-place.ensures.read c.shape_word.result c.if-is_full.ensures.judged
          c.shape_word.ensures.read;
    }
