-- `operations::check` meets its contract. Assumes nothing.
use borrow.Author.Rules.{rules}
use native.Mathlib.Omega.{arith}
use mathlib.Core.Path.{sym}
use lib.Seq.{length-take-le}
use Rattle.definitions.specs.Operations.{check_judged, check_operation}
use Rattle.slices.specs.Prelude.{finishes_before, finishes_behind}
use Rattle.operations.proofs.Lent.{small_at, enough_checked, for_cut_check}
use Rattle.operations.proofs.check.Goals as goal

pub returns-in-Err : goal.returns-in-Err
unfolding check_operation
returns-in-Err c =
    let facts = finishes_before c.judge_reader_shape-judged.ensures.told c.in-Err.is c.number.ensures.told
    c.args.output.now (check_judged c.args.limits c.args.reader.now c.args.shape.now)
    c.refusal.ensures.set in
    record { answered = facts.0; written = facts.1 }

pub shape_words-read-requires : goal.shape_words-read-requires
shape_words-read-requires c = small_at c.in_default.is c.judge_reader_shape-judged.ensures.told

pub overflow_mul-rows : goal.overflow_mul-rows
overflow_mul-rows c = let s = small_at c.in_default.is c.judge_reader_shape-judged.ensures.told in search (rules, s.values)

pub slice_bounds-check-end : goal.slice_bounds-check-end
slice_bounds-check-end c =
    (enough_checked c.in_default.is c.args.forms.now c.args.shapes.now c.args.results.now c.args.bindings.now
    c.args.pool.now c.judge_reader_shape-judged.ensures.told c.shape_words-read.ensures.counted).0

pub slice_bounds-check-end-2 : goal.slice_bounds-check-end-2
slice_bounds-check-end-2 c =
    sym (length-take-le _ c.args.shapes.now
    (enough_checked c.in_default.is c.args.forms.now c.args.shapes.now c.args.results.now
    c.args.bindings.now c.args.pool.now c.judge_reader_shape-judged.ensures.told
    c.shape_words-read.ensures.counted).0)

pub slice_bounds-check-end-3 : goal.slice_bounds-check-end-3
slice_bounds-check-end-3 c =
    (enough_checked c.in_default.is c.args.forms.now c.args.shapes.now c.args.results.now
    c.args.bindings.now c.args.pool.now c.judge_reader_shape-judged.ensures.told
    c.shape_words-read.ensures.counted).1

pub slice_bounds-check-end-4 : goal.slice_bounds-check-end-4
slice_bounds-check-end-4 c =
    sym (length-take-le _ c.args.results.now
    (enough_checked c.in_default.is c.args.forms.now c.args.shapes.now c.args.results.now
    c.args.bindings.now c.args.pool.now c.judge_reader_shape-judged.ensures.told
    c.shape_words-read.ensures.counted).1)

pub check-requires : goal.check-requires
check-requires c =
    let e = enough_checked c.in_default.is c.args.forms.now c.args.shapes.now c.args.results.now
    c.args.bindings.now c.args.pool.now c.judge_reader_shape-judged.ensures.told
    c.shape_words-read.ensures.counted in
    let s = small_at c.in_default.is c.judge_reader_shape-judged.ensures.told in
    record {
      check_slices = for_cut_check c.in_default.is c.args.forms.now c.args.shapes.now c.args.results.now c.args.bindings.now
          c.args.pool.now c.judge_reader_shape-judged.ensures.told c.shape_words-read.ensures.counted
          c.args.reader.now c.args.shape.now;
      table = omega (arith, length-take-le _ c.args.shapes.now e.0, c.shape_words-read.ensures.counted, s.values);
      grown = omega (arith, length-take-le _ c.args.results.now e.1, s.values);
    }

pub returns : goal.returns
unfolding check_operation
returns c =
    let facts = finishes_behind c.judge_reader_shape-judged.ensures.told c.in_default.is
    c.args.output.now (check_judged c.args.limits c.args.reader.now c.args.shape.now)
    (c.check.ensures.answered, c.check.ensures.written) in
    record { answered = facts.0; written = facts.1 }
