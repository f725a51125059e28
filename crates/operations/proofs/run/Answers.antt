-- `operations::run` meets its contract. Assumes nothing.
use borrow.Author.Rules.{rules}
use native.Mathlib.Omega.{arith}
use mathlib.Core.Path.{sym}
use lib.Seq.{length-take-le}
use Rattle.definitions.specs.Json.{read_json}
use Rattle.definitions.specs.Operations.{source, run_judged, run_operation}
use Rattle.slices.specs.Prelude.{finishes_before, finishes_behind}
use Rattle.operations.proofs.Lent.{small_at, enough_read, for_cut_run}
use Rattle.operations.proofs.run.Goals as goal

pub returns-in-Err : goal.returns-in-Err
unfolding run_operation
returns-in-Err c =
    let facts = finishes_before c.judge_reader_document-judged.ensures.told c.in-Err.is c.number.ensures.told
    c.args.output.now (run_judged read_json c.args.limits c.args.reader.now c.args.document.now)
    c.refusal.ensures.set in
    record { answered = facts.0; written = facts.1 }

pub value_words-read-requires : goal.value_words-read-requires
value_words-read-requires c = small_at c.in_default.is c.judge_reader_document-judged.ensures.told

pub overflow_mul-rows : goal.overflow_mul-rows
overflow_mul-rows c = let s = small_at c.in_default.is c.judge_reader_document-judged.ensures.told in search (rules, s.values)

pub slice_bounds-run-end : goal.slice_bounds-run-end
slice_bounds-run-end c =
    (enough_read c.in_default.is c.args.forms.now c.args.nodes.now c.args.results.now c.args.bindings.now
    c.args.pool.now c.judge_reader_document-judged.ensures.told c.value_words-read.ensures.counted).0

pub slice_bounds-run-end-2 : goal.slice_bounds-run-end-2
slice_bounds-run-end-2 c =
    sym (length-take-le _ c.args.nodes.now
    (enough_read c.in_default.is c.args.forms.now c.args.nodes.now c.args.results.now
    c.args.bindings.now c.args.pool.now c.judge_reader_document-judged.ensures.told
    c.value_words-read.ensures.counted).0)

pub slice_bounds-run-end-3 : goal.slice_bounds-run-end-3
slice_bounds-run-end-3 c =
    (enough_read c.in_default.is c.args.forms.now c.args.nodes.now c.args.results.now
    c.args.bindings.now c.args.pool.now c.judge_reader_document-judged.ensures.told
    c.value_words-read.ensures.counted).1

pub slice_bounds-run-end-4 : goal.slice_bounds-run-end-4
slice_bounds-run-end-4 c =
    sym (length-take-le _ c.args.results.now
    (enough_read c.in_default.is c.args.forms.now c.args.nodes.now c.args.results.now
    c.args.bindings.now c.args.pool.now c.judge_reader_document-judged.ensures.told
    c.value_words-read.ensures.counted).1)

pub run-requires : goal.run-requires
run-requires c =
    let e = enough_read c.in_default.is c.args.forms.now c.args.nodes.now c.args.results.now
    c.args.bindings.now c.args.pool.now c.judge_reader_document-judged.ensures.told
    c.value_words-read.ensures.counted in
    let s = small_at c.in_default.is c.judge_reader_document-judged.ensures.told in
    record {
      run_slices = for_cut_run c.in_default.is c.args.forms.now c.args.nodes.now c.args.results.now c.args.bindings.now
          c.args.pool.now c.judge_reader_document-judged.ensures.told c.value_words-read.ensures.counted
          c.args.reader.now c.args.document.now;
      table = omega (arith, length-take-le _ c.args.nodes.now e.0, c.value_words-read.ensures.counted, s.values);
      made = omega (arith, length-take-le _ c.args.results.now e.1, s.values);
    }

pub returns : goal.returns
unfolding run_operation source
returns c =
    let facts = finishes_behind c.judge_reader_document-judged.ensures.told c.in_default.is
    c.args.output.now (run_judged read_json c.args.limits c.args.reader.now c.args.document.now)
    (c.run.ensures.answered, c.run.ensures.written) in record { answered = facts.0; written = facts.1 }
