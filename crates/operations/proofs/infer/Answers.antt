-- `operations::infer` meets its contract. Assumes nothing.
use borrow.Author.Rules.{rules}
use native.Mathlib.Omega.{arith}
use mathlib.Core.Path.{sym}
use lib.Seq.{length-take-le}
use Rattle.definitions.specs.Json.{read_json}
use Rattle.definitions.specs.Operations.{source, infer_judged, infer_operation}
use Rattle.slices.specs.Prelude.{finishes_before, finishes_behind}
use Rattle.operations.proofs.Lent.{small_at, enough, for_cut}
use Rattle.operations.proofs.infer.Goals as goal

pub returns-in-Err : goal.returns-in-Err
unfolding infer_operation
returns-in-Err c =
    let facts = finishes_before c.judge_shape_document-judged.ensures.told c.in-Err.is c.number.ensures.told
    c.args.output.now (infer_judged read_json c.args.limits c.args.shape.now c.args.document.now)
    c.refusal.ensures.set in
    record { answered = facts.0; written = facts.1 }

pub overflow_mul-rows : goal.overflow_mul-rows
overflow_mul-rows c = let s = small_at c.in_default.is c.judge_shape_document-judged.ensures.told in search (rules, s.values)

pub slice_bounds-infer-end : goal.slice_bounds-infer-end
slice_bounds-infer-end c =
    enough c.in_default.is c.args.shapes.now c.args.nodes.now c.args.pool.now
    c.judge_shape_document-judged.ensures.told

pub slice_bounds-infer-end-2 : goal.slice_bounds-infer-end-2
slice_bounds-infer-end-2 c =
    sym (length-take-le _ c.args.shapes.now
    (enough c.in_default.is c.args.shapes.now c.args.nodes.now c.args.pool.now
    c.judge_shape_document-judged.ensures.told))

pub infer-requires : goal.infer-requires
infer-requires c =
    let h = enough c.in_default.is c.args.shapes.now c.args.nodes.now c.args.pool.now
    c.judge_shape_document-judged.ensures.told in
    let s = small_at c.in_default.is c.judge_shape_document-judged.ensures.told in
    record {
      grown_document_slices = for_cut c.in_default.is c.args.shapes.now c.args.nodes.now c.args.pool.now
          c.judge_shape_document-judged.ensures.told c.args.shape.now c.args.document.now;
      table = omega (arith, length-take-le _ c.args.shapes.now h, s.values);
    }

pub returns : goal.returns
unfolding infer_operation source
returns c =
    let facts = finishes_behind c.judge_shape_document-judged.ensures.told c.in_default.is
    c.args.output.now (infer_judged read_json c.args.limits c.args.shape.now c.args.document.now)
    (c.infer.ensures.answered, c.infer.ensures.written) in record { answered = facts.0; written = facts.1 }
