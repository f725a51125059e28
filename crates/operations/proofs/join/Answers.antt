-- `operations::join` meets its contract. Assumes nothing.
use borrow.Author.Rules.{rules}
use native.Mathlib.Omega.{arith}
use mathlib.Core.Path.{sym}
use lib.Seq.{length-take-le}
use Rattle.definitions.specs.Operations.{join_judged, join_operation}
use Rattle.slices.specs.Prelude.{finishes_before, finishes_behind}
use Rattle.operations.proofs.Lent.{small_at, enough_pair, for_cut_pair}
use Rattle.operations.proofs.join.Goals as goal

pub returns-in-Err : goal.returns-in-Err
unfolding join_operation
returns-in-Err c =
    let facts = finishes_before c.judge_two_shapes.ensures.told c.in-Err.is c.number.ensures.told
    c.args.output.now (join_judged c.args.limits c.args.first.now c.args.second.now)
    c.refusal.ensures.set in
    record { answered = facts.0; written = facts.1 }

pub overflow_mul-rows : goal.overflow_mul-rows
overflow_mul-rows c = let s = small_at c.in_default.is c.judge_two_shapes.ensures.told in search (rules, s.values)

pub slice_bounds-join-end : goal.slice_bounds-join-end
slice_bounds-join-end c =
    enough_pair c.in_default.is c.args.shapes.now c.args.others.now c.args.pool.now
    c.judge_two_shapes.ensures.told

pub slice_bounds-join-end-2 : goal.slice_bounds-join-end-2
slice_bounds-join-end-2 c =
    sym (length-take-le _ c.args.shapes.now
    (enough_pair c.in_default.is c.args.shapes.now c.args.others.now c.args.pool.now
    c.judge_two_shapes.ensures.told))

pub join-requires : goal.join-requires
join-requires c =
    let h = enough_pair c.in_default.is c.args.shapes.now c.args.others.now c.args.pool.now
    c.judge_two_shapes.ensures.told in
    let s = small_at c.in_default.is c.judge_two_shapes.ensures.told in
    record {
      grown_shapes_slices = for_cut_pair c.in_default.is c.args.shapes.now c.args.others.now c.args.pool.now
          c.judge_two_shapes.ensures.told c.args.first.now c.args.second.now;
      table = omega (arith, length-take-le _ c.args.shapes.now h, s.values);
    }

pub returns : goal.returns
unfolding join_operation
returns c =
    let facts = finishes_behind c.judge_two_shapes.ensures.told c.in_default.is
    c.args.output.now (join_judged c.args.limits c.args.first.now c.args.second.now)
    (c.join.ensures.answered, c.join.ensures.written) in
    record { answered = facts.0; written = facts.1 }
