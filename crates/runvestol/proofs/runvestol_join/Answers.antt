use Rattle.definitions.specs.Operations.{join_judged, join_operation}
use Rattle.definitions.specs.Calls.{join_call}
use Rattle.slices.specs.Small.{range_small}
use Rattle.slices.specs.Prelude.{none_before}
use Rattle.runvestol.proofs.Calling.{calls_before, calls_behind}
use Rattle.runvestol.proofs.runvestol_join.Goals as goal

pub returns-in-Err : goal.returns-in-Err
unfolding join_call join_operation
returns-in-Err c =
    calls_before c.args.answer.now c.refusal.result (c.tell.ensures.number, c.tell.ensures.written)
    c.set-limits.ensures.made c.judge_call.ensures.told c.args.output.now
    (λ l. join_judged l c.args.first.now c.args.second.now)
    c.in-Err.is c.number.ensures.told c.refusal.ensures.set

pub join-done-requires : goal.join-done-requires
join-done-requires c = range_small (none_before c.judge_call.ensures.told c.in_default.is).0

pub returns : goal.returns
unfolding join_call join_operation
returns c =
    calls_behind c.args.answer.now c.join-done.result (c.tell-2.ensures.number, c.tell-2.ensures.written)
    c.set-limits.ensures.made c.judge_call.ensures.told c.args.output.now
    (λ l. join_judged l c.args.first.now c.args.second.now)
    c.in_default.is (c.join-done.ensures.answered, c.join-done.ensures.written)
