use Rattle.definitions.specs.Operations.{below_judged, below_operation}
use Rattle.definitions.specs.Calls.{below_call}
use Rattle.slices.specs.Small.{range_small}
use Rattle.slices.specs.Prelude.{none_before}
use Rattle.runvestol.proofs.Calling.{answers_before, answers_behind}
use Rattle.runvestol.proofs.runvestol_below.Goals as goal

pub returns-in-Err : goal.returns-in-Err
unfolding below_call below_operation
returns-in-Err c =
    answers_before c.args.answer.now c.refusal.result (c.tell.ensures.number, c.tell.ensures.written)
    c.set-limits.ensures.made c.judge_call.ensures.told
    (λ l. below_judged l c.args.first.now c.args.second.now)
    c.in-Err.is c.number.ensures.told c.refusal.ensures.set

pub below-done-requires : goal.below-done-requires
below-done-requires c = range_small (none_before c.judge_call.ensures.told c.in_default.is).0

pub returns : goal.returns
unfolding below_call below_operation
returns c =
    answers_behind c.args.answer.now c.below-done.result (c.tell-2.ensures.number, c.tell-2.ensures.written)
    c.set-limits.ensures.made c.judge_call.ensures.told
    (λ l. below_judged l c.args.first.now c.args.second.now)
    c.in_default.is c.below-done.ensures.answered
