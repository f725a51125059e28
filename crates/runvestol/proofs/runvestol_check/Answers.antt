use Rattle.definitions.specs.Operations.{check_judged, check_operation}
use Rattle.definitions.specs.Calls.{check_call}
use Rattle.slices.specs.Small.{range_small}
use Rattle.slices.specs.Prelude.{none_before}
use Rattle.runvestol.proofs.Calling.{calls_before, calls_behind}
use Rattle.runvestol.proofs.runvestol_check.Goals as goal

pub returns-in-Err : goal.returns-in-Err
unfolding check_call check_operation
returns-in-Err c =
    calls_before c.args.answer.now c.refusal.result (c.tell.ensures.number, c.tell.ensures.written)
    c.set-limits.ensures.made c.judge_call.ensures.told c.args.output.now
    (λ l. check_judged l c.args.reader.now c.args.shape.now)
    c.in-Err.is c.number.ensures.told c.refusal.ensures.set

pub check-done-requires : goal.check-done-requires
check-done-requires c = range_small (none_before c.judge_call.ensures.told c.in_default.is).0

pub returns : goal.returns
unfolding check_call check_operation
returns c =
    calls_behind c.args.answer.now c.check-done.result (c.tell-2.ensures.number, c.tell-2.ensures.written)
    c.set-limits.ensures.made c.judge_call.ensures.told c.args.output.now
    (λ l. check_judged l c.args.reader.now c.args.shape.now)
    c.in_default.is (c.check-done.ensures.answered, c.check-done.ensures.written)
