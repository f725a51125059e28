use Rattle.definitions.specs.Json.{read_json}
use Rattle.definitions.specs.Operations.{source, admits_judged, admits_operation}
use Rattle.definitions.specs.Calls.{admits_call}
use Rattle.slices.specs.Small.{range_small}
use Rattle.slices.specs.Prelude.{none_before}
use Rattle.runvestol.proofs.Calling.{answers_before, answers_behind}
use Rattle.runvestol.proofs.runvestol_admits.Goals as goal

pub returns-in-Err : goal.returns-in-Err
unfolding admits_call admits_operation
returns-in-Err c =
    answers_before c.args.answer.now c.refusal.result (c.tell.ensures.number, c.tell.ensures.written)
    c.set-limits.ensures.made c.judge_call.ensures.told
    (λ l. admits_judged read_json l c.args.shape.now c.args.document.now)
    c.in-Err.is c.number.ensures.told c.refusal.ensures.set

pub admits-done-requires : goal.admits-done-requires
admits-done-requires c = range_small (none_before c.judge_call.ensures.told c.in_default.is).0

pub returns : goal.returns
unfolding admits_call admits_operation source
returns c =
    answers_behind c.args.answer.now c.admits-done.result (c.tell-2.ensures.number, c.tell-2.ensures.written)
    c.set-limits.ensures.made c.judge_call.ensures.told
    (λ l. admits_judged read_json l c.args.shape.now c.args.document.now)
    c.in_default.is c.admits-done.ensures.answered
