use Rattle.definitions.specs.Json.{read_json}
use Rattle.definitions.specs.Operations.{source, infer_judged, infer_operation}
use Rattle.definitions.specs.Calls.{infer_call}
use Rattle.slices.specs.Small.{range_small}
use Rattle.slices.specs.Prelude.{none_before}
use Rattle.runvestol.proofs.Calling.{calls_before, calls_behind}
use Rattle.runvestol.proofs.runvestol_infer.Goals as goal

pub returns-in-Err : goal.returns-in-Err
unfolding infer_call infer_operation
returns-in-Err c =
    calls_before c.args.answer.now c.refusal.result (c.tell.ensures.number, c.tell.ensures.written)
    c.set-limits.ensures.made c.judge_call.ensures.told c.args.output.now
    (λ l. infer_judged read_json l c.args.shape.now c.args.document.now)
    c.in-Err.is c.number.ensures.told c.refusal.ensures.set

pub infer-done-requires : goal.infer-done-requires
infer-done-requires c = range_small (none_before c.judge_call.ensures.told c.in_default.is).0

pub returns : goal.returns
unfolding infer_call infer_operation source
returns c =
    calls_behind c.args.answer.now c.infer-done.result (c.tell-2.ensures.number, c.tell-2.ensures.written)
    c.set-limits.ensures.made c.judge_call.ensures.told c.args.output.now
    (λ l. infer_judged read_json l c.args.shape.now c.args.document.now)
    c.in_default.is (c.infer-done.ensures.answered, c.infer-done.ensures.written)
