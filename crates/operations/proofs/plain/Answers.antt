-- `operations::plain` meets its contract. Assumes nothing.
use Rattle.definitions.specs.Json.{read_json}
use Rattle.definitions.specs.Operations.{source, plain_judged, plain_operation}
use Rattle.slices.specs.Prelude.{finishes_before, finishes_behind}
use Rattle.operations.proofs.Lent.{for_one}
use Rattle.operations.proofs.plain.Goals as goal

pub returns-in-Err : goal.returns-in-Err
unfolding plain_operation
returns-in-Err c =
    let facts = finishes_before c.judge_document.ensures.told c.in-Err.is c.number.ensures.told
    c.args.output.now (plain_judged read_json c.args.limits c.args.document.now)
    c.refusal.ensures.set in
    record { answered = facts.0; written = facts.1 }

pub plain-requires : goal.plain-requires
plain-requires c =
    for_one c.in_default.is c.args.nodes.now c.args.pool.now c.judge_document.ensures.told
    c.args.document.now

pub returns : goal.returns
unfolding plain_operation source
returns c =
    let facts = finishes_behind c.judge_document.ensures.told c.in_default.is
    c.args.output.now (plain_judged read_json c.args.limits c.args.document.now)
    (c.plain.ensures.answered, c.plain.ensures.written) in
    record { answered = facts.0; written = facts.1 }
