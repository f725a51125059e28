-- `operations::admits` meets its contract. Assumes nothing.
use Rattle.definitions.specs.Json.{read_json}
use Rattle.definitions.specs.Operations.{source, admits_judged, admits_operation}
use Rattle.slices.specs.Prelude.{says_before, says_behind}
use Rattle.operations.proofs.Lent.{for_both}
use Rattle.operations.proofs.admits.Goals as goal

pub returns-in-Err : goal.returns-in-Err
unfolding admits_operation
returns-in-Err c =
    record {
      answered = says_before c.judge_shape_document-judged.ensures.told c.in-Err.is c.number.ensures.told
          (admits_judged read_json c.args.limits c.args.shape.now c.args.document.now)
          c.refusal.ensures.set;
    }

pub admits-requires : goal.admits-requires
admits-requires c =
    for_both c.in_default.is c.args.shapes.now c.args.nodes.now c.args.pool.now
    c.judge_shape_document-judged.ensures.told c.args.shape.now c.args.document.now

pub returns : goal.returns
unfolding admits_operation source
returns c =
    record {
      answered = says_behind c.judge_shape_document-judged.ensures.told c.in_default.is
          (admits_judged read_json c.args.limits c.args.shape.now c.args.document.now)
          c.admits.ensures.answered;
    }
