-- `operations::below` meets its contract. Assumes nothing.
use Rattle.definitions.specs.Operations.{below_judged, below_operation}
use Rattle.slices.specs.Prelude.{says_before, says_behind}
use Rattle.operations.proofs.Lent.{for_pair}
use Rattle.operations.proofs.below.Goals as goal

pub returns-in-Err : goal.returns-in-Err
unfolding below_operation
returns-in-Err c =
    record {
      answered = says_before c.judge_two_shapes.ensures.told c.in-Err.is c.number.ensures.told
          (below_judged c.args.limits c.args.first.now c.args.second.now)
          c.refusal.ensures.set;
    }

pub below-requires : goal.below-requires
below-requires c =
    for_pair c.in_default.is c.args.shapes.now c.args.others.now c.args.pool.now
    c.judge_two_shapes.ensures.told c.args.first.now c.args.second.now

pub returns : goal.returns
unfolding below_operation
returns c =
    record {
      answered = says_behind c.judge_two_shapes.ensures.told c.in_default.is
          (below_judged c.args.limits c.args.first.now c.args.second.now) c.below.ensures.answered;
    }
