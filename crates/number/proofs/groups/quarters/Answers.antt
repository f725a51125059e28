-- `number::groups::quarters` meets its contract. Assumes nothing.
use Rattle.number.proofs.EightBytes.{quarters_fit, quarters_least, quarters_sum, quarters_are}
use Rattle.number.proofs.groups.quarters.Goals as goal

pub overflow_mul-result : goal.overflow_mul-result
overflow_mul-result c =
    let it = c.requires in
    record { fits = quarters_fit it.0 c.args.word _ it.1 it.2 c.power.ensures }

pub overflow_sub-result : goal.overflow_sub-result
overflow_sub-result c = let it = c.requires in quarters_least it.0 c.args.word _ it.1 it.2 c.power.ensures

pub overflow_add-result : goal.overflow_add-result
overflow_add-result c =
    let it = c.requires in
    record { fits = quarters_sum it.0 c.args.word _ it.1 it.2 c.power.ensures }

pub returns : goal.returns
returns c x h b = quarters_are x c.args.word _ h b c.power.ensures
