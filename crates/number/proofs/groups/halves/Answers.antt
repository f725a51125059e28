-- `number::groups::halves` meets its contract. Assumes nothing.
use Rattle.number.proofs.EightBytes.{halves_fit, halves_least, halves_are}
use Rattle.number.proofs.groups.halves.Goals as goal

pub overflow_mul-result : goal.overflow_mul-result
overflow_mul-result c = record { fits = halves_fit c.args.x _ c.requires c.power.ensures }

pub overflow_sub-result : goal.overflow_sub-result
overflow_sub-result c = halves_least c.args.x _ c.requires c.power.ensures

pub returns : goal.returns
returns c = halves_are c.args.x _ c.requires c.power.ensures
