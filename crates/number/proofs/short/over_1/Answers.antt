-- `number::short::over_1` meets its contract. Assumes nothing.
use Rattle.number.proofs.Quotients.{over_ten}
use Rattle.number.proofs.short.over_1.Goals as goal

pub returns : goal.returns
returns c = over_ten c.args.n c.requires
