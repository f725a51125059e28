-- `checking::kinds::cut` meets its contract. Assumes nothing.
use Rattle.checking.proofs.KindTests.{cut_told}
use Rattle.checking.proofs.kinds.cut.Goals as goal

pub returns : goal.returns
returns c = record { told = cut_told c.args.kinds.kinds c.args.test c.test_kinds.result.kinds c.test_kinds.ensures.told }
