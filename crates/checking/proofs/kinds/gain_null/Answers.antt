-- `checking::kinds::gain_null` meets its contract. Assumes nothing.
use mathlib.Core.Path.{sym, ◌∙◌}
use Rattle.checking.proofs.KindTests.{null_gained, none_gained}
use Rattle.checking.proofs.kinds.gain_null.Goals as goal

pub returns-then-has : goal.returns-then-has
returns-then-has c = record { told = null_gained c.args.kinds.kinds c.args.place.kinds c.union.ensures.made (sym c.has.ensures.told ∙ c.if-has.true) }

pub returns : goal.returns
returns c = record { told = none_gained c.args.kinds.kinds c.args.place.kinds (sym c.has.ensures.told ∙ c.if-has.false) }
