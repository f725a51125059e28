-- `answers::said` meets its contract. Assumes nothing.
use mathlib.Core.Path.{refl}
use Rattle.definitions.specs.Operations.{said}
use Rattle.answers.proofs.said.Goals as goal

pub returns : goal.returns
unfolding said
returns c = record { set = refl }
