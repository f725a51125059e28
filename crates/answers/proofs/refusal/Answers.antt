-- `answers::refusal` meets its contract. Assumes nothing.
use mathlib.Core.Path.{refl}
use Rattle.definitions.specs.Operations.{refusal}
use Rattle.answers.proofs.refusal.Goals as goal

pub returns : goal.returns
unfolding refusal
returns c = record { set = refl }
