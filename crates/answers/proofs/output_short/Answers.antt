-- `answers::output_short` meets its contract. Assumes nothing.
use Rattle.definitions.specs.Operations.{output_short, refusal}
use Rattle.answers.proofs.output_short.Goals as goal

pub returns : goal.returns
unfolding output_short refusal
returns c = record { set = simp (c.refusal.ensures.set, c.number.ensures.told) }
