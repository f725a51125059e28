-- `answers::written` meets its contract. Assumes nothing.
use Rattle.definitions.specs.Operations.{written, said}
use Rattle.answers.proofs.written.Goals as goal

pub returns : goal.returns
unfolding written said
returns c = record { set = simp c.said.ensures.set }
