-- `perform::below` meets its contract. Assumes nothing.
use mathlib.Core.Path.{ap, ◌∙◌}
use Rattle.definitions.specs.Operations.{said, say, below_judged}
use Rattle.laws.specs.Ends.{says_stopped, says_passed}
use Rattle.inputs.specs.InputsLaws.{both_passes, both_refused}
use Rattle.perform.proofs.Walks.{comparison, shape_held}
use Rattle.perform.proofs.below.Goals as goal

pub below-requires : goal.below-requires
below-requires c =
    let b = both_passes c.two_shapes.ensures.judged c.in-Ok.is in
    comparison b.held

pub returns-in-Ok : goal.returns-in-Ok
unfolding below_judged say
returns-in-Ok c =
    record {
      answered = let b = both_passes c.two_shapes.ensures.judged c.in-Ok.is in
          let e = c.below.ensures.told b.first (shape_held b.held.one) b.second (shape_held b.held.other) in
          says_passed _ b.judged (c.said.ensures.set ∙ ap said e);
    }

pub returns-in-Err : goal.returns-in-Err
unfolding below_judged
returns-in-Err c = record { answered = says_stopped _ c.refused.ensures.set (both_refused c.two_shapes.ensures.judged c.in-Err.is) }
