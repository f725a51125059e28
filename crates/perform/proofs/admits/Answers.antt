-- `perform::admits` meets its contract. Assumes nothing.
use mathlib.Core.Path.{ap, ◌∙◌}
use Rattle.definitions.specs.Operations.{said, say, admits_judged}
use Rattle.laws.specs.Ends.{says_stopped, says_passed}
use Rattle.inputs.specs.InputsLaws.{both_passes, both_refused}
use Rattle.perform.proofs.Walks.{admission, shape_held, value_held}
use Rattle.perform.proofs.admits.Goals as goal

pub admits-requires : goal.admits-requires
admits-requires c =
    let b = both_passes c.shape_document.ensures.judged c.in-Ok.is in
    admission b.held

pub returns-in-Ok : goal.returns-in-Ok
unfolding admits_judged say
returns-in-Ok c =
    record {
      answered = let b = both_passes c.shape_document.ensures.judged c.in-Ok.is in
          let e = c.admits.ensures.told b.first (shape_held b.held.shape) b.second (value_held b.held.value) in
          says_passed _ b.judged (c.said.ensures.set ∙ ap said e);
    }

pub returns-in-Err : goal.returns-in-Err
unfolding admits_judged
returns-in-Err c = record { answered = says_stopped _ c.refused.ensures.set (both_refused c.shape_document.ensures.judged c.in-Err.is) }
