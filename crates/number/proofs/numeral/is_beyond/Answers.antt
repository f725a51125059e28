-- `number::numeral::is_beyond` meets its contract: a cap is reached exactly where its bound is passed. Assumes nothing.
use borrow.Author.Tests.{eq-eqb}
use mathlib.Core.Path.{◌∙◌}
use mathlib.Core.Logic.{inl, inr}
use Rattle.number.proofs.Caps.{beyond_coefficient, beyond_scale, beyond_exponent}
use Rattle.number.proofs.numeral.is_beyond.Goals.{then-d-eq-PAST_COEFFICIENT, else-d-eq-PAST_COEFFICIENT}
use Rattle.number.proofs.numeral.is_beyond.Goals as goal

pub returns-then-d-eq-PAST_SCALE : goal.returns-then-d-eq-PAST_SCALE
returns-then-d-eq-PAST_SCALE c n s =
    elim c.if-d-eq-PAST_COEFFICIENT.branch [
      | then-d-eq-PAST_COEFFICIENT w ↦ w.t-3-is ∙ eq-eqb _ _ w.if-d-eq-PAST_COEFFICIENT.true ∙ beyond_coefficient s w.if-d-eq-PAST_COEFFICIENT.true
      | else-d-eq-PAST_COEFFICIENT w ↦
          elim c.if-d-eq-PAST_SCALE.either [
            | inl e ↦ absurd (w.if-d-eq-PAST_COEFFICIENT.false e)
            | inr h ↦ w.t-3-is ∙ eq-eqb _ _ h.1 ∙ beyond_scale s h.0 h.1
          ]
    ]

pub returns-else-d-eq-PAST_SCALE : goal.returns-else-d-eq-PAST_SCALE
returns-else-d-eq-PAST_SCALE c n s = beyond_exponent s c.if-d-eq-PAST_SCALE.false.0 c.if-d-eq-PAST_SCALE.false.1
