-- `number::phase::may_follow` meets its contract. Assumes nothing.
use mathlib.Core.Path.{sym, ◌∙◌}
use mathlib.Core.Bool.{true≢false}
use native.Mathlib.Omega.{arith}
use Rattle.number.specs.NumberCode.{Quiet}
use Rattle.number.proofs.phase.may_follow.Goals.{in-46, in_default}
use Rattle.number.proofs.phase.may_follow.Goals as goal

pub returns-then-matches : goal.returns-then-matches
returns-then-matches c e = absurd (true≢false (sym c.if-matches.true ∙ e))

pub returns-else-matches : goal.returns-else-matches
returns-else-matches c e =
    elim c.match-matches.branch as (λ _. Quiet c.args.b) [
      | in-46 w ↦ absurd (true≢false (sym w.matches-is ∙ c.if-matches.false))
      | in_default w ↦
          record {
            no_digit = sym c.is_digit.ensures ∙ e;
            no_point = grind arith;
            no_e = grind arith;
            no_upper_e = grind arith;
          }
    ]
