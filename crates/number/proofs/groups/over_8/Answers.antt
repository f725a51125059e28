-- `number::groups::over_8` meets its contract: the product is at most one short. Assumes nothing.
use mathlib.Core.Path.{ap, ◌∙◌}
use Prim.Native.Nat.{ℕ, ◌/◌}
use Rattle.number.proofs.Quotients.{near_8, near_fits, no_more, once_more}
use Rattle.number.proofs.groups.over_8.Goals as goal

pub overflow_mul-q-2 : goal.overflow_mul-q-2
overflow_mul-q-2 c = record { fits = near_fits (near_8 c.requires c.power-unit.ensures) }

pub overflow_sub-x : goal.overflow_sub-x
overflow_sub-x c = (near_8 c.requires c.power-unit.ensures).least

pub returns-then-unit-x : goal.returns-then-unit-x
returns-then-unit-x c =
    once_more (near_8 c.requires c.power-unit.ensures) c.if-unit-x.true
    ∙ ap (λ (t : ℕ). c.args.x / t) c.power-unit.ensures

pub returns-else-unit-x : goal.returns-else-unit-x
returns-else-unit-x c =
    no_more (near_8 c.requires c.power-unit.ensures) c.if-unit-x.false
    ∙ ap (λ (t : ℕ). c.args.x / t) c.power-unit.ensures
