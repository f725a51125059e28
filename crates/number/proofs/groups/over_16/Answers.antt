-- `number::groups::over_16` meets its contract: the product is at most one short. Assumes nothing.
use mathlib.Core.Path.{refl, ap, ◌∙◌}
use Prim.Native.Nat.{ℕ, ◌/◌}
use Rattle.number.proofs.Quotients.{near_16, next_fits, near_fits, no_more, once_more}
use Rattle.number.proofs.groups.over_16.Goals as goal

pub overflow_mul-q-2 : goal.overflow_mul-q-2
overflow_mul-q-2 c = record { fits = near_fits (near_16 c.requires c.power-unit.ensures) }

pub overflow_sub-c : goal.overflow_sub-c
overflow_sub-c c = (near_16 c.requires c.power-unit.ensures).least

pub overflow_add-result : goal.overflow_add-result
overflow_add-result c =
    record { fits = next_fits _ c.requires (near_16 c.requires refl).least }

pub returns-then-unit-c : goal.returns-then-unit-c
returns-then-unit-c c =
    once_more (near_16 c.requires c.power-unit.ensures) c.if-unit-c.true
    ∙ ap (λ (t : ℕ). c.args.c / t) c.power-unit.ensures

pub returns-else-unit-c : goal.returns-else-unit-c
returns-else-unit-c c =
    no_more (near_16 c.requires c.power-unit.ensures) c.if-unit-c.false
    ∙ ap (λ (t : ℕ). c.args.c / t) c.power-unit.ensures
