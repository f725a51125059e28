-- `number::groups::two_groups` meets its contract. Assumes nothing.
use native.Mathlib.Omega.{arith}
use Rattle.number.proofs.DigitGroups.{one_group, eight_least, eight_left, two_groups_are}
use Rattle.number.proofs.groups.two_groups.Goals as goal

pub returns-then-c-unit : goal.returns-then-c-unit
returns-then-c-unit c =
    one_group c.args.c _ (rw c.power-unit.ensures at c.if-c-unit.true) c.eight_of.ensures

pub overflow_mul-middle : goal.overflow_mul-middle
overflow_mul-middle c =
    omega (arith, c.requires, eight_least c.args.c _ _ c.over_8-middle.ensures c.power-unit.ensures)

pub overflow_sub-c : goal.overflow_sub-c
overflow_sub-c c =
    eight_least c.args.c _ _ c.over_8-middle.ensures c.power-unit.ensures

pub eight_of-requires-2 : goal.eight_of-requires-2
eight_of-requires-2 c =
    eight_left c.args.c _ _ c.over_8-middle.ensures c.power-unit.ensures

pub returns : goal.returns
returns c =
    two_groups_are c.args.c _ _ c.over_8-middle.ensures c.power-unit.ensures _ _ c.requires
    c.eight_of-2.ensures
    c.eight_of-3.ensures
