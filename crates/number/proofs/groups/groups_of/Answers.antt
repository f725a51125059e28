-- `number::groups::groups_of` meets its contract. Assumes nothing.
use native.Mathlib.Omega.{arith}
use Rattle.number.proofs.DigitGroups.{sixteen_few, sixteen_least, sixteen_left, three_groups_are}
use Rattle.number.proofs.EightBytes.{own_quarters}
use Rattle.number.proofs.groups.groups_of.Goals as goal

pub overflow_mul-high : goal.overflow_mul-high
overflow_mul-high c =
    omega (arith, c.requires, sixteen_least c.args.c _ _ c.over_16-high.ensures c.power-unit.ensures)

pub overflow_sub-c : goal.overflow_sub-c
overflow_sub-c c =
    sixteen_least c.args.c _ _ c.over_16-high.ensures c.power-unit.ensures

pub two_groups-g-requires : goal.two_groups-g-requires
two_groups-g-requires c =
    sixteen_left c.args.c _ _ c.over_16-high.ensures c.power-unit.ensures

pub eighths-requires : goal.eighths-requires
eighths-requires c =
    let high = c.over_16-high.result in
    let few = sixteen_few c.args.c high c.over_16-high.ensures c.requires in
    (high, omega (arith, few), own_quarters high few)

pub returns : goal.returns
returns c =
    let high = c.over_16-high.result in
    let few = sixteen_few c.args.c high c.over_16-high.ensures c.requires in
    three_groups_are c.args.c high _ c.over_16-high.ensures c.power-unit.ensures _ _
    c.two_groups-g.ensures
    (c.eighths.ensures high (omega (arith, few)) (own_quarters high few))
