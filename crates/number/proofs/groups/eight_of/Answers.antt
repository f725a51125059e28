-- `number::groups::eight_of` meets its contract. Assumes nothing.
use Rattle.number.proofs.EightBytes.{own_quarters}
use Rattle.number.proofs.groups.eight_of.Goals as goal

pub eighths-requires : goal.eighths-requires
eighths-requires c =
    let x = c.args.x in
    (x, c.requires, own_quarters x (rw c.power.ensures at c.if-x-power.true))

pub returns-then-x-power : goal.returns-then-x-power
returns-then-x-power c =
    let x = c.args.x in
    c.eighths.ensures x c.requires (own_quarters x (rw c.power.ensures at c.if-x-power.true))

pub quarters-requires : goal.quarters-requires
quarters-requires c = (c.args.x, c.requires, c.halves.ensures)

pub eighths-requires-2 : goal.eighths-requires-2
eighths-requires-2 c =
    let x = c.args.x in
    (x, c.requires, c.quarters.ensures x c.requires c.halves.ensures)

pub returns : goal.returns
returns c =
    let x = c.args.x in
    c.eighths-2.ensures x c.requires (c.quarters.ensures x c.requires c.halves.ensures)
