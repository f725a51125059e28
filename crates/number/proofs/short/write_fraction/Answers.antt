-- `number::short::write_fraction` meets its contract: the digits, and then the point before them. Assumes nothing.
use Rattle.number.proofs.Writing.{no_fraction_left, fraction_room, point_room, fraction_left}
use Rattle.number.proofs.short.write_fraction.Goals as goal

pub returns-then-scale-eq0 : goal.returns-then-scale-eq0
returns-then-scale-eq0 c =
    let a = c.args in
    no_fraction_left a.out.now a.at a.scale a.coefficient c.if-scale-eq0.true

pub write_digits-whole-requires : goal.write_digits-whole-requires
write_digits-whole-requires c =
    let room = fraction_room c.args.out.now c.args.at c.args.scale c.if-scale-eq0.false c.requires.1 in
    (c.requires.0, room)

pub bounds-out-at : goal.bounds-out-at
bounds-out-at c =
    point_room c.args.out.now c.args.at c.args.scale c.if-scale-eq0.false c.requires.1 c.write_digits-whole.auto.out

pub returns : goal.returns
returns c =
    let a = c.args in
    fraction_left a.out.now a.at a.scale a.coefficient c.if-scale-eq0.false
    (fraction_room a.out.now a.at a.scale c.if-scale-eq0.false c.requires.1)
    c.write_digits-whole.ensures
