-- `number::places::write_fraction` meets its contract: the digits, and then the point before them. Assumes nothing.
use native.Mathlib.Omega.{arith}
use Rattle.number.proofs.Writing.{no_fraction, fraction_room, point_room, fraction_written}
use Rattle.number.proofs.places.write_fraction.Goals as goal

pub returns-then-scale-eq0 : goal.returns-then-scale-eq0
returns-then-scale-eq0 c n b =
    let a = c.args in
    no_fraction a.out.now a.at a.scale n c.if-scale-eq0.true

pub write_places-requires : goal.write_places-requires
write_places-requires c =
    let room = fraction_room c.args.out.now c.args.at c.args.scale c.if-scale-eq0.false c.requires.1 in
    (omega arith, omega (arith, c.requires.0), room)

pub bounds-out-at : goal.bounds-out-at
bounds-out-at c =
    point_room c.args.out.now c.args.at c.args.scale c.if-scale-eq0.false c.requires.1 c.write_places.auto.out

pub returns : goal.returns
returns c n b =
    let a = c.args in
    fraction_written a.out.now a.at a.scale n c.if-scale-eq0.false
    (fraction_room a.out.now a.at a.scale c.if-scale-eq0.false c.requires.1)
    (c.write_places.ensures n b)
