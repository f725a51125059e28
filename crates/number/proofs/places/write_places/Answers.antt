-- `number::places::write_places` meets its contract: the last eight digits, the eight before them, and what is before these (`places_before`).
-- Assumes nothing.
use Prim.Native.Nat.{◌+◌, ◌-◌, ◌/◌, ◌^◌}
use native.Mathlib.Omega.{arith}
use mathlib.Core.Path.{◌≡◌, refl}
use Rattle.number.proofs.DigitGroups.{from_fewer}
use Rattle.number.proofs.Writing.{places_before}
use Rattle.number.proofs.places.write_places.Goals as goal

pub returns-then-count-lt8 : goal.returns-then-count-lt8
returns-then-count-lt8 c n b =
    let a = c.args in
    c.write_rest.ensures (n / 10 ^ a.from)
    (from_fewer a.count (omega (arith, c.if-count-lt8.true)) (omega (arith, c.requires.1)) (c.eight_from.ensures n b))

pub returns-then-left-lt8 : goal.returns-then-left-lt8
returns-then-left-lt8 c n b =
    let a = c.args in
    let left = a.count - 8 in
    places_before a.out.now a.at (a.at + left) a.from left 8 a.count n refl (omega (arith, c.if-count-lt8.false)) c.requires.2
    (c.store_eight.ensures (n / 10 ^ a.from)
    (from_fewer 8 (omega arith) (omega (arith, c.requires.0)) (c.eight_from-2.ensures n b)))
    (c.write_rest-then-left-lt8.ensures (n / 10 ^ (a.from + 8))
    (from_fewer left (omega (arith, c.if-left-lt8.true)) (omega (arith, c.requires.1, c.if-count-lt8.false)) (c.eight_from-then-left-lt8.ensures n b)))

pub returns : goal.returns
returns c n b =
    let a = c.args in
    let left = a.count - 8 in
    let room : a.at + left - 8 + 16 ≡ a.at + a.count = omega (arith, c.if-count-lt8.false, c.if-left-lt8.false) in
    let sixteen =
    places_before a.out.now (a.at + left - 8) (a.at + left) a.from 8 8 16 n (omega (arith, c.if-left-lt8.false)) refl
    (omega (arith, room, c.requires.2))
    (c.store_eight.ensures (n / 10 ^ a.from)
    (from_fewer 8 (omega arith) (omega (arith, c.requires.0)) (c.eight_from-2.ensures n b)))
    (c.store_eight-2.ensures (n / 10 ^ (a.from + 8))
    (from_fewer 8 (omega arith) (omega (arith, c.requires.1, room)) (c.eight_from-3.ensures n b))) in
    places_before a.out.now a.at (a.at + left - 8) a.from (left - 8) 16 a.count n (omega (arith, c.if-left-lt8.false)) (omega (arith, room))
    c.requires.2 sixteen
    (c.write_rest-2.ensures (n / 10 ^ (a.from + 16))
    (from_fewer (left - 8) (omega (arith, c.requires.1)) (omega (arith, c.requires.1, room)) (c.eight_from-4.ensures n b)))
