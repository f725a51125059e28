-- `number::digits::digits_value` meets its contract. Assumes nothing.
use native.Mathlib.Omega.{arith}
use mathlib.Core.Path.{refl}
use Rattle.number.proofs.DigitValues.{first_ready, first_taken, last_within, last_room, last_small, last_fit, last_taken}
use Rattle.number.proofs.digits.digits_value.Goals as goal

pub has_room-requires : goal.has_room-requires
has_room-requires c = omega (arith, c.requires.1.within)

pub short_value-first-requires : goal.short_value-first-requires
short_value-first-requires c =
    let room = c.has_room.ensures c.if-not-has_room.false in
    first_ready c.first_count-few.ensures (omega (arith, c.requires.0)) room.few c.args.end refl room c.requires.1

pub returns-then-count-le8 : goal.returns-then-count-le8
returns-then-count-le8 c =
    let room = c.has_room.ensures c.if-not-has_room.false in
    first_taken c.args.end _ c.requires.1 room.few room.below c.short_value-first.ensures
    (c.first_count-few.ensures.all c.if-count-le8.true)

pub overflow_mul-result : goal.overflow_mul-result
overflow_mul-result c =
    let room = c.has_room.ensures c.if-not-has_room.false in
    record {
      fits =
          last_room c.args.end _ c.requires.1 room.few room.below c.short_value-first.ensures
          (c.first_count-few.ensures.part c.if-count-le8.false);
    }

pub overflow_add-at : goal.overflow_add-at
overflow_add-at c =
    omega (
      arith,
      c.requires.1.within,
      c.requires.1.behind,
      c.first_count-few.ensures.part c.if-count-le8.false,
    )

pub digits_at-requires : goal.digits_at-requires
digits_at-requires c =
    let room = c.has_room.ensures c.if-not-has_room.false in
    last_within c.args.end _ c.requires.1 room.few room.below c.short_value-first.ensures
    (c.first_count-few.ensures.part c.if-count-le8.false)

pub eight_digits-requires : goal.eight_digits-requires
eight_digits-requires c =
    let room = c.has_room.ensures c.if-not-has_room.false in
    last_small c.args.end _ c.requires.1 room.few room.below c.short_value-first.ensures
    (c.first_count-few.ensures.part c.if-count-le8.false) c.digits_at.ensures

pub overflow_add-result : goal.overflow_add-result
overflow_add-result c =
    let room = c.has_room.ensures c.if-not-has_room.false in
    record {
      fits =
          last_fit c.args.end _ c.requires.1 room.few room.below c.short_value-first.ensures
          (c.first_count-few.ensures.part c.if-count-le8.false) c.digits_at.ensures
          c.eight_digits.ensures;
    }

pub returns : goal.returns
returns c =
    let room = c.has_room.ensures c.if-not-has_room.false in
    last_taken c.args.end _ c.requires.1 room.few room.below c.short_value-first.ensures
    (c.first_count-few.ensures.part c.if-count-le8.false) c.digits_at.ensures
    c.eight_digits.ensures
