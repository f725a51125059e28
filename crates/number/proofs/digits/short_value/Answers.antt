-- `number::digits::short_value` meets its contract. Assumes nothing.
use native.Mathlib.Omega.{arith}
use Rattle.number.proofs.DigitValues.{short_small, short_room, short_fit, short_grown}
use Rattle.number.proofs.digits.short_value.Goals as goal

pub overflow_mul-moved : goal.overflow_mul-moved
overflow_mul-moved c =
    record { fits = short_room c.requires.3 c.requires.1 c.requires.2.below c.power.ensures }

pub digits_at-requires : goal.digits_at-requires
digits_at-requires c = c.requires.2.word

pub eight_digits-requires : goal.eight_digits-requires
eight_digits-requires c =
    short_small c.requires.3 c.digits_at.ensures (omega arith) c.requires.1 c.requires.2.below

pub overflow_add-result : goal.overflow_add-result
overflow_add-result c =
    record {
      fits =
          short_fit c.requires.3 c.digits_at.ensures (omega arith) c.requires.1 c.requires.2.below
          c.power.ensures c.eight_digits.ensures;
    }

pub returns : goal.returns
returns c =
    short_grown c.requires.3 c.digits_at.ensures (omega arith) c.requires.1 c.requires.2.below
    c.power.ensures c.eight_digits.ensures
