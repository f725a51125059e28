-- `number::write::write_number` meets its contract: the fraction, the integer part before it and the minus before that are the
-- number. Assumes nothing.
use native.Mathlib.Omega.{arith}
use Rattle.definitions.specs.Number.{most_coefficient, most_scale}
use Rattle.number.specs.NumberWrite.{as_number}
use Rattle.number.specs.DecimalLaws.{length_plain, length_quotient, length_most}
use Rattle.number.proofs.Writing.{length_fraction_any, number_written}
use Rattle.number.proofs.write.write_number.Goals as goal

pub overflow_add-start : goal.overflow_add-start
overflow_add-start c =
    omega (arith, length_plain (as_number c.args.negative c.args.coefficient c.args.scale), c.requires.room, c.well_formed)

pub overflow_add-point : goal.overflow_add-point
overflow_add-point c =
    omega (arith, length_plain (as_number c.args.negative c.args.coefficient c.args.scale), c.requires.room, c.well_formed)

pub write_unsigned-requires : goal.write_unsigned-requires
unfolding most_coefficient most_scale
write_unsigned-requires c =
    let a = c.args in
    let bounds = c.requires.bounded in record {
      few = (
        omega (arith, bounds.coefficient),
        omega (arith, bounds.scale),
        omega (
          arith,
          c.whole_length-digits.ensures,
          bounds.scale,
          length_quotient a.scale a.coefficient,
          length_most 17 a.coefficient (omega (arith, bounds.coefficient)),
        ),
      );
      room = omega (
        arith,
        length_plain (as_number c.args.negative c.args.coefficient c.args.scale),
        c.requires.room,
        length_fraction_any a.scale 0 a.coefficient,
      );
    }

pub write_minus-requires : goal.write_minus-requires
write_minus-requires c =
    omega (arith, length_plain (as_number c.args.negative c.args.coefficient c.args.scale), c.requires.room, c.write_unsigned.auto.out)

pub overflow_add-result : goal.overflow_add-result
overflow_add-result c =
    omega (
      arith,
      length_plain (as_number c.args.negative c.args.coefficient c.args.scale),
      c.requires.room,
      c.well_formed,
      c.minus_length.ensures,
      c.whole_length-digits.ensures,
      c.fraction_length.ensures c.args.coefficient,
    )

pub returns : goal.returns
returns c =
    number_written c.args.out.now c.args.at (as_number c.args.negative c.args.coefficient c.args.scale)
    c.requires.room
    c.minus_length.ensures
    c.whole_length-digits.ensures
    (c.fraction_length.ensures c.args.coefficient)
    c.write_unsigned.ensures
    c.write_minus.ensures
