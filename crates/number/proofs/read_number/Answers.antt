-- `number::read_number` meets its contract: a number without an exponent by its parts, and any other a byte at a time. Assumes nothing.
use native.Mathlib.Omega.{arith}
use Rattle.number.proofs.DigitRuns.{behind_place}
use Rattle.number.proofs.Parts.{whole_digits, fraction_digits, start_before, first_before, reads_int_number, reads_decimal_number}
use Rattle.number.proofs.read_number.Goals as goal

pub whole_end-point-requires : goal.whole_end-point-requires
whole_end-point-requires c =
    omega (
      arith,
      behind_place c.args.doc.now c.args.at c.stands_at-negative.result c.requires c.stands_at-negative.ensures,
      c.behind_minus-start.ensures,
    )

pub fraction_end-end-requires : goal.fraction_end-end-requires
fraction_end-end-requires c = (whole_digits c.whole_end-point.ensures).within

pub overflow_add-point : goal.overflow_add-point
overflow_add-point c = omega (arith, (whole_digits c.whole_end-point.ensures).within)

pub digits_value-whole-requires : goal.digits_value-whole-requires
digits_value-whole-requires c = (
  start_before c.stands_at-negative.ensures c.behind_minus-start.ensures c.whole_end-point.ensures
      c.fraction_end-end.ensures
      c.may_go_on.result c.if-point-start.false,
  whole_digits c.whole_end-point.ensures,
)

pub returns-then-end-point : goal.returns-then-end-point
returns-then-end-point c =
    reads_int_number c.stands_at-negative.ensures c.behind_minus-start.ensures
    c.whole_end-point.ensures c.fraction_end-end.ensures
    c.may_go_on.result c.if-point-start.false
    c.may_go_on.ensures c.if-end-point.true (c.settle.ensures _ (c.digits_value-whole.ensures.capped 0 (omega arith)))

pub overflow_add-first : goal.overflow_add-first
overflow_add-first c =
    omega (arith, (whole_digits c.whole_end-point.ensures).within)

pub digits_value-coefficient-requires : goal.digits_value-coefficient-requires
digits_value-coefficient-requires c = (
  first_before c.stands_at-negative.ensures c.behind_minus-start.ensures
      c.whole_end-point.ensures c.fraction_end-end.ensures
      c.may_go_on.result c.if-point-start.false c.if-end-point.false,
  fraction_digits c.fraction_end-end.ensures c.if-end-point.false,
)

pub overflow_sub-end : goal.overflow_sub-end
overflow_sub-end c =
    (fraction_digits c.fraction_end-end.ensures c.if-end-point.false).behind

pub returns : goal.returns
returns c =
    reads_decimal_number c.stands_at-negative.ensures c.behind_minus-start.ensures
    c.whole_end-point.ensures c.fraction_end-end.ensures
    c.may_go_on.result c.if-point-start.false
    c.may_go_on.ensures c.if-end-point.false
    (c.settle-2.ensures _ (c.digits_value-coefficient.ensures.capped _ (c.digits_value-whole.ensures.capped 0 (omega arith))))

pub returns-then-point-start : goal.returns-then-point-start
returns-then-point-start c =
    c.slow_number.ensures
