-- `text::wide::wide_length` meets its contract: of the table's rows, each by its first two bytes (`Stands`). Assumes nothing.
use Rattle.text.proofs.Stands.{wide_2, wide_3, wide_4}
use native.Mathlib.Omega.{arith}
use Rattle.text.proofs.wide.wide_length.Goals as goal

pub returns-then-two-lt57344 : goal.returns-then-two-lt57344
returns-then-two-lt57344 c =
    record {
      found = (
        wide_2 c.args.x c.ranges.x.fits c.if-two-lt49664.false c.if-two-ne2.false c.if-two-lt57344.true,
        omega arith,
        omega arith,
      );
    }

pub returns-then-two-lt61440 : goal.returns-then-two-lt61440
returns-then-two-lt61440 c =
    record {
      found = (
        wide_3 c.args.x c.ranges.x.fits c.if-two-ne2.false c.if-x-ne2.false c.if-two-lt57504.false
            c.if-two-lt61440.true c.if-two-eq1901.false,
        omega arith,
        omega arith,
      );
    }

pub returns : goal.returns
returns c =
    record {
      found = (
        wide_4 c.args.x c.ranges.x.fits c.if-two-ne2.false c.if-x-ne2.false c.if-x-ne2-2.false
            c.if-two-lt61584.false c.if-two-gt62607.false,
        omega arith,
        omega arith,
      );
    }
