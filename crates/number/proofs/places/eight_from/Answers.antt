-- `number::places::eight_from` meets its contract. Assumes nothing.
use native.Mathlib.Omega.{arith}
use Rattle.number.proofs.DigitGroups.{from_low, from_low_middle, from_middle, from_middle_high, from_high}
use Rattle.number.proofs.places.eight_from.Goals as goal

pub returns-then-k-eq0 : goal.returns-then-k-eq0
returns-then-k-eq0 c n b = from_low b c.args.k c.if-k-eq0.true

pub returns-then-k-lt8 : goal.returns-then-k-lt8
returns-then-k-lt8 c n b =
    from_low_middle b c.args.k (omega arith) (omega arith)

pub returns-then-k-eq8 : goal.returns-then-k-eq8
returns-then-k-eq8 c n b = from_middle b c.args.k c.if-k-eq8.true

pub returns-then-k-lt16 : goal.returns-then-k-lt16
returns-then-k-lt16 c n b =
    from_middle_high b c.args.k (omega arith) (omega arith) (omega arith)

pub returns : goal.returns
returns c n b =
    from_high b c.args.k (omega arith) (omega arith)
