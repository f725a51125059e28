-- `text::unicode::digit_fits` meets its contract: a lemma of `Digits` for each answer. Assumes nothing.
use mathlib.Core.Bool.{true, false, not}
use mathlib.Core.Path.{refl, ap, ◌∙◌}
use borrow.Author.Tests.{ne_eqb}
use Rattle.text.proofs.Digits.{fits_low_first, fits_low_second, fits_alone, fits_second, fits_other, fits_later, fits_at}
use native.Mathlib.Omega.{arith}
use Rattle.text.proofs.unicode.digit_fits.Goals as goal

pub returns-in-true-eq0 : goal.returns-in-true-eq0
returns-in-true-eq0 c =
    record {
      judged = let a = c.args in
          fits_at a.low true a.n 0 a.c a.d c.in-true-eq0.is-0 c.in-true-eq0.is-1 (fits_low_first a.c a.d);
    }

pub returns-in-true-eq1 : goal.returns-in-true-eq1
returns-in-true-eq1 c =
    record {
      judged = let a = c.args in
          fits_at a.low true a.n 1 a.c a.d c.in-true-eq1.is-0 c.in-true-eq1.is-1 (fits_low_second a.c a.d);
    }

pub returns-then-c-ne13 : goal.returns-then-c-ne13
returns-then-c-ne13 c =
    record {
      judged = let a = c.args in
          let e = c.if-c-ne13.true in
          fits_at a.low false a.n 1 a.c a.d c.in-false-eq1.is-0 c.in-false-eq1.is-1 (ap not (ne_eqb a.c 13 e) ∙ fits_other a.c a.d e);
    }

pub returns-else-c-ne13 : goal.returns-else-c-ne13
returns-else-c-ne13 c =
    record {
      judged = let a = c.args in
          fits_at a.low false a.n 1 a.c a.d c.in-false-eq1.is-0 c.in-false-eq1.is-1 (fits_second a.c a.d c.if-c-ne13.false);
    }

pub returns-in_default : goal.returns-in_default
returns-in_default c = record { judged = let a = c.args in fits_later a.low a.n a.c a.d (grind arith) }

pub returns-in_default-2 : goal.returns-in_default-2
returns-in_default-2 c =
    record { judged = let a = c.args in fits_at a.low false a.n a.n a.c a.d c.in_default.is-0 refl (fits_alone a.n a.c a.d (grind arith)) }
