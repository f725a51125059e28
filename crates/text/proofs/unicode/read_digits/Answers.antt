-- `text::unicode::read_digits` meets its contract. The loop's invariant: n digits are read (`DigitsSoFar`). Assumes nothing.
use mathlib.Core.Path.{sym, ap, ◌∙◌}
use Rattle.text.specs.TextParts.{hex_value}
use Rattle.text.proofs.Digits.{so_far_small, digit_small, digits_start, digits_next, digits_wrong, digits_unfit, digits_done}
use native.Mathlib.Omega.{arith}
use Rattle.text.proofs.unicode.read_digits.Goals as goal

pub loop-n-init : goal.loop-n-init
loop-n-init c = let a = c.args in digits_start a.doc.now a.at a.low c.requires

pub returns-in_default : goal.returns-in_default
returns-in_default c =
    record {
      read = let l = c.loop-n in
          let a = c.args in
          digits_wrong a.doc.now a.at a.low l.n l.c l.invariant c.loop-n-test.true
          (sym (c.in_default.ensures.valued ∙ ap hex_value c.peek.ensures.read));
    }

pub returns-then-not-digit_fits : goal.returns-then-not-digit_fits
returns-then-not-digit_fits c =
    record {
      read = let l = c.loop-n in
          let a = c.args in
          digits_unfit a.doc.now a.at a.low l.n l.c l.invariant c.loop-n-test.true
          (sym (c.in-Some.ensures.valued ∙ ap hex_value c.peek.ensures.read)) (sym c.if-not-digit_fits.ensures.judged);
    }

pub overflow_mul-c : goal.overflow_mul-c
overflow_mul-c c =
    let l = c.loop-n in
    let a = c.args in
    omega (arith, so_far_small a.low l.n l.c l.invariant.range)

pub overflow_add-c : goal.overflow_add-c
overflow_add-c c =
    let l = c.loop-n in
    let a = c.args in
    omega (arith, so_far_small a.low l.n l.c l.invariant.range, digit_small c.peek.result (sym c.in-Some.ensures.valued))

pub loop-n-preserved : goal.loop-n-preserved
loop-n-preserved c =
    let l = c.loop-n in
    let a = c.args in
    digits_next a.doc.now a.at a.low l.n l.c l.invariant c.loop-n-test.true
    (sym (c.in-Some.ensures.valued ∙ ap hex_value c.peek.ensures.read)) (sym c.if-not-digit_fits.ensures.judged)

pub returns : goal.returns
returns c =
    record {
      read = let a = c.args in
          digits_done a.doc.now a.at a.low c.loop-n.n c.loop-n.c c.loop-n.invariant c.loop-n-test.false;
    }
