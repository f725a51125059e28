-- `number::digits::slow_end` meets its contract. The loop's invariant is what it ensures, up to here. Assumes nothing.
use native.Mathlib.Omega.{arith}
use mathlib.Core.Path.{◌≡◌, sym, ◌∙◌, subst}
use lib.ListN.{length}
use Rattle.number.specs.NumberCode.{AllDigits}
use Rattle.number.proofs.DigitRuns.{no_digit, digits_join, one_digit}
use Rattle.number.proofs.digits.slow_end.Goals as goal

pub loop-i-init : goal.loop-i-init
loop-i-init c = no_digit c.requires

pub returns-then-not-is_digit : goal.returns-then-not-is_digit
returns-then-not-is_digit c = c.loop-i.invariant

pub loop-i-preserved : goal.loop-i-preserved
loop-i-preserved c =
    digits_join c.loop-i.invariant (one_digit c.loop-i-test.true (sym c.is_digit.ensures ∙ c.if-not-is_digit.false))

pub returns : goal.returns
returns c =
    let h = c.loop-i.invariant in
    let end : c.loop-i.i ≡ length c.args.doc.now = omega (arith, h.within, c.loop-i-test.false) in
    subst (AllDigits c.args.doc.now c.args.at) end h
