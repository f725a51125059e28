-- `number::digits::digits_end` meets its contract. The loop's invariant is what it ensures, up to here. Assumes nothing.
use native.Mathlib.Omega.{arith}
use lib.Count.{leading_le}
use Rattle.number.proofs.DigitRuns.{no_digit, digits_join}
use Rattle.number.proofs.DigitLanes.{eight_more, some_more}
use Rattle.number.proofs.digits.digits_end.Goals as goal

pub loop-i-init : goal.loop-i-init
loop-i-init c = no_digit c.requires

pub overflow_sub-doc : goal.overflow_sub-doc
overflow_sub-doc c = c.loop-i.invariant.within

pub word_at-requires : goal.word_at-requires
word_at-requires c = omega (arith, c.loop-i.invariant.within, c.loop-i-test.true)

pub overflow_cast-result : goal.overflow_cast-result
overflow_cast-result c = omega (arith, leading_le 64 c.not_digits-others.result)

pub overflow_add-result : goal.overflow_add-result
overflow_add-result c =
    omega (arith, c.loop-i.invariant.within, leading_le 64 c.not_digits-others.result)

pub returns-then-others-ne0 : goal.returns-then-others-ne0
returns-then-others-ne0 c =
    digits_join c.loop-i.invariant
    (some_more c.word_at.result c.word_at.ensures.packed
    (omega (arith, c.loop-i.invariant.within, c.loop-i-test.true)) c.not_digits-others.ensures (omega arith)
    (omega (arith, c.if-others-ne0.true)))

pub overflow_add-i : goal.overflow_add-i
overflow_add-i c =
    omega (arith, c.loop-i.invariant.within, c.loop-i-test.true)

pub loop-i-smaller : goal.loop-i-smaller
loop-i-smaller c =
    omega (arith, c.loop-i.invariant.within, c.loop-i-test.true)

pub loop-i-preserved : goal.loop-i-preserved
loop-i-preserved c =
    digits_join c.loop-i.invariant
    (eight_more c.word_at.result c.word_at.ensures.packed
    (omega (arith, c.loop-i.invariant.within, c.loop-i-test.true)) c.not_digits-others.ensures c.if-others-ne0.false)

pub slow_end-requires : goal.slow_end-requires
slow_end-requires c = c.loop-i.invariant.within

pub returns : goal.returns
returns c = digits_join c.loop-i.invariant c.slow_end.ensures
