-- `text::wide::past_wides` meets its contract. The loop's invariant: the first m bytes of the word stand for themselves. The measure is how many
-- are left of five. Assumes nothing.
use Rattle.text.proofs.Stands.{front_next}
use native.Mathlib.Omega.{arith}
use Rattle.text.proofs.wide.past_wides.Goals as goal

pub loop-m-init : goal.loop-m-init
loop-m-init c = c.requires

pub overflow_add-m : goal.overflow_add-m
overflow_add-m c = omega (arith, c.loop-m-test.true, c.in-Some.ensures.found.2)

pub loop-m-smaller : goal.loop-m-smaller
loop-m-smaller c = omega (arith, c.loop-m-test.true, c.in-Some.ensures.found.1)

pub loop-m-preserved : goal.loop-m-preserved
loop-m-preserved c =
    let e = c.in-Some.ensures.found in
    front_next c.loop-m.invariant c.loop-m-test.true e.2 e.0
