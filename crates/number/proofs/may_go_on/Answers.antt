-- `number::may_go_on` meets its contract. Assumes nothing.
use native.Mathlib.Omega.{arith}
use Rattle.number.proofs.may_go_on.Goals as goal

pub returns-then-at-doc : goal.returns-then-at-doc
returns-then-at-doc c e l = c.may_follow.ensures e

pub returns-else-at-doc : goal.returns-else-at-doc
returns-else-at-doc c e l = absurd (let z : ⊥ = omega (arith, c.if-at-doc.false, l) in z)
