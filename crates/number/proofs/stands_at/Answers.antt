-- `number::stands_at` meets its contract. Assumes nothing.
use borrow.Author.Tests.{eqb-true, eqb-false, ltb-true}
use native.Mathlib.Omega.{arith}
use Rattle.number.proofs.stands_at.Goals as goal

pub returns-then-i-doc : goal.returns-then-i-doc
returns-then-i-doc c =
    record {
      inside = λ e. c.if-i-doc.true;
      here = λ e. eqb-true _ _ e;
      other = λ e h. eqb-false _ _ e;
    }

pub returns-else-i-doc : goal.returns-else-i-doc
returns-else-i-doc c =
    record {
      inside = λ e. ltb-true _ _ e;
      here = λ e. absurd (let l = ltb-true _ _ e in let z : ⊥ = omega (arith, c.if-i-doc.false, l) in z);
      other = λ e h q. omega (arith, c.if-i-doc.false, h);
    }
