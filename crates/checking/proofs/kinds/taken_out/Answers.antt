-- `checking::kinds::taken_out` meets its contract. Assumes nothing.
use mathlib.Core.Path.{sym, ◌∙◌}
use Rattle.checking.proofs.KindTests.{out_told, int_stays}
use Rattle.checking.proofs.kinds.taken_out.Goals as goal
use Rattle.checking.proofs.kinds.taken_out.Goals.{else-test-eq-INT-via-then-test-eq-INT+else-has, else-test-eq-INT-via-else-test-eq-INT}

pub returns-then-has : goal.returns-then-has
returns-then-has c = record { told = int_stays c.args.kinds.kinds c.args.test c.if-test-eq-INT.true (sym c.has.ensures.told ∙ c.if-has.true) }

pub returns : goal.returns
returns c =
    record {
      told = out_told c.args.kinds.kinds c.args.test c.test_kinds.result.kinds
          (λ e.
          elim c.else-test-eq-INT.branch [
            | else-test-eq-INT-via-then-test-eq-INT+else-has w ↦ sym w.has.ensures.told ∙ w.if-has.false
            | else-test-eq-INT-via-else-test-eq-INT w ↦ absurd (w.if-test-eq-INT.false e)
          ])
          c.test_kinds.ensures.told;
    }
