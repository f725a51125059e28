-- `checking::kinds::test_kinds` meets its contract. Assumes nothing.
use mathlib.Core.Path.{sym, ◌∙◌}
use native.Mathlib.Omega.{arith}
use Rattle.checking.proofs.KindTests.{num_flags, kind_flags, no_flags, power_small}
use Rattle.checking.proofs.kinds.test_kinds.Goals as goal

pub returns-then-test-eq-NUM : goal.returns-then-test-eq-NUM
returns-then-test-eq-NUM c = record { told = λ k e. num_flags k (sym c.if-test-eq-NUM.true ∙ e); small = omega arith }

pub returns-then-test-lt7 : goal.returns-then-test-lt7
returns-then-test-lt7 c =
    record { told = kind_flags c.args.test c.if-test-eq-NUM.false; small = power_small c.args.test c.if-test-lt7.true }

pub returns-else-test-lt7 : goal.returns-else-test-lt7
returns-else-test-lt7 c = record { told = no_flags c.args.test c.if-test-lt7.false; small = omega arith }
