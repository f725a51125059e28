-- `running::kinds::is_kind` meets its contract. Assumes nothing.
use native.Mathlib.Omega.{arith}
use mathlib.Core.Path.{sym, ap, ◌∙◌}
use lib.Dec.{eqb}
use Rattle.nodes.specs.Nodes.{kind_code}
use Rattle.running.specs.KindLaws.{says_int, says_number, says_true, says_not}
use Rattle.running.specs.BindingsLaws.{bound_kind, bound_number}
use Rattle.running.proofs.kinds.is_kind.Goals as goal

pub returns-in-3 : goal.returns-in-3
returns-in-3 c =
    record {
      told = λ p v k b e. says_int v k (sym (c.row_kind.ensures.read ∙ bound_kind b) ∙ c.in-3.is) (e ∙ c.if-test-eq-INT.true)
          (λ x f. c.row_is_int.ensures.told x (bound_number x b f));
    }

pub returns-in-3-2 : goal.returns-in-3-2
returns-in-3-2 c =
    record {
      told = λ p v k b e. ap (λ t. eqb t 3) (sym e)
          ∙ says_number v k (sym (c.row_kind.ensures.read ∙ bound_kind b) ∙ c.in-3.is) (λ f. c.if-test-eq-INT.false (sym e ∙ f));
    }

pub returns-in-2 : goal.returns-in-2
returns-in-2 c =
    record { told = λ p v k b e. ap (λ t. eqb t 1) (sym e) ∙ says_true v k (sym (c.row_kind.ensures.read ∙ bound_kind b) ∙ c.in-2.is) }

pub returns-in_default : goal.returns-in_default
returns-in_default c =
    record {
      told = λ p v k b e. ap (λ t. eqb t c.args.test) (c.row_kind.ensures.read ∙ bound_kind b)
          ∙ ap (λ t. eqb (kind_code v) t) (sym e)
          ∙ says_not v k (λ f. omega (arith, c.row_kind.ensures.read, bound_kind b, f)) (λ f. omega (arith, c.row_kind.ensures.read, bound_kind b, f));
    }
