-- `running::kinds::is_list` meets its contract. Assumes nothing.
use native.Mathlib.Omega.{arith}
use mathlib.Core.Path.{sym, ap, ◌∙◌}
use lib.Dec.{eqb}
use Rattle.running.specs.KindLaws.{says_list, says_null}
use Rattle.running.specs.BindingsLaws.{bound_kind}
use Rattle.running.proofs.kinds.is_list.Goals as goal

pub returns-in-0 : goal.returns-in-0
returns-in-0 c = record { told = λ p v b. says_null v (sym (c.row_kind.ensures.read ∙ bound_kind b) ∙ c.in-0.is) }

pub returns-in_default : goal.returns-in_default
returns-in_default c =
    record {
      told = λ p v b. ap (λ t. eqb t 5) (c.row_kind.ensures.read ∙ bound_kind b)
          ∙ says_list v (λ f. omega (arith, c.row_kind.ensures.read, bound_kind b, f));
    }
