-- `running::kinds::is_wanted` meets its contract. Assumes nothing.
use native.Mathlib.Omega.{arith}
use mathlib.Core.Path.{refl, ◌∙◌}
use Rattle.definitions.specs.Reader.{Test}
use Rattle.forms.specs.Forms.{test_code}
use Rattle.running.specs.KindLaws.{wants_int, wants_dec, wants_bool, wants_text, wants_list, wants_any}
use Rattle.running.proofs.kinds.is_wanted.Goals as goal

pub returns-in-3 : goal.returns-in-3
unfolding test_code
returns-in-3 c = record { told = λ p v f b e. c.is_kind.ensures.told p v Test.int b refl ∙ wants_int f v (e ∙ c.in-3.is) }

pub returns-in-4 : goal.returns-in-4
unfolding test_code
returns-in-4 c = record { told = λ p v f b e. c.is_kind-in-4.ensures.told p v Test.num b refl ∙ wants_dec f v (e ∙ c.in-4.is) }

pub returns-in-5 : goal.returns-in-5
unfolding test_code
returns-in-5 c = record { told = λ p v f b e. c.is_kind-in-5.ensures.told p v Test.bool b refl ∙ wants_bool f v (e ∙ c.in-5.is) }

pub returns-in-6 : goal.returns-in-6
unfolding test_code
returns-in-6 c = record { told = λ p v f b e. c.is_kind-in-6.ensures.told p v Test.text b refl ∙ wants_text f v (e ∙ c.in-6.is) }

pub returns-in-8 : goal.returns-in-8
returns-in-8 c =
    record { told = λ p v f b e. c.is_list.ensures.told p v b ∙ wants_list f v (omega (arith, e)) (omega (arith, e)) }

pub returns-in_default : goal.returns-in_default
returns-in_default c =
    record {
      told = λ p v f b e. wants_any f v (λ g. omega (arith, e, g)) (λ g. omega (arith, e, g)) (λ g. omega (arith, e, g)) (λ g. omega (arith, e, g))
          (λ g. omega (arith, e, g)) (λ g. omega (arith, e, g));
    }

pub returns-in_default-2 : goal.returns-in_default-2
returns-in_default-2 c =
    record {
      told = λ p v f b e. wants_any f v (λ g. omega (arith, e, g)) (λ g. omega (arith, e, g)) (λ g. omega (arith, e, g)) (λ g. omega (arith, e, g))
          (λ g. omega (arith, e, g)) (λ g. omega (arith, e, g));
    }
