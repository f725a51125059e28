-- `infer::kinds::scalar_kinds` meets its contract. Assumes nothing.
use native.Mathlib.Omega.{arith}
use mathlib.Core.Path.{◌∙◌}
use Rattle.infer.proofs.Scalars.{kind_told, bits_null, bits_number, bits_text, bits_bool}
use Rattle.infer.proofs.kinds.scalar_kinds.Goals as goal

pub returns-in-0 : goal.returns-in-0
returns-in-0 c = record { told = λ p k v h b l. bits_null v (kind_told h c.row_kind.ensures.read ∙ c.in-0.is) }

pub returns-in-3 : goal.returns-in-3
returns-in-3 c =
    record {
      told = λ p k v h b l. bits_number v h b (kind_told h c.row_kind.ensures.read ∙ c.in-3.is) c.row_is_int.ensures.told
          c.number_kinds.ensures.told;
    }

pub returns-in-4 : goal.returns-in-4
returns-in-4 c = record { told = λ p k v h b l. bits_text v (kind_told h c.row_kind.ensures.read ∙ c.in-4.is) }

pub returns-in_default : goal.returns-in_default
returns-in_default c =
    record {
      told = λ p k v h b l. let e = kind_told h c.row_kind.ensures.read in
          bits_bool v e (omega (arith, l, e)) (λ x. omega (arith, x, c.in_default)) (λ x. omega (arith, x, c.in_default)) (λ x. omega (arith, x, c.in_default));
    }
