-- `admits::kind_bit` meets its contract: each return is that of one kind. Assumes nothing.
use native.Mathlib.Omega.{arith}
use mathlib.Core.Path.{sym, ap, ◌∙◌}
use Rattle.nodes.specs.StandingLaws.{value_head}
use Rattle.admits.proofs.KindBits.{bit_told, code_told, number_bit, number_told}
use Rattle.admits.proofs.kind_bit.Goals as goal

pub returns-in-0 : goal.returns-in-0
returns-in-0 c = record {
  told = λ p k v h b. (bit_told v).as_null (sym (code_told v c.row_kind.ensures.read (value_head h))
      ∙ c.in-0.is);
}

pub returns-in-1 : goal.returns-in-1
returns-in-1 c =
    record {
      told = λ p k v h b. let code = code_told v c.row_kind.ensures.read (value_head h) in
          (bit_told v).as_bool (omega (arith, code, c.in-1)) (omega (arith, code, c.in-1));
    }

pub returns-in-3 : goal.returns-in-3
returns-in-3 c =
    record {
      told = λ p k v h b. ap number_bit (sym c.if-row_is_int.true)
          ∙ number_told v (sym (code_told v c.row_kind.ensures.read (value_head h)) ∙ c.in-3.is) c.row_is_int.ensures.told h b;
    }

pub returns-in-3-2 : goal.returns-in-3-2
returns-in-3-2 c =
    record {
      told = λ p k v h b. ap number_bit (sym c.if-row_is_int.false)
          ∙ number_told v (sym (code_told v c.row_kind.ensures.read (value_head h)) ∙ c.in-3.is) c.row_is_int.ensures.told h b;
    }

pub returns-in-4 : goal.returns-in-4
returns-in-4 c = record {
  told = λ p k v h b. (bit_told v).as_text (sym (code_told v c.row_kind.ensures.read (value_head h))
      ∙ c.in-4.is);
}

pub returns-in-5 : goal.returns-in-5
returns-in-5 c = record {
  told = λ p k v h b. (bit_told v).as_list (sym (code_told v c.row_kind.ensures.read (value_head h))
      ∙ c.in-5.is);
}

pub returns-in_default : goal.returns-in_default
returns-in_default c =
    record {
      told = λ p k v h b. (bit_told v).as_rec (omega (arith, code_told v c.row_kind.ensures.read (value_head h), c.in_default));
    }
