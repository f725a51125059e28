-- The three literal names, and the bytes that begin none of them. Assumes nothing.
use Prim.Native.Nat.{ℕ}
use mathlib.Core.Path.{◌≡◌, refl, sym, ◌∙◌}
use mathlib.Core.Bool.{true, false}
use mathlib.Core.List.{[], ◌∷◌}
use native.Mathlib.Omega.{arith}
use Rattle.definitions.specs.Bytes.{bytes, look, between, white, white_table, found}
use Rattle.definitions.specs.Value.{Value, size}
use Rattle.definitions.specs.Plain.{plain, plain_bool}
use Rattle.definitions.specs.Json.{true_name, false_name, null_name, value_rows, spell}
use Rattle.nodes.specs.Nodes.{kind_code, number_bits, null_row, bool_row}
use Rattle.number.proofs.Rows.{looked, nowhere, past_one}
use Rattle.json_reader.specs.JsonParts.{Literal, NoRow, ScalarByte}

pub true_literal : Literal (116 ∷ 114 ∷ 117 ∷ 101 ∷ []) 2
unfolding value_rows look between spell true_name false_name null_name bytes plain plain_bool kind_code number_bits size white white_table found
true_literal =
    record {
      value = Value.bool true;
      begins = λ o. refl;
      spelled = refl;
      wrote = refl;
      code = refl;
      bits = refl;
      single = refl;
      row = λ p m. bool_row;
      visible = refl;
      byte = omega arith;
    }

pub false_literal : Literal (102 ∷ 97 ∷ 108 ∷ 115 ∷ 101 ∷ []) 1
unfolding value_rows look between spell true_name false_name null_name bytes plain plain_bool kind_code number_bits size white white_table found
false_literal =
    record {
      value = Value.bool false;
      begins = λ o. refl;
      spelled = refl;
      wrote = refl;
      code = refl;
      bits = refl;
      single = refl;
      row = λ p m. bool_row;
      visible = refl;
      byte = omega arith;
    }

pub null_literal : Literal (110 ∷ 117 ∷ 108 ∷ 108 ∷ []) 0
unfolding value_rows look between spell true_name false_name null_name bytes plain kind_code number_bits size white white_table found
null_literal =
    record {
      value = Value.null;
      begins = λ o. refl;
      spelled = refl;
      wrote = refl;
      code = refl;
      bits = refl;
      single = refl;
      row = λ p m. null_row;
      visible = refl;
      byte = omega arith;
    }

-- a byte that begins no text, no literal name, no list and no record
pub only_number
    : {x b : ℕ} → b ≡ x → ScalarByte x → (b ≡ 0x22 → ⊥) → (b ≡ 0x74 → ⊥) → (b ≡ 0x66 → ⊥) → (b ≡ 0x6E → ⊥) → NoRow x
unfolding value_rows
only_number {x} {b} e s q t f n =
    record {
      visible = s.visible;
      no_value = λ o.
          sym
          (looked
          (past_one (λ z. q (e ∙ z))
          (past_one s.no_list
          (past_one s.no_record
          (past_one (λ z. t (e ∙ z)) (past_one (λ z. f (e ∙ z)) (past_one (λ z. n (e ∙ z)) nowhere)))))));
    }
