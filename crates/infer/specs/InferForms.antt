-- Joining a value into a shape takes no form away, at no step: where a table can't hold what a step leads to, it can't hold
-- what is reached in the end. Assumes nothing.
use Rattle.std.specs.Prelude.{◌≤◌, ◌≡◌, refl, Bool}
use Rattle.std.proofs.Common.{le_refl, arith}
use Rattle.definitions.specs.Bytes.{Bytes}
use Rattle.definitions.specs.Number.{Number}
use Rattle.definitions.specs.Value.{Value, Items, no_items, item, Members, no_members, member, has_name}
use Rattle.definitions.specs.Shape.{Shape, shape, Fields, has_rec, element_of, record_of, forms, forms_fields}
use Rattle.definitions.specs.Join.{numeric_of}
use Rattle.laws.specs.FieldsPut.{forms_with_null}
use Rattle.growing.specs.Growing.{element_start, fields_start, member_start, place, null_others}
use Rattle.growing.specs.GrowingForms.{forms_by, forms_with_element, forms_with_fields, forms_start, forms_fields_start, forms_place, forms_others}
use Rattle.infer.specs.Infer.{with_bool, with_numeric, with_text, infer_into, infer_items, infer_members}

-- ---- values

forms_bool : (s : Shape) → forms (with_bool s) ≡ forms s
unfolding forms with_bool
forms_bool (shape n b m t e r) = refl

forms_text : (s : Shape) → forms (with_text s) ≡ forms s
unfolding forms with_text
forms_text (shape n b m t e r) = refl

forms_numeric : (x : Number) (s : Shape) → forms s ≤ forms (with_numeric (numeric_of x) s)
unfolding forms with_numeric
forms_numeric x (shape n b m t e r) = omega arith

mutual
  unfolding infer_into

  pub forms_infer : (v : Value) (s : Shape) → forms s ≤ forms (infer_into v s)
  forms_infer Value.null s = omega (arith, forms_with_null s)
  forms_infer (Value.bool b) s = omega (arith, forms_bool s)
  forms_infer (Value.number x) s = forms_numeric x s
  forms_infer (Value.text t) s = omega (arith, forms_text s)
  forms_infer (Value.list vs) s =
      omega (
        arith,
        forms_by s,
        forms_with_element (infer_items vs (element_start (element_of s))) s,
        forms_start (element_of s),
        forms_infer_items vs (element_start (element_of s)),
      )
  forms_infer (Value.rec ms) s =
      let had : Bool = has_rec (record_of s) in
      omega (
        arith,
        forms_by s,
        forms_with_fields
            (null_others had (λ (n : Bytes). has_name n ms) (infer_members ms (member_start had) (fields_start (record_of s))))
            s,
        forms_others had (λ (n : Bytes). has_name n ms) (infer_members ms (member_start had) (fields_start (record_of s))),
        forms_fields_start (record_of s),
        forms_infer_members ms (member_start had) (fields_start (record_of s)),
      )

  pub forms_infer_items : (vs : Items) (s : Shape) → forms s ≤ forms (infer_items vs s)
  forms_infer_items no_items s = le_refl (forms s)
  forms_infer_items (item v vs) s = omega (arith, forms_infer v s, forms_infer_items vs (infer_into v s))

  pub forms_infer_members : (ms : Members) (st : Shape) (fs : Fields) → forms_fields fs ≤ forms_fields (infer_members ms st fs)
  forms_infer_members no_members st fs = le_refl (forms_fields fs)
  forms_infer_members (member n v ms) st fs =
      omega (
        arith,
        forms_place n st (λ s. infer_into v s) (λ s. forms_infer v s) fs,
        forms_infer_members ms st (place n st (λ s. infer_into v s) fs),
      )
