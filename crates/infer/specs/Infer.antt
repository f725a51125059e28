-- A value joined into a shape step by step, as the table's rows are changed: each part of the value is joined into the
-- part of the shape where it belongs. `InferLaws` says that this is the join with the value's shape. Assumes nothing.
use Rattle.std.specs.Prelude.{true}
use Rattle.definitions.specs.Bytes.{Bytes}
use Rattle.definitions.specs.Value.{Value, Items, no_items, item, Members, no_members, member, has_name}
use Rattle.definitions.specs.Shape.{Numeric, Shape, shape, Fields, has_rec, element_of, record_of}
use Rattle.definitions.specs.Join.{with_null, join_numeric, numeric_of}
use Rattle.growing.specs.Growing.{with_element, with_fields, element_start, fields_start, member_start, place, null_others}

-- ---- a kind added

unfoldable pub with_bool : Shape → Shape
with_bool (shape n b m t e r) = shape n true m t e r

unfoldable pub with_numeric : Numeric → Shape → Shape
with_numeric k (shape n b m t e r) = shape n b (join_numeric m k) t e r

unfoldable pub with_text : Shape → Shape
with_text (shape n b m t e r) = shape n b m true e r

-- ---- values

unfoldable mutual
  pub infer_into : Value → Shape → Shape
  infer_into Value.null s = with_null s
  infer_into (Value.bool b) s = with_bool s
  infer_into (Value.number x) s = with_numeric (numeric_of x) s
  infer_into (Value.text t) s = with_text s
  infer_into (Value.list vs) s = with_element (infer_items vs (element_start (element_of s))) s
  infer_into (Value.rec ms) s =
      with_fields
      (null_others
      (has_rec (record_of s))
      (λ (n : Bytes). has_name n ms)
      (infer_members ms (member_start (has_rec (record_of s))) (fields_start (record_of s))))
      s

  -- the elements one after the other
  pub infer_items : Items → Shape → Shape
  infer_items no_items s = s
  infer_items (item v vs) s = infer_items vs (infer_into v s)

  -- the members one after the other
  pub infer_members : Members → Shape → Fields → Fields
  infer_members no_members start fs = fs
  infer_members (member n v ms) start fs = infer_members ms start (place n start (λ s. infer_into v s) fs)
