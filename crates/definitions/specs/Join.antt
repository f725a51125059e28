-- The join of two shapes, and the shape of a value. Assumes nothing.
use Prim.Native.Nat.{Ordering}
use Rattle.std.specs.Prelude.{true, false, ◌||◌}
use Rattle.std.proofs.Math.Option.{none, some}
use Rattle.definitions.specs.Bytes.{Bytes, order}
use Rattle.definitions.specs.Number.{Number, is_int}
use Rattle.definitions.specs.Value.{Value, Items, no_items, item, Members, no_members, member}
use Rattle.definitions.specs.Shape.{Numeric, no_number, int_only, int_and_dec, Shape, shape, Element, no_list, list_of, Record, no_rec, rec_of}
use Rattle.definitions.specs.Shape.{Fields, no_fields, field, nothing, find, only_null, only_bool, only_numeric, only_text, only_list, only_rec}

-- ---- join

-- the shape with null added
unfoldable pub with_null : Shape → Shape
with_null (shape n b m t e r) = shape true b m t e r

-- int and dec united
unfoldable pub join_numeric : Numeric → Numeric → Numeric
join_numeric no_number m = m
join_numeric int_only no_number = int_only
join_numeric int_only int_only = int_only
join_numeric int_only int_and_dec = int_and_dec
join_numeric int_and_dec m = int_and_dec

-- the second's members, those that the first lacks with null added
unfoldable pub add_null : Fields → Fields → Fields
add_null fs no_fields = no_fields
add_null fs (field n b gs) = field n (elim (find n fs) [ none ↦ with_null b | some a ↦ b ]) (add_null fs gs)

-- a member a among others: one of its name is joined with it by `both`, else "a new name takes its place in byte order
-- and the later ones move up", with null added
unfoldable pub put_field : Bytes → Shape → (Shape → Shape) → Fields → Fields
put_field n a both no_fields = field n (with_null a) no_fields
put_field n a both (field m b gs) =
    elim (order n m) [
      | Ordering.lt ↦ field n (with_null a) (field m b gs)
      | Ordering.eq ↦ field m (both b) gs
      | Ordering.gt ↦ field m b (put_field n a both gs)
    ]

-- "Kinds united; elements joined where both have list, else the one there is; where both have rec, members in both
-- joined, a member of only one kept with null added; where one has rec, its members unchanged."
unfoldable mutual
  pub join : Shape → Shape → Shape
  join (shape n b m t e r) s =
      elim s
      [ shape n' b' m' t' e' r' ↦ shape (n || n') (b || b') (join_numeric m m') (t || t') (join_element e e') (join_record r r') ]

  -- "elements joined where both have list, else the one there is"
  pub join_element : Element → Element → Element
  join_element no_list e = e
  join_element (list_of a) e = elim e [ no_list ↦ list_of a | list_of b ↦ list_of (join a b) ]

  -- "where one has rec, its members unchanged"
  pub join_record : Record → Record → Record
  join_record no_rec r = r
  join_record (rec_of fs) r = elim r [ no_rec ↦ rec_of fs | rec_of gs ↦ rec_of (join_fields fs (add_null fs gs)) ]

  -- the first's members put one by one among the second's
  pub join_fields : Fields → Fields → Fields
  join_fields no_fields gs = gs
  join_fields (field n a fs) gs = put_field n a (λ b. join a b) (join_fields fs gs)

-- ---- the shape of a value

-- a member in its place in byte order
unfoldable pub insert : Bytes → Shape → Fields → Fields
insert n a no_fields = field n a no_fields
insert n a (field m b gs) =
    elim (order n m) [
      | Ordering.lt ↦ field n a (field m b gs)
      | Ordering.eq ↦ field n a gs
      | Ordering.gt ↦ field m b (insert n a gs)
    ]

-- "(a decimal has int and dec)"
unfoldable pub numeric_of : Number → Numeric
numeric_of x = elim (is_int x) [ true ↦ int_only | false ↦ int_and_dec ]

-- "A scalar has its kind (a decimal has int and dec). A list's element shape is the join of its elements' shapes, from
-- nothing. A record has rec and its members' shapes."
unfoldable mutual
  pub shape_of : Value → Shape
  shape_of Value.null = only_null
  shape_of (Value.bool b) = only_bool
  shape_of (Value.number x) = only_numeric (numeric_of x)
  shape_of (Value.text t) = only_text
  shape_of (Value.list vs) = only_list (list_of (join_items vs nothing))
  shape_of (Value.rec ms) = only_rec (rec_of (fields_of ms))

  -- the join of the shape at hand and of each element's shape, in order
  pub join_items : Items → Shape → Shape
  join_items no_items s = s
  join_items (item v vs) s = join_items vs (join s (shape_of v))

  -- the members' shapes, in byte order
  pub fields_of : Members → Fields
  fields_of no_members = no_fields
  fields_of (member n v ms) = insert n (shape_of v) (fields_of ms)
