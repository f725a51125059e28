-- A shape that grows in place, part by part: an element joined into its element, members placed among its members, null for
-- those that are lacked. `GrowingLaws` says that this is a join. Assumes nothing.
use Prim.Native.Nat.{Ordering}
use Rattle.std.specs.Prelude.{Bool, true, false}
use Rattle.definitions.specs.Bytes.{Bytes, order, found}
use Rattle.definitions.specs.Shape.{Shape, shape, Element, no_list, list_of, Record, no_rec, rec_of}
use Rattle.definitions.specs.Shape.{Fields, no_fields, field, nothing, only_null, find}
use Rattle.definitions.specs.Join.{with_null, insert, join}

-- ---- a part added

-- list with this element, in the place of the one there is
unfoldable pub with_element : Shape → Shape → Shape
with_element a (shape n b m t e r) = shape n b m t (list_of a) r

-- rec with these members, in the place of those there are
unfoldable pub with_fields : Fields → Shape → Shape
with_fields fs (shape n b m t e r) = shape n b m t e (rec_of fs)

-- ---- where the parts begin

-- the element that elements are joined into: "from nothing"
unfoldable pub element_start : Element → Shape
element_start no_list = nothing
element_start (list_of a) = a

unfoldable pub fields_start : Record → Fields
fields_start no_rec = no_fields
fields_start (rec_of fs) = fs

-- what a new member is joined into: null, where there was rec before
unfoldable pub member_start : Bool → Shape
member_start false = nothing
member_start true = only_null

-- ---- members

-- f of the member of this name; a new one takes its place in byte order, where it is f of a start
unfoldable pub place : Bytes → Shape → (Shape → Shape) → Fields → Fields
place n start f no_fields = field n (f start) no_fields
place n start f (field m b gs) =
    elim (order n m) [
      | Ordering.lt ↦ field n (f start) (field m b gs)
      | Ordering.eq ↦ field m (f b) gs
      | Ordering.gt ↦ field m b (place n start f gs)
    ]

-- a member with null added, unless it is there
unfoldable pub null_if_lacked : Bool → Shape → Shape
null_if_lacked true s = s
null_if_lacked false s = with_null s

-- null added to the members whose names are not there
unfoldable pub null_lacked : (Bytes → Bool) → Fields → Fields
null_lacked there no_fields = no_fields
null_lacked there (field n s fs) = field n (null_if_lacked (there n) s) (null_lacked there fs)

-- "where one has rec, its members unchanged"
unfoldable pub null_others : Bool → (Bytes → Bool) → Fields → Fields
null_others false there fs = fs
null_others true there fs = null_lacked there fs

-- ---- members in any order

-- a member of this name is there
unfoldable pub named : Fields → Bytes → Bool
named fs n = found (find n fs)

-- the members in their places in byte order
unfoldable pub in_order : Fields → Fields
in_order no_fields = no_fields
in_order (field n a fs) = insert n a (in_order fs)

-- the first ones joined into the second ones, one after the other
unfoldable pub join_in : Fields → Shape → Fields → Fields
join_in no_fields start gs = gs
join_in (field n a fs) start gs = join_in fs start (place n start (λ s. join s a) gs)
