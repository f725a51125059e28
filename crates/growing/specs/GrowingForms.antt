-- How many forms a shape that grows in place has: no step takes one away. Assumes nothing.
use Prim.Native.Nat.{Ordering, ◌+◌, ◌≤◌}
use Rattle.std.specs.Prelude.{◌≡◌, refl, Bool, true, false}
use Rattle.std.proofs.Common.{ap, arith}
use Rattle.definitions.specs.Bytes.{Bytes, order}
use Rattle.definitions.specs.Shape.{Shape, shape, Element, no_list, list_of, Record, no_rec, rec_of, Fields, no_fields, field}
use Rattle.definitions.specs.Shape.{nothing, only_null, element_of, record_of, forms, forms_element, forms_record, forms_fields}
use Rattle.laws.specs.FieldsPut.{forms_with_null}
use Rattle.growing.specs.Growing.{with_element, with_fields, element_start, fields_start, member_start, place, null_if_lacked, null_lacked, null_others}

-- ---- kinds

pub forms_by : (s : Shape) → forms s ≡ 1 + (forms_element (element_of s) + forms_record (record_of s))
unfolding forms element_of record_of
forms_by (shape n b m t e r) = omega arith

pub forms_with_element : (a s : Shape) → forms (with_element a s) ≡ 1 + (forms a + forms_record (record_of s))
unfolding forms with_element record_of
forms_with_element a (shape n b m t e r) = omega arith

pub forms_with_fields : (fs : Fields) (s : Shape) → forms (with_fields fs s) ≡ 1 + (forms_element (element_of s) + forms_fields fs)
unfolding forms with_fields element_of
forms_with_fields fs (shape n b m t e r) = omega arith

pub forms_nothing : forms nothing ≡ 1
unfolding forms nothing
forms_nothing = refl

pub forms_start : (e : Element) → forms_element e ≤ forms (element_start e)
unfolding forms element_start nothing
forms_start no_list = omega arith
forms_start (list_of a) = omega arith

pub forms_fields_start : (r : Record) → forms_fields (fields_start r) ≡ forms_record r
unfolding forms fields_start
forms_fields_start no_rec = refl
forms_fields_start (rec_of fs) = refl

pub forms_member_start : (had : Bool) → forms (member_start had) ≡ 1
unfolding member_start forms nothing only_null
forms_member_start false = refl
forms_member_start true = refl

pub forms_some : (s : Shape) → 1 ≤ forms s
unfolding forms
forms_some (shape n b m t e r) = omega arith

-- ---- members

pub place_lt
    : (n : Bytes) (st : Shape) (f : Shape → Shape) (m : Bytes) (b : Shape) (gs : Fields) → order n m ≡ Ordering.lt
    → place n st f (field m b gs) ≡ field n (f st) (field m b gs)
unfolding place
place_lt n st f m b gs e = rw (e, place)

pub place_eq
    : (n : Bytes) (st : Shape) (f : Shape → Shape) (m : Bytes) (b : Shape) (gs : Fields) → order n m ≡ Ordering.eq
    → place n st f (field m b gs) ≡ field m (f b) gs
unfolding place
place_eq n st f m b gs e = rw (e, place)

pub place_gt
    : (n : Bytes) (st : Shape) (f : Shape → Shape) (m : Bytes) (b : Shape) (gs : Fields) → order n m ≡ Ordering.gt
    → place n st f (field m b gs) ≡ field m b (place n st f gs)
unfolding place
place_gt n st f m b gs e = rw (e, place)

pub forms_place
    : (n : Bytes) (st : Shape) (f : Shape → Shape) → ((s : Shape) → forms s ≤ forms (f s)) → (fs : Fields)
    → forms_fields fs ≤ forms_fields (place n st f fs)
unfolding forms place
forms_place n st f h no_fields = omega arith
forms_place n st f h (field m b gs) = go (forms_place n st f h gs) (order n m) refl
  where
    go
        : forms_fields gs ≤ forms_fields (place n st f gs) → (o : Ordering) → order n m ≡ o
        → forms_fields (field m b gs) ≤ forms_fields (place n st f (field m b gs))
    go i Ordering.lt e = omega (arith, ap forms_fields (place_lt n st f m b gs e))
    go i Ordering.eq e = omega (arith, ap forms_fields (place_eq n st f m b gs e), h b)
    go i Ordering.gt e = omega (arith, ap forms_fields (place_gt n st f m b gs e))

forms_if_lacked : (b : Bool) (s : Shape) → forms (null_if_lacked b s) ≡ forms s
unfolding null_if_lacked
forms_if_lacked true s = refl
forms_if_lacked false s = forms_with_null s

pub forms_lacked : (there : Bytes → Bool) (fs : Fields) → forms_fields (null_lacked there fs) ≡ forms_fields fs
unfolding forms null_lacked
forms_lacked there no_fields = refl
forms_lacked there (field n s fs) = omega (arith, forms_if_lacked (there n) s, forms_lacked there fs)

pub forms_others : (had : Bool) (there : Bytes → Bool) (fs : Fields) → forms_fields (null_others had there fs) ≡ forms_fields fs
unfolding null_others
forms_others false there fs = refl
forms_others true there fs = forms_lacked there fs
