-- Joining good shapes gives a good shape, and the shape of a good value is good. Assumes nothing.
use Prim.Native.Nat.{Ordering}
use Rattle.std.proofs.Math.Option.{Option, none, some}
use Rattle.definitions.specs.Bytes.{Bytes, order}
use Rattle.definitions.specs.Value.{Value, Items, Members}
use Rattle.definitions.specs.Shape.{Shape, Element, Record, Fields, field, nothing, find, only_null, only_bool, only_numeric, only_text, only_list, only_rec}
use Rattle.definitions.specs.Join.{with_null, add_null, put_field, join, join_element, join_record, join_fields, insert, shape_of, join_items, fields_of}
use Rattle.laws.specs.Rfc3629.{UTF8Octets}
use Rattle.laws.specs.Good.{GoodShape, good_shape, GoodElement, good_no_list, good_list_of, GoodRecord, good_no_rec, good_rec_of}
use Rattle.laws.specs.Good.{GoodFields, good_no_fields, good_field, GoodValue, good_null, good_bool, good_number, good_text}
use Rattle.laws.specs.Good.{good_list, good_rec, GoodItems, good_no_items, good_item, GoodMembers, good_no_members, good_member}

-- ---- join

pub with_null_good : {s : Shape} → GoodShape s → GoodShape (with_null s)
unfolding with_null
with_null_good (good_shape e r) = good_shape e r

add_null_good : (fs : Fields) {gs : Fields} → GoodFields gs → GoodFields (add_null fs gs)
unfolding add_null
add_null_good fs good_no_fields = good_no_fields
add_null_good fs (good_field {n} {s} u g h) = good_field u (either (find n fs)) (add_null_good fs h)
  where
    either : (o : Option Shape) → GoodShape (elim o as (λ x. Shape) [ none ↦ with_null s | some a ↦ s ])
    either none = with_null_good g
    either (some a) = g

put_field_good
    : {n : Bytes} {a : Shape} {gs : Fields} (both : Shape → Shape) → UTF8Octets n → GoodShape a
    → ((b : Shape) → GoodShape b → GoodShape (both b)) → GoodFields gs → GoodFields (put_field n a both gs)
unfolding put_field
put_field_good both u g h good_no_fields = good_field u (with_null_good g) good_no_fields
put_field_good {n} {a} both u g h (good_field {n = m} {s} {fs} v k i) = place (order n m) (put_field_good both u g h i)
  where
    place
        : (o : Ordering) → GoodFields (put_field n a both fs)
        → GoodFields
        (elim o as (λ x. Fields) [
          | Ordering.lt ↦ field n (with_null a) (field m s fs)
          | Ordering.eq ↦ field m (both s) fs
          | Ordering.gt ↦ field m s (put_field n a both fs)
        ])
    place Ordering.lt r = good_field u (with_null_good g) (good_field v k i)
    place Ordering.eq r = good_field v (h s k) i
    place Ordering.gt r = good_field v k r

mutual
  unfolding join

  join_by : {s : Shape} → GoodShape s → {t : Shape} → GoodShape t → GoodShape (join s t)
  join_by (good_shape e r) (good_shape e' r') = good_shape (join_element_good e e') (join_record_good r r')

  join_element_good : {e : Element} → GoodElement e → {d : Element} → GoodElement d → GoodElement (join_element e d)
  join_element_good good_no_list g = g
  join_element_good (good_list_of a) good_no_list = good_list_of a
  join_element_good (good_list_of a) (good_list_of b) = good_list_of (join_by a b)

  join_record_good : {r : Record} → GoodRecord r → {d : Record} → GoodRecord d → GoodRecord (join_record r d)
  join_record_good good_no_rec g = g
  join_record_good (good_rec_of fs) good_no_rec = good_rec_of fs
  join_record_good (good_rec_of fs) (good_rec_of gs) = good_rec_of (join_fields_good fs (add_null_good _ gs))

  join_fields_good : {fs : Fields} → GoodFields fs → {gs : Fields} → GoodFields gs → GoodFields (join_fields fs gs)
  join_fields_good good_no_fields g = g
  join_fields_good (good_field {s = a} u k fs) g = put_field_good (λ b. join a b) u k (λ b h. join_by k h) (join_fields_good fs g)

-- the join of good shapes is good
pub join_good : (s t : Shape) → GoodShape s → GoodShape t → GoodShape (join s t)
join_good s t g h = join_by g h

-- ---- the shape of a value

pub nothing_good : GoodShape nothing
unfolding nothing
nothing_good = good_shape good_no_list good_no_rec

pub insert_good : {n : Bytes} {a : Shape} {gs : Fields} → UTF8Octets n → GoodShape a → GoodFields gs → GoodFields (insert n a gs)
unfolding insert
insert_good u g good_no_fields = good_field u g good_no_fields
insert_good {n} {a} u g (good_field {n = m} {s} {fs} v k i) = place (order n m) (insert_good u g i)
  where
    place
        : (o : Ordering) → GoodFields (insert n a fs)
        → GoodFields
        (elim o as (λ x. Fields) [
          | Ordering.lt ↦ field n a (field m s fs)
          | Ordering.eq ↦ field n a fs
          | Ordering.gt ↦ field m s (insert n a fs)
        ])
    place Ordering.lt r = good_field u g (good_field v k i)
    place Ordering.eq r = good_field u g i
    place Ordering.gt r = good_field v k r

mutual
  unfolding shape_of only_null only_bool only_numeric only_text only_list only_rec

  shape_by : {v : Value} → GoodValue v → GoodShape (shape_of v)
  shape_by good_null = good_shape good_no_list good_no_rec
  shape_by good_bool = good_shape good_no_list good_no_rec
  shape_by (good_number x) = good_shape good_no_list good_no_rec
  shape_by (good_text u) = good_shape good_no_list good_no_rec
  shape_by (good_list vs) = good_shape (good_list_of (join_items_good vs nothing_good)) good_no_rec
  shape_by (good_rec ms) = good_shape good_no_list (good_rec_of (fields_of_good ms))

  join_items_good : {vs : Items} → GoodItems vs → {s : Shape} → GoodShape s → GoodShape (join_items vs s)
  join_items_good good_no_items g = g
  join_items_good (good_item v vs) g = join_items_good vs (join_by g (shape_by v))

  fields_of_good : {ms : Members} → GoodMembers ms → GoodFields (fields_of ms)
  fields_of_good good_no_members = good_no_fields
  fields_of_good (good_member u v ms) = insert_good u (shape_by v) (fields_of_good ms)

-- the shape of a good value is good
pub shape_of_good : (v : Value) → GoodValue v → GoodShape (shape_of v)
shape_of_good v g = shape_by g
