-- A shape that admits a value is above the shape of the value. Assumes nothing.
use Rattle.std.specs.Prelude.{◌≡◌, refl, Bool, true, false, ◌&&◌, ◌||◌}
use Rattle.std.proofs.Common.{sym, ◌∙◌, ap}
use Rattle.std.proofs.lemmas.Bool.{false≢true}
use Rattle.std.proofs.Math.Option.{Option, none, some}
use Rattle.definitions.specs.Bytes.{Bytes}
use Rattle.definitions.specs.Number.{Number, is_int}
use Rattle.definitions.specs.Value.{Value, Items, no_items, item, Members, no_members, member}
use Rattle.definitions.specs.Shape.{Kind, all_kinds, every, Shape, shape, Element, no_list, list_of, Record, no_rec, rec_of, Fields, nothing}
use Rattle.definitions.specs.Shape.{only_null, only_bool, only_numeric, only_text, only_list, only_rec, int_only, int_and_dec, has, has_int, has_dec}
use Rattle.definitions.specs.Shape.{has_list, has_rec, element_of, record_of, find, ascending, ascending_element, ascending_record, ascending_fields}
use Rattle.definitions.specs.Order.{kinds_in, below}
use Rattle.definitions.specs.Join.{join, numeric_of, shape_of, join_items, fields_of}
use Rattle.definitions.specs.Admits.{kind_of, missing_have_null, admitted, admitted_items, admitted_members, admits}
use Rattle.laws.specs.Bools.{and_left, and_right, and_intro}
use Rattle.laws.specs.Fields.{none_some, find_none}
use Rattle.laws.specs.Distinct.{distinct}
use Rattle.laws.specs.OrderInduction.{InOption, Ascending, ascending_of_element, ascending_of_record, ascending_found}
use Rattle.laws.specs.OrderParts.{Elements, AtName, Records, at_name, records_intro}
use Rattle.laws.specs.OrderLaws.{nothing_below}
use Rattle.laws.specs.JoinLaws.{join_ascending, join_least, nothing_ascending, shape_of_ascending, fields_of_ascending}
use Rattle.laws.specs.AdmitsParts.{admitted_by_element, admitted_by_record, admitted_by_listed, admitted_list}
use Rattle.laws.specs.AdmitsParts.{admitted_rec, admitted_member, lacked_use, found_shape, shape_cases}
use Rattle.laws.proofs.ShapeKinds.{int_with_dec}

-- ---- shapes of one kind

number_below : (x : Number) (s : Shape) → has (kind_of (Value.number x)) s ≡ true → below (only_numeric (numeric_of x)) s ≡ true
unfolding kind_of numeric_of below only_numeric kinds_in every all_kinds has has_int has_dec has_list has_rec
number_below x s h = go (is_int x) h
  where
    go
        : (b : Bool) → has (elim b as (λ c. Kind) [ true ↦ Kind.int | false ↦ Kind.dec ]) s ≡ true
        → below (only_numeric (elim b [ true ↦ int_only | false ↦ int_and_dec ])) s ≡ true
    go true i = and_intro (and_intro (and_intro i refl) refl) refl
    go false i = and_intro (and_intro (and_intro (int_with_dec s i) (and_intro i refl)) refl) refl

list_below : (a s : Shape) → Elements (list_of a) (element_of s) → below (only_list (list_of a)) s ≡ true
unfolding below only_list kinds_in every all_kinds has has_int has_dec has_list has_rec element_of
list_below a (shape n b m t no_list r) h = absurd h
list_below a (shape n b m t (list_of e) r) h = and_intro h refl

rec_below
    : (fs : Fields) (s : Shape) → ascending_fields fs ≡ true → ascending s ≡ true → Records (rec_of fs) (record_of s)
    → below (only_rec (rec_of fs)) s ≡ true
unfolding below only_rec kinds_in every all_kinds has has_int has_dec has_list has_rec record_of ascending
rec_below fs (shape n b m t e no_rec) i j h = absurd h
rec_below fs (shape n b m t e (rec_of gs)) i j h =
    records_intro (rec_of fs) (rec_of gs) i (ascending_of_record (shape n b m t e (rec_of gs)) j) h

-- ---- values

listed_below
    : (v : Value) (o : Option Shape) → InOption Ascending o
    → ((s : Shape) → Ascending s → admitted v s ≡ true → below (shape_of v) s ≡ true) → admitted_by_listed v o ≡ true
    → AtName (some (shape_of v)) o
listed_below v none i f h = absurd (false≢true h)
listed_below v (some s) i f h = f s i h

-- the elements' shape from that of each
list_admitted_below
    : (vs : Items) (s : Shape) → ascending s ≡ true
    → ((e : Shape) → Ascending e → admitted_items vs e ≡ true → below (join_items vs nothing) e ≡ true)
    → admitted_by_element vs (element_of s) ≡ true → Elements (list_of (join_items vs nothing)) (element_of s)
unfolding ascending
list_admitted_below vs s i f h = go (element_of s) (ascending_of_element s i) h
  where
    go
        : (e : Element) → ascending_element e ≡ true → admitted_by_element vs e ≡ true
        → Elements (list_of (join_items vs nothing)) e
    go no_list j k = absurd (false≢true k)
    go (list_of e) j k = f e j k

-- the members' shapes from that of each
rec_admitted_below
    : (ms : Members) (r : Record) → ascending_record r ≡ true
    → ((fs : Fields) → ascending_fields fs ≡ true → admitted_members ms fs ≡ true → (n : Bytes) (a : Shape)
    → find n (fields_of ms) ≡ some a → AtName (some a) (find n fs))
    → admitted_by_record ms r ≡ true → Records (rec_of (fields_of ms)) r
unfolding ascending
rec_admitted_below ms no_rec i f h = absurd (false≢true h)
rec_admitted_below ms (rec_of fs) i f h = λ n.
    at_name
    (find n (fields_of ms))
    (find n fs)
    (f fs i (and_left (admitted_members ms fs) (missing_have_null ms fs) h) n)
    (λ b e.
    ap (λ x. x || has Kind.null b) (found_shape n ms)
    ∙ lacked_use ms fs (and_right (admitted_members ms fs) (missing_have_null ms fs) h) n b e)

mutual
  unfolding admitted shape_of below only_null only_bool only_text kinds_in every all_kinds has has_int has_dec has_list has_rec

  -- distinct names are not needed for this direction
  pub admitted_below : (v : Value) (s : Shape) → ascending s ≡ true → admitted v s ≡ true → below (shape_of v) s ≡ true
  admitted_below Value.null s i h = and_intro (and_intro (and_intro h refl) refl) refl
  admitted_below (Value.bool b) s i h = and_intro (and_intro (and_intro h refl) refl) refl
  admitted_below (Value.number x) s i h = number_below x s h
  admitted_below (Value.text t) s i h = and_intro (and_intro (and_intro h refl) refl) refl
  admitted_below (Value.list vs) s i h =
      list_below
      (join_items vs nothing)
      s
      (list_admitted_below
      vs
      s
      i
      (λ e j k. items_below vs nothing e nothing_ascending j (nothing_below e) k)
      (sym (admitted_list vs s) ∙ h))
  admitted_below (Value.rec ms) s i h =
      rec_below
      (fields_of ms)
      s
      (fields_of_ascending ms)
      i
      (rec_admitted_below
      ms
      (record_of s)
      (ascending_of_record s i)
      (λ fs j k n a e. members_below ms fs j k n a e)
      (sym (admitted_rec ms s) ∙ h))

  items_below
      : (vs : Items) (s e : Shape) → ascending s ≡ true → ascending e ≡ true → below s e ≡ true → admitted_items vs e ≡ true
      → below (join_items vs s) e ≡ true
  items_below no_items s e i j w h = w
  items_below (item v vs) s e i j w h =
      let k : ascending (shape_of v) ≡ true = shape_of_ascending v in
      items_below
      vs
      (join s (shape_of v))
      e
      (join_ascending s (shape_of v) i k)
      j
      (join_least
      s
      (shape_of v)
      e
      i
      k
      j
      w
      (admitted_below v e j (and_left (admitted v e) (admitted_items vs e) h)))
      (and_right (admitted v e) (admitted_items vs e) h)

  members_below
      : (ms : Members) (fs : Fields) → ascending_fields fs ≡ true → admitted_members ms fs ≡ true → (n : Bytes) (a : Shape)
      → find n (fields_of ms) ≡ some a → AtName (some a) (find n fs)
  members_below no_members fs i h n a e = none_some (find_none n) e
  members_below (member m v ms) fs i h n a e =
      let k : admitted_by_listed v (find m fs) && admitted_members ms fs ≡ true = sym (admitted_member m v ms fs) ∙ h in
      shape_cases
      (λ x b. AtName (some b) (find x fs))
      m
      v
      ms
      (listed_below
      v
      (find m fs)
      (ascending_found fs i m)
      (λ s p q. admitted_below v s p q)
      (and_left (admitted_by_listed v (find m fs)) (admitted_members ms fs) k))
      (λ x b p. members_below ms fs i (and_right (admitted_by_listed v (find m fs)) (admitted_members ms fs) k) x b p)
      n
      a
      e

pub admits_below
    : (s : Shape) (v : Value) → distinct v ≡ true → ascending s ≡ true → admits s v ≡ true → below (shape_of v) s ≡ true
unfolding admits
admits_below s v d i h = admitted_below v s i h
