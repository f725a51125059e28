-- A value joined into a shape step by step is the join with the value's shape, for a value with distinct names and a
-- shape whose names ascend. Assumes nothing.
use Rattle.std.specs.Prelude.{◌≡◌, refl, Bool, true, not, ◌||◌}
use Rattle.std.proofs.Common.{sym, ◌∙◌, ap}
use Rattle.std.proofs.Math.Bool.{or-true, or-false}
use Rattle.definitions.specs.Bytes.{Bytes, same, found}
use Rattle.definitions.specs.Value.{Value, Items, no_items, item, Members, no_members, member, has_name}
use Rattle.definitions.specs.Shape.{Numeric, Shape, shape, Element, list_of, rec_of, Fields, no_fields, field, nothing, find, has_rec, element_of, record_of}
use Rattle.definitions.specs.Shape.{ascending, ascending_element, ascending_fields, only_bool, only_numeric, only_text}
use Rattle.definitions.specs.Join.{join_numeric, numeric_of, join, join_element, join_record, shape_of, join_items, fields_of, insert}
use Rattle.laws.specs.Bools.{and_left, and_right, and_three, and_intro}
use Rattle.laws.specs.Distinct.{distinct, distinct_items, distinct_members}
use Rattle.laws.specs.OrderInduction.{ascending_of_element, ascending_of_record}
use Rattle.laws.specs.JoinLaws.{nothing_ascending, join_nothing_right, join_null, join_assoc, join_ascending}
use Rattle.laws.specs.JoinLaws.{shape_of_ascending, numeric_nothing, element_nothing, record_nothing}
use Rattle.shapes.specs.AsMany.{AllListed}
use Rattle.growing.specs.Growing.{element_start, fields_start, member_start, place, null_others, named, in_order, join_in}
use Rattle.growing.specs.GrowingLaws.{list_is, rec_is, element_joined, element_start_ascending, apart, rising}
use Rattle.growing.specs.GrowingLaws.{named_field, place_ascending, place_same, joined_named, others_same}
use Rattle.growing.specs.GrowingLaws.{fields_start_ascending, member_start_ascending, records_joined}
use Rattle.infer.specs.Infer.{with_bool, with_numeric, with_text, infer_into, infer_items, infer_members}

-- ---- kinds

pub bool_is : (s : Shape) → join s only_bool ≡ with_bool s
unfolding join only_bool with_bool
bool_is (shape n b m t e r) =
    λ i. shape (or-false n i) (or-true b i) (numeric_nothing m i) (or-false t i) (element_nothing e i) (record_nothing r i)

pub numeric_is : (k : Numeric) (s : Shape) → join s (only_numeric k) ≡ with_numeric k s
unfolding join only_numeric with_numeric
numeric_is k (shape n b m t e r) =
    λ i. shape (or-false n i) (or-false b i) (join_numeric m k) (or-false t i) (element_nothing e i) (record_nothing r i)

pub text_is : (s : Shape) → join s only_text ≡ with_text s
unfolding join only_text with_text
text_is (shape n b m t e r) =
    λ i. shape (or-false n i) (or-false b i) (numeric_nothing m i) (or-true t i) (element_nothing e i) (record_nothing r i)

-- ---- elements: "A list's element shape is the join of its elements' shapes, from nothing"

join_items_from
    : (vs : Items) (a b : Shape) → ascending a ≡ true → ascending b ≡ true → join_items vs (join a b) ≡ join a (join_items vs b)
unfolding shape_of
join_items_from no_items a b i j = refl
join_items_from (item v vs) a b i j =
    ap (join_items vs) (join_assoc a b (shape_of v) i j (shape_of_ascending v))
    ∙ join_items_from vs a (join b (shape_of v)) i (join_ascending b (shape_of v) j (shape_of_ascending v))

join_items_nothing : (vs : Items) (a : Shape) → ascending a ≡ true → join_items vs a ≡ join a (join_items vs nothing)
join_items_nothing vs a i =
    ap (join_items vs) (sym (join_nothing_right a)) ∙ join_items_from vs a nothing i nothing_ascending

elements_joined
    : (vs : Items) (e : Element) → ascending_element e ≡ true
    → join_element e (list_of (join_items vs nothing)) ≡ list_of (join_items vs (element_start e))
elements_joined vs e i =
    element_joined e (join_items vs nothing)
    ∙ ap list_of (sym (join_items_nothing vs (element_start e) (element_start_ascending e i)))

-- ---- the members' shapes, as they come

unfoldable pub shapes_of : Members → Fields
shapes_of no_members = no_fields
shapes_of (member n v ms) = field n (shape_of v) (shapes_of ms)

shapes_in_order : (ms : Members) → in_order (shapes_of ms) ≡ fields_of ms
unfolding shapes_of in_order shape_of
shapes_in_order no_members = refl
shapes_in_order (member n v ms) = ap (insert n (shape_of v)) (shapes_in_order ms)

shapes_rising : (ms : Members) → rising (shapes_of ms) ≡ true
unfolding shapes_of rising
shapes_rising no_members = refl
shapes_rising (member n v ms) = and_intro (shape_of_ascending v) (shapes_rising ms)

shapes_named : (ms : Members) (k : Bytes) → has_name k ms ≡ named (shapes_of ms) k
unfolding shapes_of has_name named find found
shapes_named no_members k = refl
shapes_named (member n v ms) k =
    ap (λ b. same k n || b) (shapes_named ms k) ∙ sym (named_field k n (shape_of v) (shapes_of ms))

shapes_apart : (ms : Members) → distinct_members ms ≡ true → apart (shapes_of ms) ≡ true
unfolding shapes_of apart distinct
shapes_apart no_members d = refl
shapes_apart (member n v ms) d =
    let e = and_three (not (has_name n ms)) (distinct v) (distinct_members ms) d in
    and_intro (ap not (sym (shapes_named ms n)) ∙ e.0) (shapes_apart ms e.2)

-- ---- values

mutual
  unfolding infer_into shape_of distinct shapes_of join_in

  pub infer_is : (v : Value) (s : Shape) → ascending s ≡ true → distinct v ≡ true → infer_into v s ≡ join s (shape_of v)
  infer_is Value.null s i d = sym (join_null s)
  infer_is (Value.bool b) s i d = sym (bool_is s)
  infer_is (Value.number x) s i d = sym (numeric_is (numeric_of x) s)
  infer_is (Value.text t) s i d = sym (text_is s)
  infer_is (Value.list vs) s i d =
      sym
      (list_is
      (join_items vs nothing)
      s
      (infer_items vs (element_start (element_of s)))
      (elements_joined vs (element_of s) (ascending_of_element s i)
      ∙ ap list_of
      (sym
      (infer_items_is vs (element_start (element_of s)) (element_start_ascending (element_of s) (ascending_of_element s i)) d))))
  infer_is (Value.rec ms) s i d =
      let had : Bool = has_rec (record_of s) in
      let olds : Fields = fields_start (record_of s) in
      sym
      (rec_is
      (fields_of ms)
      s
      (null_others had (λ (n : Bytes). has_name n ms) (infer_members ms (member_start had) olds))
      (ap (λ fs. join_record (record_of s) (rec_of fs)) (sym (shapes_in_order ms))
      ∙ records_joined (shapes_of ms) (record_of s) (shapes_rising ms) (shapes_apart ms d) (ascending_of_record s i)
      ∙ ap rec_of
      (sym
      (others_same had (λ (n : Bytes). has_name n ms) (named (shapes_of ms)) (infer_members ms (member_start had) olds) (shapes_named ms)
      ∙ ap
      (null_others had (named (shapes_of ms)))
      (infer_members_are
      ms
      (member_start had)
      olds
      (member_start_ascending had)
      (fields_start_ascending (record_of s) (ascending_of_record s i))
      d)))))

  pub infer_items_is
      : (vs : Items) (s : Shape) → ascending s ≡ true → distinct_items vs ≡ true → infer_items vs s ≡ join_items vs s
  infer_items_is no_items s i d = refl
  infer_items_is (item v vs) s i d =
      let e : infer_into v s ≡ join s (shape_of v) = infer_is v s i (and_left (distinct v) (distinct_items vs) d) in
      ap (infer_items vs) e
      ∙ infer_items_is
      vs
      (join s (shape_of v))
      (join_ascending s (shape_of v) i (shape_of_ascending v))
      (and_right (distinct v) (distinct_items vs) d)

  pub infer_members_are
      : (ms : Members) (st : Shape) (fs : Fields) → ascending st ≡ true → ascending_fields fs ≡ true
      → distinct_members ms ≡ true → infer_members ms st fs ≡ join_in (shapes_of ms) st fs
  infer_members_are no_members st fs i j d = refl
  infer_members_are (member n v ms) st fs i j d =
      let e = and_three (not (has_name n ms)) (distinct v) (distinct_members ms) d in
      ap
      (infer_members ms st)
      (place_same n (shape_of v) st (λ s. infer_into v s) fs i j (λ s k. infer_is v s k e.1))
      ∙ infer_members_are
      ms
      st
      (place n st (λ s. join s (shape_of v)) fs)
      i
      (place_ascending n (shape_of v) st fs (shape_of_ascending v) i j)
      e.2

-- ---- names

pub infer_ascending : (v : Value) (s : Shape) → ascending s ≡ true → distinct v ≡ true → ascending (infer_into v s) ≡ true
infer_ascending v s i d = ap ascending (infer_is v s i d) ∙ join_ascending s (shape_of v) i (shape_of_ascending v)

pub placed_ascending
    : (n : Bytes) (v : Value) (st : Shape) (fs : Fields) → ascending st ≡ true → ascending_fields fs ≡ true → distinct v ≡ true
    → ascending_fields (place n st (λ s. infer_into v s) fs) ≡ true
placed_ascending n v st fs i j d =
    ap ascending_fields (place_same n (shape_of v) st (λ s. infer_into v s) fs i j (λ s k. infer_is v s k d))
    ∙ place_ascending n (shape_of v) st fs (shape_of_ascending v) i j

-- each member is listed afterwards
pub members_listed
    : (ms : Members) (st : Shape) (fs : Fields) → ascending st ≡ true → ascending_fields fs ≡ true → distinct_members ms ≡ true
    → AllListed ms (infer_members ms st fs)
unfolding named
members_listed ms st fs i j d k h =
    ap (λ gs. named gs k) (infer_members_are ms st fs i j d)
    ∙ joined_named (shapes_of ms) st fs k (shapes_rising ms) (shapes_apart ms d) i j (sym (shapes_named ms k) ∙ h)
