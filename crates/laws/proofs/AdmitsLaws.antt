-- A shape admits a value with distinct names exactly where the shape of the value is below it. Assumes nothing.
use Rattle.std.specs.Prelude.{◌≡◌, refl, Bool, true, false, not, ◌&&◌, ◌||◌}
use Rattle.std.proofs.Common.{sym, ◌∙◌, ap, subst}
use Rattle.std.proofs.Math.Option.{Option, none, some}
use Rattle.definitions.specs.Bytes.{Bytes}
use Rattle.definitions.specs.Number.{Number, is_int}
use Rattle.definitions.specs.Value.{Value, Items, no_items, item, Members, no_members, member, has_name}
use Rattle.definitions.specs.Shape.{Kind, Shape, Element, no_list, list_of, Record, no_rec, rec_of, Fields, nothing, only_null, only_bool}
use Rattle.definitions.specs.Shape.{only_numeric, only_text, only_list, only_rec, int_only, int_and_dec, has, has_int, has_dec}
use Rattle.definitions.specs.Shape.{element_of, record_of, find, ascending, ascending_element, ascending_record, ascending_fields}
use Rattle.definitions.specs.Order.{below}
use Rattle.definitions.specs.Join.{join, numeric_of, shape_of, join_items, fields_of}
use Rattle.definitions.specs.Admits.{kind_of, admitted, admitted_items, admitted_members, admits}
use Rattle.laws.specs.Bools.{and_left, and_right, and_intro, not_true}
use Rattle.laws.specs.Names.{same_refl}
use Rattle.laws.specs.Distinct.{distinct, distinct_items, distinct_members}
use Rattle.laws.specs.OrderInduction.{InOption, Ascending, ascending_of_element, ascending_of_record, ascending_found}
use Rattle.laws.specs.OrderParts.{Elements, AtName, Records, below_kinds, below_elements, below_records, lacking_at}
use Rattle.laws.specs.OrderLaws.{below_refl, below_trans}
use Rattle.laws.specs.JoinLaws.{join_ascending, join_upper_left, join_upper_right, nothing_ascending, shape_of_ascending, join_items_ascending}
pub use Rattle.laws.specs.AdmitsMono.{admits_mono}
pub use Rattle.laws.proofs.AdmitsBelow.{admits_below}
use Rattle.laws.specs.AdmitsParts.{admitted_by_element, admitted_by_record, admitted_by_listed, admitted_list, admitted_rec}
use Rattle.laws.specs.AdmitsParts.{admitted_member, lacked_intro, find_shape_here, found_shape, find_shape_rest}

-- ---- join

pub admits_join_left
    : (s t : Shape) (v : Value) → ascending s ≡ true → ascending t ≡ true → admits s v ≡ true → admits (join s t) v ≡ true
admits_join_left s t v i j = admits_mono s (join s t) v i (join_ascending s t i j) (join_upper_left s t i j)

pub admits_join_right
    : (s t : Shape) (v : Value) → ascending s ≡ true → ascending t ≡ true → admits t v ≡ true → admits (join s t) v ≡ true
admits_join_right s t v i j = admits_mono t (join s t) v j (join_ascending s t i j) (join_upper_right s t i j)

-- ---- a shape above the shape of a value with distinct names admits it

listed_admits
    : (v : Value) (o : Option Shape) → InOption Ascending o
    → ((s : Shape) → Ascending s → below (shape_of v) s ≡ true → admitted v s ≡ true) → AtName (some (shape_of v)) o
    → admitted_by_listed v o ≡ true
listed_admits v none i f h = absurd h
listed_admits v (some s) i f h = f s i h

element_admits
    : (vs : Items) (e : Element) → ascending_element e ≡ true
    → ((a : Shape) → Ascending a → below (join_items vs nothing) a ≡ true → admitted_items vs a ≡ true)
    → Elements (list_of (join_items vs nothing)) e → admitted_by_element vs e ≡ true
unfolding ascending
element_admits vs no_list i f h = absurd h
element_admits vs (list_of a) i f h = f a i h

record_admits
    : (ms : Members) (r : Record) → ascending_record r ≡ true
    → ((fs : Fields) → ascending_fields fs ≡ true
    → ((n : Bytes) (a : Shape) → find n (fields_of ms) ≡ some a → AtName (some a) (find n fs))
    → admitted_members ms fs ≡ true)
    → Records (rec_of (fields_of ms)) r → admitted_by_record ms r ≡ true
unfolding ascending
record_admits ms no_rec i f h = absurd h
record_admits ms (rec_of fs) i f h =
    and_intro
    (f fs i (λ n a e. subst (λ (o : Option Shape). AtName o (find n fs)) e (h n)))
    (lacked_intro
    ms
    fs
    i
    (λ n b e.
    ap (λ x. x || has Kind.null b) (sym (found_shape n ms))
    ∙ lacking_at (find n (fields_of ms)) b (subst (AtName (find n (fields_of ms))) e (h n))))

-- the join grows with each element
items_upper : (vs : Items) (s : Shape) → ascending s ≡ true → below s (join_items vs s) ≡ true
unfolding shape_of
items_upper no_items s i = below_refl s i
items_upper (item v vs) s i =
    let k : ascending (shape_of v) ≡ true = shape_of_ascending v in
    let j : ascending (join s (shape_of v)) ≡ true = join_ascending s (shape_of v) i k in
    below_trans
    s
    (join s (shape_of v))
    (join_items vs (join s (shape_of v)))
    i
    j
    (join_items_ascending vs (join s (shape_of v)) j)
    (join_upper_left s (shape_of v) i k)
    (items_upper vs (join s (shape_of v)) j)

-- a number's shape has its kind
number_kind : (x : Number) → has (kind_of (Value.number x)) (only_numeric (numeric_of x)) ≡ true
unfolding kind_of numeric_of has has_int has_dec only_numeric
number_kind x = go (is_int x)
  where
    go
        : (b : Bool)
        → has
        (elim b as (λ c. Kind) [ true ↦ Kind.int | false ↦ Kind.dec ])
        (only_numeric (elim b [ true ↦ int_only | false ↦ int_and_dec ]))
        ≡ true
    go true = refl
    go false = refl

mutual
  unfolding admitted shape_of distinct only_null only_bool only_text only_list only_rec has element_of record_of

  below_admitted
      : (v : Value) (s : Shape) → distinct v ≡ true → ascending s ≡ true → below (shape_of v) s ≡ true → admitted v s ≡ true
  below_admitted Value.null s d i h = below_kinds only_null s h Kind.null refl
  below_admitted (Value.bool b) s d i h = below_kinds only_bool s h Kind.bool refl
  below_admitted (Value.number x) s d i h =
      below_kinds (only_numeric (numeric_of x)) s h (kind_of (Value.number x)) (number_kind x)
  below_admitted (Value.text t) s d i h = below_kinds only_text s h Kind.text refl
  below_admitted (Value.list vs) s d i h =
      admitted_list vs s
      ∙ element_admits
      vs
      (element_of s)
      (ascending_of_element s i)
      (λ e j k. below_items vs nothing e d nothing_ascending j k)
      (below_elements (only_list (list_of (join_items vs nothing))) s h)
  below_admitted (Value.rec ms) s d i h =
      admitted_rec ms s
      ∙ record_admits
      ms
      (record_of s)
      (ascending_of_record s i)
      (λ fs j f. below_members ms fs d j f)
      (below_records (only_rec (rec_of (fields_of ms))) s h)

  below_items
      : (vs : Items) (s e : Shape) → distinct_items vs ≡ true → ascending s ≡ true → ascending e ≡ true
      → below (join_items vs s) e ≡ true → admitted_items vs e ≡ true
  below_items no_items s e d i j h = refl
  below_items (item v vs) s e d i j h =
      let k : ascending (shape_of v) ≡ true = shape_of_ascending v in
      let l : ascending (join s (shape_of v)) ≡ true = join_ascending s (shape_of v) i k in
      and_intro
      (below_admitted
      v
      e
      (and_left (distinct v) (distinct_items vs) d)
      j
      (below_trans
      (shape_of v)
      (join s (shape_of v))
      e
      k
      l
      j
      (join_upper_right s (shape_of v) i k)
      (below_trans
      (join s (shape_of v))
      (join_items vs (join s (shape_of v)))
      e
      l
      (join_items_ascending vs (join s (shape_of v)) l)
      j
      (items_upper vs (join s (shape_of v)) l)
      h)))
      (below_items vs (join s (shape_of v)) e (and_right (distinct v) (distinct_items vs) d) l j h)

  below_members
      : (ms : Members) (fs : Fields) → distinct_members ms ≡ true → ascending_fields fs ≡ true
      → ((n : Bytes) (a : Shape) → find n (fields_of ms) ≡ some a → AtName (some a) (find n fs))
      → admitted_members ms fs ≡ true
  below_members no_members fs d i f = refl
  below_members (member m v ms) fs d i f =
      let p : not (has_name m ms) && distinct v ≡ true =
      and_left (not (has_name m ms) && distinct v) (distinct_members ms) d in
      let q : has_name m ms ≡ false =
      not_true (has_name m ms) (and_left (not (has_name m ms)) (distinct v) p) in
      admitted_member m v ms fs
      ∙ and_intro
      (listed_admits
      v
      (find m fs)
      (ascending_found fs i m)
      (λ s j k. below_admitted v s (and_right (not (has_name m ms)) (distinct v) p) j k)
      (f m (shape_of v) (find_shape_here m m v ms (same_refl m))))
      (below_members
      ms
      fs
      (and_right (not (has_name m ms) && distinct v) (distinct_members ms) d)
      i
      (λ n a e. f n a (find_shape_rest n m v ms a q e)))

pub below_admits
    : (s : Shape) (v : Value) → distinct v ≡ true → ascending s ≡ true → below (shape_of v) s ≡ true → admits s v ≡ true
unfolding admits
below_admits s v d i h = below_admitted v s d i h

pub shape_of_admits : (v : Value) → distinct v ≡ true → admits (shape_of v) v ≡ true
shape_of_admits v d = below_admits (shape_of v) v d (shape_of_ascending v) (below_refl (shape_of v) (shape_of_ascending v))
