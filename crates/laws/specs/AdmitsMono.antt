-- What a shape admits, every shape above it admits. Assumes nothing.
use Rattle.std.specs.Prelude.{◌≡◌, refl, ◌⊎◌, true, ◌&&◌, ◌||◌}
use Rattle.std.proofs.Common.{sym, ◌∙◌, subst, inl, inr}
use Rattle.std.proofs.lemmas.Bool.{false≢true}
use Rattle.std.proofs.Math.Option.{Option, none, some}
use Rattle.definitions.specs.Bytes.{Bytes}
use Rattle.definitions.specs.Value.{Value, Items, no_items, item, Members, no_members, member, has_name}
use Rattle.definitions.specs.Shape.{Kind, Shape, Element, no_list, list_of, Record, no_rec, rec_of, Fields, has, element_of}
use Rattle.definitions.specs.Shape.{record_of, find, ascending, ascending_element, ascending_record, ascending_fields}
use Rattle.definitions.specs.Order.{below}
use Rattle.definitions.specs.Admits.{kind_of, missing_have_null, admitted, admitted_items, admitted_members, admits}
use Rattle.laws.specs.Bools.{and_left, and_right, and_intro, or_cases, or_left, or_right}
use Rattle.laws.specs.OrderInduction.{InOption, Ascending, ascending_of_element, ascending_of_record, ascending_found}
use Rattle.laws.specs.OrderParts.{Elements, AtName, Records, below_kinds, below_elements, below_records}
use Rattle.laws.specs.AdmitsParts.{admitted_by_element, admitted_by_record, admitted_by_listed}
use Rattle.laws.specs.AdmitsParts.{admitted_list, admitted_rec, admitted_member, lacked_use, lacked_intro}

-- ---- what a shape admits, every shape above it admits

element_mono
    : (vs : Items) (e f : Element) → ascending_element e ≡ true → ascending_element f ≡ true → Elements e f
    → ((a b : Shape) → Ascending a → Ascending b → below a b ≡ true → admitted_items vs a ≡ true → admitted_items vs b ≡ true)
    → admitted_by_element vs e ≡ true → admitted_by_element vs f ≡ true
unfolding ascending
element_mono vs no_list f i j v g h = absurd (false≢true h)
element_mono vs (list_of a) no_list i j v g h = absurd v
element_mono vs (list_of a) (list_of b) i j v g h = g a b i j v h

-- at a name that the value lacks
lacked_mono
    : (n : Bytes) (ms : Members) (o : Option Shape) (b : Shape) → AtName o (some b)
    → ((a : Shape) → o ≡ some a → has_name n ms || has Kind.null a ≡ true) → has_name n ms || has Kind.null b ≡ true
lacked_mono n ms none b v f = or_right (has_name n ms) v
lacked_mono n ms (some a) b v f = go (or_cases (has_name n ms) (has Kind.null a) (f a refl))
  where
    go : (has_name n ms ≡ true) ⊎ (has Kind.null a ≡ true) → has_name n ms || has Kind.null b ≡ true
    go (inl h) = or_left (has Kind.null b) h
    go (inr h) = or_right (has_name n ms) (below_kinds a b v Kind.null h)

record_mono
    : (ms : Members) (r q : Record) → ascending_record r ≡ true → ascending_record q ≡ true → Records r q
    → ((fs gs : Fields) → ascending_fields fs ≡ true → ascending_fields gs ≡ true → Records (rec_of fs) (rec_of gs)
    → admitted_members ms fs ≡ true → admitted_members ms gs ≡ true)
    → admitted_by_record ms r ≡ true → admitted_by_record ms q ≡ true
unfolding ascending
record_mono ms no_rec q i j v g h = absurd (false≢true h)
record_mono ms (rec_of fs) no_rec i j v g h = absurd v
record_mono ms (rec_of fs) (rec_of gs) i j v g h =
    and_intro
    (g fs gs i j v (and_left (admitted_members ms fs) (missing_have_null ms fs) h))
    (lacked_intro
    ms
    gs
    j
    (λ n b e.
    lacked_mono
    n
    ms
    (find n fs)
    b
    (subst (AtName (find n fs)) e (v n))
    (lacked_use ms fs (and_right (admitted_members ms fs) (missing_have_null ms fs) h) n)))

listed_mono
    : (v : Value) (o p : Option Shape) → InOption Ascending o → InOption Ascending p → AtName o p
    → ((a b : Shape) → Ascending a → Ascending b → below a b ≡ true → admitted v a ≡ true → admitted v b ≡ true)
    → admitted_by_listed v o ≡ true → admitted_by_listed v p ≡ true
listed_mono v none p i j w f h = absurd (false≢true h)
listed_mono v (some a) none i j w f h = absurd w
listed_mono v (some a) (some b) i j w f h = f a b i j w h

mutual
  unfolding admitted

  admitted_mono
      : (v : Value) (s t : Shape) → ascending s ≡ true → ascending t ≡ true → below s t ≡ true → admitted v s ≡ true
      → admitted v t ≡ true
  admitted_mono Value.null s t i j w h = below_kinds s t w Kind.null h
  admitted_mono (Value.bool b) s t i j w h = below_kinds s t w Kind.bool h
  admitted_mono (Value.number x) s t i j w h = below_kinds s t w (kind_of (Value.number x)) h
  admitted_mono (Value.text x) s t i j w h = below_kinds s t w Kind.text h
  admitted_mono (Value.list vs) s t i j w h =
      admitted_list vs t
      ∙ element_mono
      vs
      (element_of s)
      (element_of t)
      (ascending_of_element s i)
      (ascending_of_element t j)
      (below_elements s t w)
      (λ a b k l m n. items_mono vs a b k l m n)
      (sym (admitted_list vs s) ∙ h)
  admitted_mono (Value.rec ms) s t i j w h =
      admitted_rec ms t
      ∙ record_mono
      ms
      (record_of s)
      (record_of t)
      (ascending_of_record s i)
      (ascending_of_record t j)
      (below_records s t w)
      (λ fs gs k l m n. members_mono ms fs gs k l m n)
      (sym (admitted_rec ms s) ∙ h)

  items_mono
      : (vs : Items) (s t : Shape) → ascending s ≡ true → ascending t ≡ true → below s t ≡ true → admitted_items vs s ≡ true
      → admitted_items vs t ≡ true
  items_mono no_items s t i j w h = refl
  items_mono (item v vs) s t i j w h =
      and_intro
      (admitted_mono v s t i j w (and_left (admitted v s) (admitted_items vs s) h))
      (items_mono vs s t i j w (and_right (admitted v s) (admitted_items vs s) h))

  members_mono
      : (ms : Members) (fs gs : Fields) → ascending_fields fs ≡ true → ascending_fields gs ≡ true
      → Records (rec_of fs) (rec_of gs) → admitted_members ms fs ≡ true → admitted_members ms gs ≡ true
  members_mono no_members fs gs i j w h = refl
  members_mono (member n v ms) fs gs i j w h =
      let k : admitted_by_listed v (find n fs) && admitted_members ms fs ≡ true = sym (admitted_member n v ms fs) ∙ h in
      admitted_member n v ms gs
      ∙ and_intro
      (listed_mono
      v
      (find n fs)
      (find n gs)
      (ascending_found fs i n)
      (ascending_found gs j n)
      (w n)
      (λ a b l m p q. admitted_mono v a b l m p q)
      (and_left (admitted_by_listed v (find n fs)) (admitted_members ms fs) k))
      (members_mono ms fs gs i j w (and_right (admitted_by_listed v (find n fs)) (admitted_members ms fs) k))

pub admits_mono
    : (s t : Shape) (v : Value) → ascending s ≡ true → ascending t ≡ true → below s t ≡ true → admits s v ≡ true
    → admits t v ≡ true
unfolding admits
admits_mono s t v = admitted_mono v s t
