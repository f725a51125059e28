-- Which members of a record a shape admits, name by name, and the shape of a record at each name. Assumes nothing.
use Rattle.std.specs.Prelude.{◌≡◌, refl, ◌⊎◌, Bool, true, false, ◌&&◌, ◌||◌}
use Rattle.std.proofs.Common.{sym, ◌∙◌, ap, subst, inl, inr}
use Rattle.std.proofs.Math.Option.{Option, none, some}
use Rattle.definitions.specs.Bytes.{Bytes, same, found}
use Rattle.definitions.specs.Value.{Value, Items, Members, no_members, member, has_name}
use Rattle.definitions.specs.Shape.{Kind, Shape, Element, no_list, list_of, Record, no_rec}
use Rattle.definitions.specs.Shape.{rec_of, Fields, no_fields, field, has, element_of, record_of, find, ascending_fields}
use Rattle.definitions.specs.Join.{shape_of, fields_of}
use Rattle.definitions.specs.Admits.{missing_have_null, admitted, admitted_items, admitted_members}
use Rattle.laws.specs.Bools.{and_left, and_right, and_intro, tell, clash}
use Rattle.laws.specs.Names.{same_eq}
use Rattle.laws.specs.Fields.{none_some, some_same, find_first, find_none, find_rest, find_cases, ascending_rest}
use Rattle.laws.specs.FieldsPut.{find_insert_here, find_insert_there}
use Rattle.laws.specs.JoinLaws.{fields_of_ascending}

-- ---- the parts of `admitted`

-- the elements are admitted by the element shape there is
abbrev pub admitted_by_element : Items → Element → Bool
admitted_by_element vs no_list = false
admitted_by_element vs (list_of e) = admitted_items vs e

-- the members are admitted by the record there is
abbrev pub admitted_by_record : Members → Record → Bool
admitted_by_record ms no_rec = false
admitted_by_record ms (rec_of fs) = admitted_members ms fs && missing_have_null ms fs

-- the value is admitted by the shape listed
abbrev pub admitted_by_listed : Value → Option Shape → Bool
admitted_by_listed v none = false
admitted_by_listed v (some s) = admitted v s

pub admitted_list : (vs : Items) (s : Shape) → admitted (Value.list vs) s ≡ admitted_by_element vs (element_of s)
unfolding admitted
admitted_list vs s = go (element_of s)
  where
    go : (e : Element) → elim e as (λ x. Bool) [ no_list ↦ false | list_of f ↦ admitted_items vs f ] ≡ admitted_by_element vs e
    go no_list = refl
    go (list_of e) = refl

pub admitted_rec : (ms : Members) (s : Shape) → admitted (Value.rec ms) s ≡ admitted_by_record ms (record_of s)
unfolding admitted
admitted_rec ms s = go (record_of s)
  where
    go
        : (r : Record)
        → elim r as (λ x. Bool) [ no_rec ↦ false | rec_of fs ↦ admitted_members ms fs && missing_have_null ms fs ]
        ≡ admitted_by_record ms r
    go no_rec = refl
    go (rec_of fs) = refl

pub admitted_member
    : (n : Bytes) (v : Value) (ms : Members) (fs : Fields)
    → admitted_members (member n v ms) fs ≡ admitted_by_listed v (find n fs) && admitted_members ms fs
unfolding admitted
admitted_member n v ms fs = go (find n fs)
  where
    go
        : (o : Option Shape)
        → elim o as (λ x. Bool) [ none ↦ false | some s ↦ admitted v s ] && admitted_members ms fs
        ≡ admitted_by_listed v o && admitted_members ms fs
    go none = refl
    go (some s) = refl

-- ---- "every listed member that the value lacks has null"

pub lacked_use
    : (ms : Members) (fs : Fields) → missing_have_null ms fs ≡ true → (n : Bytes) (s : Shape) → find n fs ≡ some s
    → has_name n ms || has Kind.null s ≡ true
unfolding missing_have_null
lacked_use ms no_fields h = λ n s e. none_some (find_none n) e
lacked_use ms (field m s fs) h =
    find_cases
    (λ n a. has_name n ms || has Kind.null a ≡ true)
    m
    s
    fs
    (and_left (has_name m ms || has Kind.null s) (missing_have_null ms fs) h)
    (lacked_use ms fs (and_right (has_name m ms || has Kind.null s) (missing_have_null ms fs) h))

pub lacked_intro
    : (ms : Members) (fs : Fields) → ascending_fields fs ≡ true
    → ((n : Bytes) (s : Shape) → find n fs ≡ some s → has_name n ms || has Kind.null s ≡ true) → missing_have_null ms fs ≡ true
unfolding missing_have_null
lacked_intro ms no_fields h f = refl
lacked_intro ms (field m s fs) h f =
    and_intro (f m s (find_first m s fs)) (lacked_intro ms fs (ascending_rest m s fs h) (λ n a e. f n a (find_rest n m s a fs h e)))

-- ---- the shape of a record

pub find_shape_here
    : (n m : Bytes) (v : Value) (ms : Members) → same n m ≡ true → find n (fields_of (member m v ms)) ≡ some (shape_of v)
unfolding shape_of
find_shape_here n m v ms e =
    ap (λ k. find k (fields_of (member m v ms))) (same_eq n m e)
    ∙ find_insert_here m (shape_of v) (fields_of ms) (fields_of_ascending ms)

pub find_shape_there
    : (n m : Bytes) (v : Value) (ms : Members) → same n m ≡ false → find n (fields_of (member m v ms)) ≡ find n (fields_of ms)
unfolding shape_of
find_shape_there n m v ms e = find_insert_there n m (shape_of v) (fields_of ms) e

-- it holds just the names of the record
pub found_shape : (n : Bytes) (ms : Members) → found (find n (fields_of ms)) ≡ has_name n ms
unfolding shape_of find found has_name
found_shape n no_members = refl
found_shape n (member m v ms) = go (found_shape n ms) (tell (same n m))
  where
    go
        : found (find n (fields_of ms)) ≡ has_name n ms → (same n m ≡ true) ⊎ (same n m ≡ false)
        → found (find n (fields_of (member m v ms))) ≡ has_name n (member m v ms)
    go f (inl e) = ap found (find_shape_here n m v ms e) ∙ sym (ap (λ b. b || has_name n ms) e)
    go f (inr e) = ap found (find_shape_there n m v ms e) ∙ f ∙ sym (ap (λ b. b || has_name n ms) e)

-- what it holds at any name: the first member's shape, or what the others give
pub shape_cases
    : (P : Bytes → Shape → Type 0) (m : Bytes) (v : Value) (ms : Members) → P m (shape_of v)
    → ((n : Bytes) (a : Shape) → find n (fields_of ms) ≡ some a → P n a) → (n : Bytes) (a : Shape)
    → find n (fields_of (member m v ms)) ≡ some a → P n a
shape_cases P m v ms first rest n a e = go (tell (same n m))
  where
    go : (same n m ≡ true) ⊎ (same n m ≡ false) → P n a
    go (inl h) =
        subst
        (λ (k : Bytes). P k a)
        (sym (same_eq n m h))
        (subst (P m) (some_same (find_shape_here n m v ms h) e) first)
    go (inr h) = rest n a (sym (find_shape_there n m v ms h) ∙ e)

-- a name that the others lack is not hidden by them, and hides none of theirs
pub find_shape_rest
    : (n m : Bytes) (v : Value) (ms : Members) (a : Shape) → has_name m ms ≡ false → find n (fields_of ms) ≡ some a
    → find n (fields_of (member m v ms)) ≡ some a
unfolding found
find_shape_rest n m v ms a h e = go (tell (same n m))
  where
    go : (same n m ≡ true) ⊎ (same n m ≡ false) → find n (fields_of (member m v ms)) ≡ some a
    go (inl i) =
        clash (ap found e) (found_shape n ms ∙ ap (λ k. has_name k ms) (same_eq n m i) ∙ h)
    go (inr i) = find_shape_there n m v ms i ∙ e
