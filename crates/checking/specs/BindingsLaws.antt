-- Laws of bindings. Assumes nothing.
use Rattle.std.specs.Prelude.{ℕ, zero, suc, ◌+◌, ◌/◌, ◌%◌, ◌≤◌, ◌<◌, ◌≡◌, refl, Bool, true, false, List, ◌∷◌, length, get_or, take, set}
use Rattle.std.proofs.Common.{sym, ap, ◌∙◌, le_refl, arith, length-set, get_or-take, get_or-set_same}
use Rattle.std.proofs.Math.Option.{some}
use Rattle.std.proofs.lemmas.List.{take-set-le}
use Rattle.definitions.specs.Bytes.{Bytes}
use Rattle.definitions.specs.Shape.{Kind, Shape, shape, no_list, list_of, Record, no_rec, rec_of, Fields, no_fields, field, nothing, find}
use Rattle.definitions.specs.Shape.{element_of, record_of, ascending, ascending_element, ascending_fields, levels, levels_fields, has_list, has_rec}
use Rattle.definitions.specs.Reader.{Test}
use Rattle.definitions.specs.Join.{with_null}
use Rattle.definitions.specs.Checking.{gain_null, stay, cut_to, taken_out, element_shape}
use Rattle.laws.specs.Bools.{and_left, and_right, clash}
use Rattle.laws.specs.Fields.{none_some, find_cases, find_none, find_ascending}
use Rattle.shapes.specs.Shapes.{bit, numeric_bits, kind_bits, Stands, FieldsStand, members_at, size_at}
use Rattle.shapes.specs.ShapesLaws.{stands_kinds, stands_element, stands_members}
use Rattle.forms.specs.Forms.{slot}
use Rattle.checking.specs.KindSets.{stay_element_of, stay_record_of}
use Rattle.checking.specs.Bindings.{Bound, binding, Bindings, Kept, Binds}

-- ---- what is left of a shape

pub bound_whole
    : {shapes p : List ℕ} {deep row m : ℕ} {s : Shape} → Stands shapes p row m s → ascending s ≡ true → levels s ≤ deep
    → Bound shapes p deep row (kind_bits s) s
bound_whole {m} {s} h a l =
    record {
      name = m;
      base = s;
      stands = h;
      left = refl;
      element = λ x e. e;
      members = λ fs e. e;
      ascends = a;
      nests = l;
    }

-- the kinds as the table has them
pub bound_row
    : {shapes p : List ℕ} {deep row m : ℕ} {s : Shape} → Stands shapes p row m s → ascending s ≡ true → levels s ≤ deep
    → Bound shapes p deep row (get_or shapes row 0 % 128) s
bound_row {shapes} {p} {deep} {row} {s} h a l = rw (stands_kinds h) (bound_whole h a l)

pub bound_nothing : {shapes p : List ℕ} {deep row kinds : ℕ} {s : Shape} → Bound shapes p deep row kinds s → Bound shapes p deep row 0 nothing
unfolding nothing kind_bits bit numeric_bits has_list has_rec element_of record_of
bound_nothing h =
    record {
      name = h.name;
      base = h.base;
      stands = h.stands;
      left = refl;
      element = λ x e. clash {b = false} (ap has_list e) refl;
      members = λ fs e. clash {b = false} (ap has_rec e) refl;
      ascends = h.ascends;
      nests = h.nests;
    }

gain_element : (b : Bool) (s : Shape) → element_of (gain_null b s) ≡ element_of s
unfolding gain_null with_null element_of
gain_element true (shape n b m t e r) = refl
gain_element false s = refl

gain_record : (b : Bool) (s : Shape) → record_of (gain_null b s) ≡ record_of s
unfolding gain_null with_null record_of
gain_record true (shape n b m t e r) = refl
gain_record false s = refl

bound_stay
    : {shapes p : List ℕ} {deep row kinds : ℕ} {s : Shape} (kept : Kind → Bool) → Bound shapes p deep row kinds s
    → Bound shapes p deep row (kind_bits (stay kept s)) (stay kept s)
bound_stay {s} kept h =
    record {
      name = h.name;
      base = h.base;
      stands = h.stands;
      left = refl;
      element = λ x e. h.element x (stay_element_of kept s x e);
      members = λ fs e. h.members fs (stay_record_of kept s fs e);
      ascends = h.ascends;
      nests = h.nests;
    }

pub bound_cut
    : {shapes p : List ℕ} {deep row kinds : ℕ} {s : Shape} (k : Test) → Bound shapes p deep row kinds s
    → Bound shapes p deep row (kind_bits (cut_to k s)) (cut_to k s)
unfolding cut_to
bound_cut k h = bound_stay _ h

pub bound_out
    : {shapes p : List ℕ} {deep row kinds : ℕ} {s : Shape} (k : Test) → Bound shapes p deep row kinds s
    → Bound shapes p deep row (kind_bits (taken_out k s)) (taken_out k s)
unfolding taken_out
bound_out k h = bound_stay _ h

-- with null added
pub bound_gained
    : {shapes p : List ℕ} {deep row kinds : ℕ} {s : Shape} (b : Bool) → Bound shapes p deep row kinds s
    → Bound shapes p deep row (kind_bits (gain_null b s)) (gain_null b s)
unfolding gain_null
bound_gained {s} b h =
    record {
      name = h.name;
      base = h.base;
      stands = h.stands;
      left = refl;
      element = λ x e. h.element x (sym (gain_element b s) ∙ e);
      members = λ fs e. h.members fs (sym (gain_record b s) ∙ e);
      ascends = h.ascends;
      nests = h.nests;
    }

-- ---- its element and its members

-- a part of a shape that is bound stands at a row
pub record PartBound (shapes p : List ℕ) (deep row m : ℕ) (s : Shape) : Type 0 where
  pub stands : Stands shapes p row m s
  pub ascends : ascending s ≡ true
  pub nests : levels s ≤ deep

part_bound : {shapes p : List ℕ} {deep row m : ℕ} {s : Shape} → PartBound shapes p deep row m s → Bound shapes p deep row (get_or shapes row 0 % 128) s
part_bound h = bound_row h.stands h.ascends h.nests

-- the element stands behind the first row
element_of_base
    : {shapes p : List ℕ} {deep row m : ℕ} (b : Shape) {a : Shape} → Stands shapes p row m b → ascending b ≡ true → levels b ≤ deep
    → element_of b ≡ list_of a → PartBound shapes p deep (row + 2) 0 a
unfolding element_of ascending levels has_list element_shape
element_of_base (shape n b m t no_list r) h asc l e = clash {b = false} (ap has_list e) refl
element_of_base {shapes} {p} {deep} {row} (shape n b m t (list_of x) r) {a} h asc l e =
    let f : x ≡ a = ap element_shape e in
    rw (sym f) (record { stands = stands_element h; ascends = and_left (ascending x) _ asc; nests = omega arith })

-- the members stand behind the element
pub record MembersBound (shapes p : List ℕ) (deep row : ℕ) (fs : Fields) : Type 0 where
  pub stand : FieldsStand shapes p (members_at shapes row) (row + size_at shapes row) fs
  pub ascend : ascending_fields fs ≡ true
  pub nest : levels_fields fs ≤ deep

unfoldable fields_in : Record → Fields
fields_in no_rec = no_fields
fields_in (rec_of fs) = fs

members_of_base
    : {shapes p : List ℕ} {deep row m : ℕ} (b : Shape) {fs : Fields} → Stands shapes p row m b → ascending b ≡ true → levels b ≤ deep
    → record_of b ≡ rec_of fs → MembersBound shapes p deep row fs
unfolding record_of ascending levels has_rec fields_in
members_of_base (shape n b m t x no_rec) h asc l e = clash {b = false} (ap has_rec e) refl
members_of_base {shapes} {p} {deep} {row} (shape n b m t x (rec_of gs)) {fs} h asc l e =
    let f : gs ≡ fs = ap fields_in e in
    rw (sym f) (record { stand = stands_members h; ascend = and_right (ascending_element x) (ascending_fields gs) asc; nest = omega arith })

module _ {shapes p : List ℕ} {deep row kinds : ℕ} {s : Shape} (h : Bound shapes p deep row kinds s) where
  pub bound_element : (a : Shape) → element_of s ≡ list_of a → Bound shapes p deep (row + 2) (get_or shapes (row + 2) 0 % 128) a
  bound_element a e = part_bound (element_of_base h.base h.stands h.ascends h.nests (h.element a e))

  pub bound_members : (fs : Fields) → record_of s ≡ rec_of fs → MembersBound shapes p deep row fs
  bound_members fs e = members_of_base h.base h.stands h.ascends h.nests (h.members fs e)

find_levels : (fs : Fields) (n : Bytes) (s : Shape) → find n fs ≡ some s → levels s ≤ levels_fields fs
unfolding levels
find_levels no_fields n s e = none_some (find_none n) e
find_levels (field m a fs) n s e =
    find_cases
    (λ k c. levels c ≤ levels_fields (field m a fs))
    m
    a
    fs
    (omega arith)
    (λ k c f. omega (arith, find_levels fs k c f))
    n
    s
    e

-- a member that is found stands at its row
pub found_bound
    : {shapes p : List ℕ} {deep row at m : ℕ} {fs : Fields} {s : Shape} (n : Bytes) → MembersBound shapes p deep row fs
    → find n fs ≡ some s → Stands shapes p at m s → Bound shapes p deep at (get_or shapes at 0 % 128) s
found_bound {fs} {s} n h e x =
    bound_row x (find_ascending fs n s h.ascend e) (omega (arith, find_levels fs n s e, h.nest))

-- ---- the words

module _ (b b' : List ℕ) (d row kinds : ℕ) (e : b' ≡ set b d (binding row kinds)) (there : d < length b) (few : kinds < 128) where
  bound_word : get_or b' d 0 ≡ binding row kinds
  bound_word = ap (λ (x : List ℕ). get_or x d 0) e ∙ get_or-set_same b d (binding row kinds) 0 there

  pub bind_kept : Kept b b' d
  bind_kept =
      record {
        front = ap (λ (x : List ℕ). take d x) e ∙ take-set-le d b d (binding row kinds) (le_refl d);
        same = ap (λ (x : List ℕ). length x) e ∙ length-set b d (binding row kinds);
      }

  pub binds : {shapes p : List ℕ} {deep : ℕ} {t : Shape} → Bound shapes p deep row kinds t → Binds shapes p b b' deep d t
  binds {shapes} {p} {deep} {t} h =
      let f : get_or b' d 0 / 128 ≡ row = omega (arith, bound_word, few) in
      let g : get_or b' d 0 % 128 ≡ kinds = omega (arith, bound_word, few) in
      record { kept = bind_kept; bound = rw (f, g) h }

-- ---- bindings

slot_lt : (d n : ℕ) → n < d → slot d n < d
unfolding slot
slot_lt d n l = omega arith

slot_new : (d : ℕ) → slot (suc d) 0 ≡ d
unfolding slot
slot_new d = omega arith

slot_old : (d n : ℕ) → n < d → slot (suc d) (suc n) ≡ slot d n
unfolding slot
slot_old d n l = omega arith

kept_word : (b b' : List ℕ) (d i : ℕ) → Kept b b' d → i < d → get_or b' i 0 ≡ get_or b i 0
kept_word b b' d i k l =
    sym (get_or-take d b' i 0 l) ∙ ap (λ (x : List ℕ). get_or x i 0) k.front ∙ get_or-take d b i 0 l

pub bindings_kept
    : {shapes p b b' : List ℕ} {deep d : ℕ} {env : List Shape} → Bindings shapes p b deep d env → Kept b b' d
    → Bindings shapes p b' deep d env
bindings_kept {shapes} {p} {b} {b'} {deep} {d} {env} h k =
    record { many = h.many; within = omega (arith, h.within, k.same); holds = held }
  where
    word : (n : ℕ) → n < d → get_or b' (slot d n) 0 ≡ get_or b (slot d n) 0
    word n l = kept_word b b' d (slot d n) k (slot_lt d n l)

    held : (n : ℕ) → n < d → Bound shapes p deep (get_or b' (slot d n) 0 / 128) (get_or b' (slot d n) 0 % 128) (get_or env n nothing)
    held n l = rw (word n l) (h.holds n l)

-- one binding more
pub bindings_more
    : {shapes p b b' : List ℕ} {deep d : ℕ} {env : List Shape} {t : Shape} → Bindings shapes p b deep d env → d < length b
    → Binds shapes p b b' deep d t → Bindings shapes p b' deep (suc d) (t ∷ env)
bindings_more {shapes} {p} {b} {b'} {deep} {d} {env} {t} h there w =
    record { many = ap suc h.many; within = omega (arith, w.kept.same); holds = held }
  where
    held
        : (n : ℕ) → n < suc d
        → Bound shapes p deep (get_or b' (slot (suc d) n) 0 / 128) (get_or b' (slot (suc d) n) 0 % 128) (get_or (t ∷ env) n nothing)
    held zero l = rw (slot_new d) w.bound
    held (suc n) l =
        let m : n < d = omega arith in
        rw (slot_old d n m, kept_word b b' d (slot d n) w.kept (slot_lt d n m)) (h.holds n m)

-- the bindings of a binding's slot
pub binding_held
    : {shapes p b : List ℕ} {deep d n k : ℕ} {env : List Shape} → Bindings shapes p b deep d env → n < d → k ≡ slot d n
    → Bound shapes p deep (get_or b k 0 / 128) (get_or b k 0 % 128) (get_or env n nothing)
binding_held {shapes} {p} {b} {deep} {d} {n} {k} {env} h l e = rw e (h.holds n l)
