-- Induction over shapes, with a hypothesis for the element and for each member, and `ascending` by its parts.
-- Assumes nothing.
use Rattle.std.specs.Prelude.{◌≡◌, ◌⊎◌, Bool, true, false}
use Rattle.std.proofs.Common.{sym, subst, inl, inr}
use Rattle.std.proofs.Math.Option.{Option, none, some}
use Rattle.definitions.specs.Bytes.{Bytes, same}
use Rattle.definitions.specs.Shape.{Numeric, Shape, shape, Element, no_list, list_of, Record, no_rec, rec_of, Fields, no_fields, field}
use Rattle.definitions.specs.Shape.{element_of, record_of, find, ascending, ascending_element, ascending_record, ascending_fields}
use Rattle.laws.specs.Bools.{and_left, and_right, and_intro, tell}
use Rattle.laws.specs.Fields.{find_here, find_there, ascending_first, ascending_rest}

-- ---- induction over shapes

-- of what may be there, the property
abbrev pub InOption : (Shape → Type 0) → Option Shape → Type 0
InOption P none = Unit {0}
InOption P (some s) = P s

abbrev pub InElement : (Shape → Type 0) → Element → Type 0
InElement P no_list = Unit {0}
InElement P (list_of s) = P s

abbrev pub InFields : (Shape → Type 0) → Fields → Type 0
InFields P no_fields = Unit {0}
InFields P (field n s fs) = P s × InFields P fs

abbrev pub InRecord : (Shape → Type 0) → Record → Type 0
InRecord P no_rec = Unit {0}
InRecord P (rec_of fs) = InFields P fs

-- a property holds of a shape where it holds of the element and of the members
abbrev pub Step : (Shape → Type 0) → Type 0
Step P =
    (n b : Bool) (m : Numeric) (t : Bool) (e : Element) (r : Record) → InElement P e → InRecord P r → P (shape n b m t e r)

mutual
  pub shape_induction : (s : Shape) (P : Shape → Type 0) → Step P → P s
  shape_induction (shape n b m t e r) P step = step n b m t e r (element_induction e P step) (record_induction r P step)

  element_induction : (e : Element) (P : Shape → Type 0) → Step P → InElement P e
  element_induction no_list P step = tt
  element_induction (list_of s) P step = shape_induction s P step

  record_induction : (r : Record) (P : Shape → Type 0) → Step P → InRecord P r
  record_induction no_rec P step = tt
  record_induction (rec_of fs) P step = fields_induction fs P step

  fields_induction : (fs : Fields) (P : Shape → Type 0) → Step P → InFields P fs
  fields_induction no_fields P step = tt
  fields_induction (field n s fs) P step = (shape_induction s P step, fields_induction fs P step)

-- what holds of each member holds of what is found
pub in_found : (P : Shape → Type 0) (fs : Fields) → InFields P fs → (n : Bytes) → InOption P (find n fs)
unfolding find
in_found P no_fields h n = tt
in_found P (field m s fs) h n = go (in_found P fs h.1 n) (tell (same n m))
  where
    go : InOption P (find n fs) → (same n m ≡ true) ⊎ (same n m ≡ false) → InOption P (find n (field m s fs))
    go f (inl e) = subst (InOption P) (sym (find_here n m s fs e)) h.0
    go f (inr e) = subst (InOption P) (sym (find_there n m s fs e)) f

-- ---- ascending, by parts

abbrev pub Ascending : Shape → Type 0
Ascending s = ascending s ≡ true

pub ascending_of_element : (s : Shape) → ascending s ≡ true → ascending_element (element_of s) ≡ true
unfolding ascending element_of
ascending_of_element (shape n b m t e r) h = and_left (ascending_element e) (ascending_record r) h

pub ascending_of_record : (s : Shape) → ascending s ≡ true → ascending_record (record_of s) ≡ true
unfolding ascending record_of
ascending_of_record (shape n b m t e r) h = and_right (ascending_element e) (ascending_record r) h

-- names ascend in a shape where they do in its element and its members
pub ascending_intro
    : (s : Shape) → ascending_element (element_of s) ≡ true → ascending_record (record_of s) ≡ true → ascending s ≡ true
unfolding ascending element_of record_of
ascending_intro (shape n b m t e r) p q = and_intro p q

pub ascending_members : (fs : Fields) → ascending_fields fs ≡ true → InFields Ascending fs
ascending_members no_fields h = tt
ascending_members (field n s fs) h = (ascending_first n s fs h, ascending_members fs (ascending_rest n s fs h))

pub ascending_found : (fs : Fields) → ascending_fields fs ≡ true → (n : Bytes) → InOption Ascending (find n fs)
ascending_found fs h n = in_found Ascending fs (ascending_members fs h) n
