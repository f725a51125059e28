-- The parts of a join, one after the other: members, element, kinds. Assumes nothing.
use Rattle.std.specs.Prelude.{◌≤◌, ◌≡◌, refl, true}
use Rattle.std.proofs.Common.{arith, sym, ap, ◌∙◌}
use Rattle.definitions.specs.Shape.{Shape, shape, Element, no_list, list_of, Record, no_rec, rec_of, element_of, record_of, has_list}
use Rattle.definitions.specs.Shape.{has_rec, only_list, ascending, ascending_element, ascending_record, forms, forms_element}
use Rattle.definitions.specs.Join.{join, join_element, join_record}
use Rattle.laws.specs.Bools.{and_intro}
use Rattle.laws.specs.OrderInduction.{ascending_of_element, ascending_of_record}
use Rattle.laws.specs.SizeLaws.{forms_mono}
use Rattle.laws.specs.JoinParts.{record_of_join}
use Rattle.laws.specs.JoinLaws.{join_ascending, join_upper_left}
use Rattle.shapes.specs.Shapes.{bit, kind_bits}
use Rattle.join.specs.Joining.{join_records, join_elements}

-- ---- the parts of a join

-- the first with members and element of both
abbrev pub parts_joined : Shape → Shape → Shape
parts_joined s t = join_elements (join_records s t) t

pub forms_parts : (s t : Shape) → forms (parts_joined s t) ≡ forms (join s t)
unfolding join_elements join_records element_of record_of join forms
forms_parts (shape n b k x e r) (shape n' b' k' x' e' r') = refl

forms_join_element : (e f : Element) → ascending_element e ≡ true → ascending_element f ≡ true → forms_element e ≤ forms_element (join_element e f)
unfolding only_list ascending join forms
forms_join_element e f i j =
    let s : Shape = only_list e in
    let t : Shape = only_list f in
    let is : ascending s ≡ true = and_intro i refl in
    let js : ascending t ≡ true = and_intro j refl in
    let h : forms s ≤ forms (join s t) = forms_mono s (join s t) is (join_ascending s t is js) (join_upper_left s t is js) in
    omega arith

pub forms_records : (s t : Shape) → ascending s ≡ true → ascending t ≡ true → forms (join_records s t) ≤ forms (join s t)
unfolding join_records record_of element_of join forms
forms_records (shape n b k x e r) (shape n' b' k' x' e' r') i j =
    let h =
    forms_join_element e e' (ascending_of_element (shape n b k x e r) i) (ascending_of_element (shape n' b' k' x' e' r') j) in
    omega arith

pub records_ascend : (s t : Shape) → ascending s ≡ true → ascending t ≡ true → ascending (join_records s t) ≡ true
unfolding join_records record_of element_of ascending
records_ascend (shape n b k x e r) (shape n' b' k' x' e' r') i j =
    let s : Shape = shape n b k x e r in
    let t : Shape = shape n' b' k' x' e' r' in
    and_intro
    (ascending_of_element s i)
    (sym (ap ascending_record (record_of_join s t)) ∙ ascending_of_record (join s t) (join_ascending s t i j))

-- ---- the kinds of a join

list_twice : (e f : Element) → has_list (join_element (join_element e f) f) ≡ has_list (join_element e f)
unfolding join has_list
list_twice no_list no_list = refl
list_twice no_list (list_of b) = refl
list_twice (list_of a) no_list = refl
list_twice (list_of a) (list_of b) = refl

rec_twice : (r q : Record) → has_rec (join_record (join_record r q) q) ≡ has_rec (join_record r q)
unfolding join has_rec
rec_twice no_rec no_rec = refl
rec_twice no_rec (rec_of gs) = refl
rec_twice (rec_of fs) no_rec = refl
rec_twice (rec_of fs) (rec_of gs) = refl

pub kinds_twice : (s t : Shape) → kind_bits (join (parts_joined s t) t) ≡ kind_bits (join s t)
unfolding join_elements join_records element_of record_of join kind_bits
kinds_twice (shape n b k x e r) (shape n' b' k' x' e' r') = omega (arith, ap bit (list_twice e e'), ap bit (rec_twice r r'))
