-- The join by its parts: what it has of each kind, its element, and what it holds at each name. Assumes nothing.
use Rattle.std.specs.Prelude.{◌≡◌, refl, ◌⊎◌, true, false, ◌||◌}
use Rattle.std.proofs.Common.{sym, ◌∙◌, ap, subst, inl, inr}
use Rattle.std.proofs.Math.Option.{Option, none, some}
use Rattle.definitions.specs.Bytes.{Bytes, same}
use Rattle.definitions.specs.Shape.{Kind, Numeric, no_number, int_only, int_and_dec, Shape, shape, Element, no_list, list_of}
use Rattle.definitions.specs.Shape.{Record, no_rec, rec_of, Fields, no_fields, field, has, has_int, has_dec, has_list, has_rec}
use Rattle.definitions.specs.Shape.{element_of, record_of, find, ascending, ascending_element, ascending_record, ascending_fields}
use Rattle.definitions.specs.Join.{with_null, join_numeric, add_null, join, join_element, join_record, join_fields}
use Rattle.laws.specs.Bools.{tell}
use Rattle.laws.specs.Names.{same_eq}
use Rattle.laws.specs.Fields.{find_there, find_first, ascending_first, ascending_rest, find_again}
use Rattle.laws.specs.FieldsPut.{null_added, find_add_null, add_null_ascending, placed, find_put_here, find_put_there, put_ascending}
use Rattle.laws.specs.OrderInduction.{InElement, InFields, InRecord, Step, shape_induction, Ascending}
use Rattle.laws.specs.OrderInduction.{ascending_of_element, ascending_of_record, ascending_intro}

-- ---- kinds, element and record

has_int_join : (m k : Numeric) → has_int (join_numeric m k) ≡ has_int m || has_int k
unfolding has_int join_numeric
has_int_join no_number k = refl
has_int_join int_only no_number = refl
has_int_join int_only int_only = refl
has_int_join int_only int_and_dec = refl
has_int_join int_and_dec k = refl

has_dec_join : (m k : Numeric) → has_dec (join_numeric m k) ≡ has_dec m || has_dec k
unfolding has_dec join_numeric
has_dec_join no_number k = refl
has_dec_join int_only no_number = refl
has_dec_join int_only int_only = refl
has_dec_join int_only int_and_dec = refl
has_dec_join int_and_dec k = refl

has_list_join : (e f : Element) → has_list (join_element e f) ≡ has_list e || has_list f
unfolding has_list join
has_list_join no_list f = refl
has_list_join (list_of a) no_list = refl
has_list_join (list_of a) (list_of b) = refl

has_rec_join : (r q : Record) → has_rec (join_record r q) ≡ has_rec r || has_rec q
unfolding has_rec join
has_rec_join no_rec q = refl
has_rec_join (rec_of fs) no_rec = refl
has_rec_join (rec_of fs) (rec_of gs) = refl

-- "Kinds united"
pub has_join : (k : Kind) (s t : Shape) → has k (join s t) ≡ has k s || has k t
unfolding has join
has_join Kind.null (shape n b m t e r) (shape n' b' m' t' e' r') = refl
has_join Kind.bool (shape n b m t e r) (shape n' b' m' t' e' r') = refl
has_join Kind.int (shape n b m t e r) (shape n' b' m' t' e' r') = has_int_join m m'
has_join Kind.dec (shape n b m t e r) (shape n' b' m' t' e' r') = has_dec_join m m'
has_join Kind.text (shape n b m t e r) (shape n' b' m' t' e' r') = refl
has_join Kind.list (shape n b m t e r) (shape n' b' m' t' e' r') = has_list_join e e'
has_join Kind.rec (shape n b m t e r) (shape n' b' m' t' e' r') = has_rec_join r r'

pub element_of_join : (s t : Shape) → element_of (join s t) ≡ join_element (element_of s) (element_of t)
unfolding element_of join
element_of_join (shape n b m t e r) (shape n' b' m' t' e' r') = refl

pub record_of_join : (s t : Shape) → record_of (join s t) ≡ join_record (record_of s) (record_of t)
unfolding record_of join
record_of_join (shape n b m t e r) (shape n' b' m' t' e' r') = refl

-- ---- names ascend in a join

JoinsAscending : Shape → Type 0
JoinsAscending s = (t : Shape) → Ascending s → Ascending t → Ascending (join s t)

-- the first's members, each of which joins with names ascending, put among others
fields_ascending
    : (fs gs : Fields) → InFields JoinsAscending fs → ascending_fields fs ≡ true → ascending_fields gs ≡ true
    → ascending_fields (join_fields fs gs) ≡ true
unfolding join JoinsAscending
fields_ascending no_fields gs h i j = j
fields_ascending (field n a fs) gs h i j =
    let p : ascending a ≡ true = ascending_first n a fs i in
    put_ascending
    n
    a
    (join a)
    p
    (λ b q. h.0 b p q)
    (join_fields fs gs)
    (fields_ascending fs gs h.1 (ascending_rest n a fs i) j)

elements_ascending
    : (e f : Element) → InElement JoinsAscending e → ascending_element e ≡ true → ascending_element f ≡ true
    → ascending_element (join_element e f) ≡ true
unfolding join JoinsAscending ascending
elements_ascending no_list f h i j = j
elements_ascending (list_of a) no_list h i j = i
elements_ascending (list_of a) (list_of b) h i j = h b i j

records_ascending
    : (r q : Record) → InRecord JoinsAscending r → ascending_record r ≡ true → ascending_record q ≡ true
    → ascending_record (join_record r q) ≡ true
unfolding join JoinsAscending ascending
records_ascending no_rec q h i j = j
records_ascending (rec_of fs) no_rec h i j = i
records_ascending (rec_of fs) (rec_of gs) h i j = fields_ascending fs (add_null fs gs) h i (add_null_ascending fs gs j)

joins_ascending : Step JoinsAscending
unfolding JoinsAscending element_of record_of
joins_ascending n b m t e r f g u i j =
    let s : Shape = shape n b m t e r in
    ascending_intro
    (join s u)
    (ap ascending_element (element_of_join s u)
    ∙ elements_ascending e (element_of u) f (ascending_of_element s i) (ascending_of_element u j))
    (ap ascending_record (record_of_join s u)
    ∙ records_ascending r (record_of u) g (ascending_of_record s i) (ascending_of_record u j))

pub join_ascending : (s t : Shape) → ascending s ≡ true → ascending t ≡ true → ascending (join s t) ≡ true
unfolding JoinsAscending
join_ascending s = shape_induction s JoinsAscending joins_ascending

pub join_fields_ascending
    : (fs gs : Fields) → ascending_fields fs ≡ true → ascending_fields gs ≡ true → ascending_fields (join_fields fs gs) ≡ true
unfolding JoinsAscending
join_fields_ascending fs gs = fields_ascending fs gs (everywhere fs)
  where
    everywhere : (hs : Fields) → InFields JoinsAscending hs
    everywhere no_fields = tt
    everywhere (field n a hs) = (join_ascending a, everywhere hs)

-- ---- what a join holds at each name

-- the first's member put where the second's is
abbrev put_option : Option Shape → Option Shape → Option Shape
put_option none p = p
put_option (some a) p = placed (with_null a) (join a) p

-- "members in both joined, a member of only one kept with null added"
abbrev pub join_option : Option Shape → Option Shape → Option Shape
join_option none none = none
join_option none (some b) = some (with_null b)
join_option (some a) none = some (with_null a)
join_option (some a) (some b) = some (join a b)

find_join_fields
    : (fs gs : Fields) → ascending_fields fs ≡ true → ascending_fields gs ≡ true → (n : Bytes)
    → find n (join_fields fs gs) ≡ put_option (find n fs) (find n gs)
unfolding join find
find_join_fields no_fields gs i j n = refl
find_join_fields (field m a fs) gs i j n = go (find_join_fields fs gs i' j) (tell (same n m))
  where
    i' : ascending_fields fs ≡ true
    i' = ascending_rest m a fs i

    At : Bytes → Type 0
    At k = find k (join_fields (field m a fs) gs) ≡ put_option (find k (field m a fs)) (find k gs)

    go
        : ((k : Bytes) → find k (join_fields fs gs) ≡ put_option (find k fs) (find k gs))
        → (same n m ≡ true) ⊎ (same n m ≡ false) → At n
    go f (inl e) =
        subst
        At
        (sym (same_eq n m e))
        (find_put_here m a (join a) (join_fields fs gs) (join_fields_ascending fs gs i' j)
        ∙ ap (placed (with_null a) (join a)) (f m ∙ ap (λ o. put_option o (find m gs)) (find_again m a fs i))
        ∙ ap (λ o. put_option o (find m gs)) (sym (find_first m a fs)))
    go f (inr e) =
        find_put_there n m a (join a) (join_fields fs gs) e
        ∙ f n
        ∙ ap (λ o. put_option o (find n gs)) (sym (find_there n m a fs e))

join_put : (o p : Option Shape) → put_option o (null_added o p) ≡ join_option o p
join_put none none = refl
join_put none (some b) = refl
join_put (some a) none = refl
join_put (some a) (some b) = refl

pub find_join
    : (fs gs : Fields) → ascending_fields fs ≡ true → ascending_fields gs ≡ true → (n : Bytes)
    → find n (join_fields fs (add_null fs gs)) ≡ join_option (find n fs) (find n gs)
find_join fs gs i j n =
    find_join_fields fs (add_null fs gs) i (add_null_ascending fs gs j) n
    ∙ ap (put_option (find n fs)) (find_add_null fs gs n)
    ∙ join_put (find n fs) (find n gs)
