-- The join is an upper bound of both shapes, and below every other. Assumes nothing.
use Rattle.std.specs.Prelude.{◌≡◌, refl, ◌⊎◌, true}
use Rattle.std.proofs.Common.{sym, ◌∙◌, subst, inl, inr}
use Rattle.std.proofs.Math.Option.{Option, none, some}
use Rattle.definitions.specs.Shape.{Kind, Shape, shape, Element, no_list, list_of, Record, no_rec, rec_of, has}
use Rattle.definitions.specs.Shape.{element_of, record_of, find, ascending, ascending_element, ascending_record}
use Rattle.definitions.specs.Order.{below}
use Rattle.definitions.specs.Join.{with_null, join, join_element, join_record}
use Rattle.laws.specs.Bools.{or_cases, or_left, or_right}
use Rattle.laws.specs.FieldsPut.{with_null_ascending}
use Rattle.laws.specs.OrderInduction.{InOption, InElement, InRecord, Step, shape_induction, in_found}
use Rattle.laws.specs.OrderInduction.{Ascending, ascending_of_element, ascending_of_record, ascending_found}
use Rattle.laws.specs.OrderParts.{Kinds, Elements, AtName, Records, below_kinds, below_elements, below_records, below_intro}
use Rattle.laws.specs.OrderLaws.{below_refl}
use Rattle.laws.specs.JoinParts.{has_join, element_of_join, record_of_join, join_ascending, join_option, find_join}

-- ---- every part is below itself

members_same : (o : Option Shape) → InOption Ascending o → AtName o o
members_same none h = tt
members_same (some a) h = below_refl a h

elements_same : (e : Element) → ascending_element e ≡ true → Elements e e
unfolding ascending
elements_same no_list h = tt
elements_same (list_of a) h = below_refl a h

records_same : (r : Record) → ascending_record r ≡ true → Records r r
unfolding ascending
records_same no_rec h = tt
records_same (rec_of fs) h = λ n. members_same (find n fs) (ascending_found fs h n)

-- ---- with-null

pub with_null_has : (s : Shape) → has Kind.null (with_null s) ≡ true
unfolding has with_null
with_null_has (shape n b m t e r) = refl

with_null_element : (s : Shape) → element_of (with_null s) ≡ element_of s
unfolding element_of with_null
with_null_element (shape n b m t e r) = refl

with_null_record : (s : Shape) → record_of (with_null s) ≡ record_of s
unfolding record_of with_null
with_null_record (shape n b m t e r) = refl

pub with_null_kinds : (s : Shape) → Kinds s (with_null s)
unfolding has with_null
with_null_kinds (shape n b m t e r) Kind.null h = refl
with_null_kinds (shape n b m t e r) Kind.bool h = h
with_null_kinds (shape n b m t e r) Kind.int h = h
with_null_kinds (shape n b m t e r) Kind.dec h = h
with_null_kinds (shape n b m t e r) Kind.text h = h
with_null_kinds (shape n b m t e r) Kind.list h = h
with_null_kinds (shape n b m t e r) Kind.rec h = h

-- null is all that is added
with_null_only : (s t : Shape) → Kinds s t → has Kind.null t ≡ true → Kinds (with_null s) t
unfolding has with_null
with_null_only (shape n b m t e r) u f h Kind.null i = h
with_null_only (shape n b m t e r) u f h Kind.bool i = f Kind.bool i
with_null_only (shape n b m t e r) u f h Kind.int i = f Kind.int i
with_null_only (shape n b m t e r) u f h Kind.dec i = f Kind.dec i
with_null_only (shape n b m t e r) u f h Kind.text i = f Kind.text i
with_null_only (shape n b m t e r) u f h Kind.list i = f Kind.list i
with_null_only (shape n b m t e r) u f h Kind.rec i = f Kind.rec i

pub with_null_upper : (s : Shape) → ascending s ≡ true → below s (with_null s) ≡ true
with_null_upper s h =
    below_intro
    s
    (with_null s)
    h
    (with_null_ascending s h)
    (with_null_kinds s)
    (subst (Elements (element_of s)) (sym (with_null_element s)) (elements_same (element_of s) (ascending_of_element s h)))
    (subst (Records (record_of s)) (sym (with_null_record s)) (records_same (record_of s) (ascending_of_record s h)))

pub with_null_least
    : (s t : Shape) → ascending s ≡ true → ascending t ≡ true → below s t ≡ true → has Kind.null t ≡ true
    → below (with_null s) t ≡ true
with_null_least s t i j v h =
    below_intro
    (with_null s)
    t
    (with_null_ascending s i)
    j
    (with_null_only s t (below_kinds s t v) h)
    (subst (λ (e : Element). Elements e (element_of t)) (sym (with_null_element s)) (below_elements s t v))
    (subst (λ (r : Record). Records r (record_of t)) (sym (with_null_record s)) (below_records s t v))

-- ---- the first is below the join

Left : Shape → Type 0
Left s = (t : Shape) → Ascending s → Ascending t → below s (join s t) ≡ true

members_left
    : (o p : Option Shape) → InOption Left o → InOption Ascending o → InOption Ascending p → AtName o (join_option o p)
unfolding Left
members_left none none f i j = tt
members_left none (some b) f i j = with_null_has b
members_left (some a) none f i j = with_null_upper a i
members_left (some a) (some b) f i j = f b i j

elements_left
    : (e f : Element) → InElement Left e → ascending_element e ≡ true → ascending_element f ≡ true → Elements e (join_element e f)
unfolding Left join ascending
elements_left no_list f h i j = tt
elements_left (list_of a) no_list h i j = below_refl a i
elements_left (list_of a) (list_of b) h i j = h b i j

records_left
    : (r q : Record) → InRecord Left r → ascending_record r ≡ true → ascending_record q ≡ true → Records r (join_record r q)
unfolding join ascending
records_left no_rec q h i j = tt
records_left (rec_of fs) no_rec h i j = records_same (rec_of fs) i
records_left (rec_of fs) (rec_of gs) h i j = λ n.
    subst
    (AtName (find n fs))
    (sym (find_join fs gs i j n))
    (members_left (find n fs) (find n gs) (in_found Left fs h n) (ascending_found fs i n) (ascending_found gs j n))

left : Step Left
unfolding Left element_of record_of
left n b m t e r f g u i j =
    let s : Shape = shape n b m t e r in
    below_intro
    s
    (join s u)
    i
    (join_ascending s u i j)
    (λ k h. has_join k s u ∙ or_left (has k u) h)
    (subst
    (Elements e)
    (sym (element_of_join s u))
    (elements_left e (element_of u) f (ascending_of_element s i) (ascending_of_element u j)))
    (subst
    (Records r)
    (sym (record_of_join s u))
    (records_left r (record_of u) g (ascending_of_record s i) (ascending_of_record u j)))

pub join_upper_left : (s t : Shape) → ascending s ≡ true → ascending t ≡ true → below s (join s t) ≡ true
unfolding Left
join_upper_left s = shape_induction s Left left

-- ---- the second is below the join

Right : Shape → Type 0
Right s = (t : Shape) → Ascending s → Ascending t → below t (join s t) ≡ true

members_right
    : (o p : Option Shape) → InOption Right o → InOption Ascending o → InOption Ascending p → AtName p (join_option o p)
unfolding Right
members_right none none f i j = tt
members_right none (some b) f i j = with_null_upper b j
members_right (some a) none f i j = with_null_has a
members_right (some a) (some b) f i j = f b i j

elements_right
    : (e f : Element) → InElement Right e → ascending_element e ≡ true → ascending_element f ≡ true → Elements f (join_element e f)
unfolding Right join ascending
elements_right no_list f h i j = elements_same f j
elements_right (list_of a) no_list h i j = tt
elements_right (list_of a) (list_of b) h i j = h b i j

records_right
    : (r q : Record) → InRecord Right r → ascending_record r ≡ true → ascending_record q ≡ true → Records q (join_record r q)
unfolding join ascending
records_right no_rec q h i j = records_same q j
records_right (rec_of fs) no_rec h i j = tt
records_right (rec_of fs) (rec_of gs) h i j = λ n.
    subst
    (AtName (find n gs))
    (sym (find_join fs gs i j n))
    (members_right (find n fs) (find n gs) (in_found Right fs h n) (ascending_found fs i n) (ascending_found gs j n))

right : Step Right
unfolding Right element_of record_of
right n b m t e r f g u i j =
    let s : Shape = shape n b m t e r in
    below_intro
    u
    (join s u)
    j
    (join_ascending s u i j)
    (λ k h. has_join k s u ∙ or_right (has k s) h)
    (subst
    (Elements (element_of u))
    (sym (element_of_join s u))
    (elements_right e (element_of u) f (ascending_of_element s i) (ascending_of_element u j)))
    (subst
    (Records (record_of u))
    (sym (record_of_join s u))
    (records_right r (record_of u) g (ascending_of_record s i) (ascending_of_record u j)))

pub join_upper_right : (s t : Shape) → ascending s ≡ true → ascending t ≡ true → below t (join s t) ≡ true
unfolding Right
join_upper_right s = shape_induction s Right right

-- ---- the join is below every other upper bound

Least : Shape → Type 0
Least s =
    (t u : Shape) → Ascending s → Ascending t → Ascending u → below s u ≡ true → below t u ≡ true → below (join s t) u ≡ true

members_least
    : (o p q : Option Shape) → InOption Least o → InOption Ascending o → InOption Ascending p → InOption Ascending q
    → AtName o q → AtName p q → AtName (join_option o p) q
unfolding Least
members_least none none q f i j k v w = v
members_least none (some b) none f i j k v w = absurd w
members_least none (some b) (some c) f i j k v w = with_null_least b c j k w v
members_least (some a) none none f i j k v w = absurd v
members_least (some a) none (some c) f i j k v w = with_null_least a c i k v w
members_least (some a) (some b) none f i j k v w = absurd v
members_least (some a) (some b) (some c) f i j k v w = f b c i j k v w

elements_least
    : (e f g : Element) → InElement Least e → ascending_element e ≡ true → ascending_element f ≡ true
    → ascending_element g ≡ true → Elements e g → Elements f g → Elements (join_element e f) g
unfolding Least join ascending
elements_least no_list f g h i j k v w = w
elements_least (list_of a) no_list g h i j k v w = v
elements_least (list_of a) (list_of b) no_list h i j k v w = absurd v
elements_least (list_of a) (list_of b) (list_of c) h i j k v w = h b c i j k v w

records_least
    : (r q p : Record) → InRecord Least r → ascending_record r ≡ true → ascending_record q ≡ true → ascending_record p ≡ true
    → Records r p → Records q p → Records (join_record r q) p
unfolding join ascending
records_least no_rec q p h i j k v w = w
records_least (rec_of fs) no_rec p h i j k v w = v
records_least (rec_of fs) (rec_of gs) no_rec h i j k v w = absurd v
records_least (rec_of fs) (rec_of gs) (rec_of hs) h i j k v w = λ n.
    subst
    (λ (o : Option Shape). AtName o (find n hs))
    (sym (find_join fs gs i j n))
    (members_least
    (find n fs)
    (find n gs)
    (find n hs)
    (in_found Least fs h n)
    (ascending_found fs i n)
    (ascending_found gs j n)
    (ascending_found hs k n)
    (v n)
    (w n))

least_kinds : (s t u : Shape) → Kinds s u → Kinds t u → Kinds (join s t) u
least_kinds s t u f g k h = go (or_cases (has k s) (has k t) (sym (has_join k s t) ∙ h))
  where
    go : (has k s ≡ true) ⊎ (has k t ≡ true) → has k u ≡ true
    go (inl e) = f k e
    go (inr e) = g k e

least : Step Least
unfolding Least element_of record_of
least n b m t e r f g t' u i j k v w =
    let s : Shape = shape n b m t e r in
    below_intro
    (join s t')
    u
    (join_ascending s t' i j)
    k
    (least_kinds s t' u (below_kinds s u v) (below_kinds t' u w))
    (subst
    (λ (x : Element). Elements x (element_of u))
    (sym (element_of_join s t'))
    (elements_least
    e
    (element_of t')
    (element_of u)
    f
    (ascending_of_element s i)
    (ascending_of_element t' j)
    (ascending_of_element u k)
    (below_elements s u v)
    (below_elements t' u w)))
    (subst
    (λ (x : Record). Records x (record_of u))
    (sym (record_of_join s t'))
    (records_least
    r
    (record_of t')
    (record_of u)
    g
    (ascending_of_record s i)
    (ascending_of_record t' j)
    (ascending_of_record u k)
    (below_records s u v)
    (below_records t' u w)))

pub join_least
    : (s t u : Shape) → ascending s ≡ true → ascending t ≡ true → ascending u ≡ true → below s u ≡ true → below t u ≡ true
    → below (join s t) u ≡ true
unfolding Least
join_least s = shape_induction s Least least
