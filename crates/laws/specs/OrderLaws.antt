-- The order of shapes is a partial order with `nothing` at the bottom. Assumes nothing.
use Rattle.std.specs.Prelude.{◌≡◌, refl, true}
use Rattle.std.proofs.Common.{ap, true≢false}
use Rattle.std.proofs.lemmas.Bool.{false≢true}
use Rattle.std.proofs.Math.Option.{Option, none, some}
use Rattle.definitions.specs.Shape.{Kind, all_kinds, every, Numeric, no_number, int_only, int_and_dec, Shape, shape, Element}
use Rattle.definitions.specs.Shape.{no_list, list_of, Record, no_rec, rec_of, nothing, has, has_int, has_dec, has_list}
use Rattle.definitions.specs.Shape.{has_rec, element_of, record_of, find, ascending, ascending_element, ascending_record}
use Rattle.definitions.specs.Order.{kinds_in, below}
use Rattle.laws.specs.Fields.{fields_ext}
use Rattle.laws.specs.OrderInduction.{InOption, InElement, InRecord, Step, shape_induction, in_found}
use Rattle.laws.specs.OrderInduction.{Ascending, ascending_of_element, ascending_of_record, ascending_found}
use Rattle.laws.specs.OrderParts.{Kinds, Elements, AtName, Records, below_kinds, below_elements, below_records, below_intro}
use Rattle.laws.specs.Bools.{bool_eq}

pub nothing_below : (s : Shape) → below nothing s ≡ true
unfolding below nothing kinds_in every all_kinds has has_int has_dec has_list has_rec
nothing_below s = refl

-- ---- reflexive

Reflexive : Shape → Type 0
Reflexive s = Ascending s → below s s ≡ true

members_refl : (o : Option Shape) → InOption Reflexive o → InOption Ascending o → AtName o o
unfolding Reflexive
members_refl none f h = tt
members_refl (some a) f h = f h

elements_refl : (e : Element) → InElement Reflexive e → ascending_element e ≡ true → Elements e e
unfolding Reflexive ascending
elements_refl no_list f h = tt
elements_refl (list_of a) f h = f h

records_refl : (r : Record) → InRecord Reflexive r → ascending_record r ≡ true → Records r r
unfolding ascending
records_refl no_rec f h = tt
records_refl (rec_of fs) f h = λ n. members_refl (find n fs) (in_found Reflexive fs f n) (ascending_found fs h n)

reflexive : Step Reflexive
unfolding Reflexive element_of record_of
reflexive n b m t e r f g h =
    let s : Shape = shape n b m t e r in
    below_intro
    s
    s
    h
    h
    (λ k i. i)
    (elements_refl e f (ascending_of_element s h))
    (records_refl r g (ascending_of_record s h))

pub below_refl : (s : Shape) → ascending s ≡ true → below s s ≡ true
unfolding Reflexive
below_refl s = shape_induction s Reflexive reflexive

-- ---- transitive

Transitive : Shape → Type 0
Transitive s = (t u : Shape) → Ascending s → Ascending t → Ascending u → below s t ≡ true → below t u ≡ true → below s u ≡ true

members_trans
    : (o p q : Option Shape) → InOption Transitive o → InOption Ascending o → InOption Ascending p → InOption Ascending q
    → AtName o p → AtName p q → AtName o q
unfolding Transitive
members_trans none none q f i j k v w = w
members_trans none (some b) none f i j k v w = absurd w
members_trans none (some b) (some c) f i j k v w = below_kinds b c w Kind.null v
members_trans (some a) none q f i j k v w = absurd v
members_trans (some a) (some b) none f i j k v w = absurd w
members_trans (some a) (some b) (some c) f i j k v w = f b c i j k v w

elements_trans
    : (e f g : Element) → InElement Transitive e → ascending_element e ≡ true → ascending_element f ≡ true
    → ascending_element g ≡ true → Elements e f → Elements f g → Elements e g
unfolding Transitive ascending
elements_trans no_list f g h i j k v w = tt
elements_trans (list_of a) no_list g h i j k v w = absurd v
elements_trans (list_of a) (list_of b) no_list h i j k v w = absurd w
elements_trans (list_of a) (list_of b) (list_of c) h i j k v w = h b c i j k v w

records_trans
    : (r q p : Record) → InRecord Transitive r → ascending_record r ≡ true → ascending_record q ≡ true
    → ascending_record p ≡ true → Records r q → Records q p → Records r p
unfolding ascending
records_trans no_rec q p h i j k v w = tt
records_trans (rec_of fs) no_rec p h i j k v w = absurd v
records_trans (rec_of fs) (rec_of gs) no_rec h i j k v w = absurd w
records_trans (rec_of fs) (rec_of gs) (rec_of hs) h i j k v w = λ n.
    members_trans
    (find n fs)
    (find n gs)
    (find n hs)
    (in_found Transitive fs h n)
    (ascending_found fs i n)
    (ascending_found gs j n)
    (ascending_found hs k n)
    (v n)
    (w n)

transitive : Step Transitive
unfolding Transitive element_of record_of
transitive n b m t e r f g t' u i j k v w =
    let s : Shape = shape n b m t e r in
    below_intro
    s
    u
    i
    k
    (λ x y. below_kinds t' u w x (below_kinds s t' v x y))
    (elements_trans
    e
    (element_of t')
    (element_of u)
    f
    (ascending_of_element s i)
    (ascending_of_element t' j)
    (ascending_of_element u k)
    (below_elements s t' v)
    (below_elements t' u w))
    (records_trans
    r
    (record_of t')
    (record_of u)
    g
    (ascending_of_record s i)
    (ascending_of_record t' j)
    (ascending_of_record u k)
    (below_records s t' v)
    (below_records t' u w))

pub below_trans
    : (s t u : Shape) → ascending s ≡ true → ascending t ≡ true → ascending u ≡ true → below s t ≡ true → below t u ≡ true
    → below s u ≡ true
unfolding Transitive
below_trans s = shape_induction s Transitive transitive

-- ---- antisymmetric

pub numeric_eq : (m k : Numeric) → has_int m ≡ has_int k → has_dec m ≡ has_dec k → m ≡ k
unfolding has_int has_dec
numeric_eq no_number no_number p q = refl
numeric_eq no_number int_only p q = absurd (false≢true p)
numeric_eq no_number int_and_dec p q = absurd (false≢true p)
numeric_eq int_only no_number p q = absurd (true≢false p)
numeric_eq int_only int_only p q = refl
numeric_eq int_only int_and_dec p q = absurd (false≢true q)
numeric_eq int_and_dec no_number p q = absurd (true≢false p)
numeric_eq int_and_dec int_only p q = absurd (true≢false q)
numeric_eq int_and_dec int_and_dec p q = refl

-- a shape is its kinds, its element and its members
pub shape_eq : (s t : Shape) → Kinds s t → Kinds t s → element_of s ≡ element_of t → record_of s ≡ record_of t → s ≡ t
unfolding has element_of record_of
shape_eq (shape n b m t e r) (shape n' b' m' t' e' r') f g p q =
    let null : n ≡ n' = bool_eq n n' (f Kind.null) (g Kind.null) in
    let bool : b ≡ b' = bool_eq b b' (f Kind.bool) (g Kind.bool) in
    let number : m ≡ m' =
    numeric_eq
    m
    m'
    (bool_eq (has_int m) (has_int m') (f Kind.int) (g Kind.int))
    (bool_eq (has_dec m) (has_dec m') (f Kind.dec) (g Kind.dec)) in
    let text : t ≡ t' = bool_eq t t' (f Kind.text) (g Kind.text) in
    λ i. shape (null i) (bool i) (number i) (text i) (p i) (q i)

Antisymmetric : Shape → Type 0
Antisymmetric s = (t : Shape) → Ascending s → Ascending t → below s t ≡ true → below t s ≡ true → s ≡ t

members_antisym
    : (o p : Option Shape) → InOption Antisymmetric o → InOption Ascending o → InOption Ascending p → AtName o p → AtName p o
    → o ≡ p
unfolding Antisymmetric
members_antisym none none f i j v w = refl
members_antisym none (some b) f i j v w = absurd w
members_antisym (some a) none f i j v w = absurd v
members_antisym (some a) (some b) f i j v w = ap some (f b i j v w)

elements_antisym
    : (e f : Element) → InElement Antisymmetric e → ascending_element e ≡ true → ascending_element f ≡ true → Elements e f
    → Elements f e → e ≡ f
unfolding Antisymmetric ascending
elements_antisym no_list no_list h i j v w = refl
elements_antisym no_list (list_of b) h i j v w = absurd w
elements_antisym (list_of a) no_list h i j v w = absurd v
elements_antisym (list_of a) (list_of b) h i j v w = ap list_of (h b i j v w)

records_antisym
    : (r q : Record) → InRecord Antisymmetric r → ascending_record r ≡ true → ascending_record q ≡ true → Records r q
    → Records q r → r ≡ q
unfolding ascending
records_antisym no_rec no_rec h i j v w = refl
records_antisym no_rec (rec_of gs) h i j v w = absurd w
records_antisym (rec_of fs) no_rec h i j v w = absurd v
records_antisym (rec_of fs) (rec_of gs) h i j v w =
    ap
    rec_of
    (fields_ext
    fs
    gs
    i
    j
    (λ n.
    members_antisym
    (find n fs)
    (find n gs)
    (in_found Antisymmetric fs h n)
    (ascending_found fs i n)
    (ascending_found gs j n)
    (v n)
    (w n)))

antisymmetric : Step Antisymmetric
unfolding Antisymmetric element_of record_of
antisymmetric n b m t e r f g t' i j v w =
    let s : Shape = shape n b m t e r in
    shape_eq
    s
    t'
    (below_kinds s t' v)
    (below_kinds t' s w)
    (elements_antisym
    e
    (element_of t')
    f
    (ascending_of_element s i)
    (ascending_of_element t' j)
    (below_elements s t' v)
    (below_elements t' s w))
    (records_antisym
    r
    (record_of t')
    g
    (ascending_of_record s i)
    (ascending_of_record t' j)
    (below_records s t' v)
    (below_records t' s w))

pub below_antisym
    : (s t : Shape) → ascending s ≡ true → ascending t ≡ true → below s t ≡ true → below t s ≡ true → s ≡ t
unfolding Antisymmetric
below_antisym s = shape_induction s Antisymmetric antisymmetric
