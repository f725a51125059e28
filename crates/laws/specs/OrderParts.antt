-- The order of shapes by its parts: `below` says one thing for each kind, for the elements, and for each name.
-- Assumes nothing.
use Rattle.std.specs.Prelude.{◌≡◌, refl, Bool, true, false, not, ◌&&◌, ◌||◌, List, [], ◌∷◌}
use Rattle.std.proofs.Common.{subst}
use Rattle.std.proofs.lemmas.Bool.{false≢true}
use Rattle.std.proofs.Math.Option.{Option, none, some}
use Rattle.definitions.specs.Bytes.{Bytes, found}
use Rattle.definitions.specs.Shape.{Kind, all_kinds, every, Shape, shape, Element, no_list, list_of, Record, no_rec, rec_of, Fields}
use Rattle.definitions.specs.Shape.{no_fields, field, has, element_of, record_of, find, ascending, ascending_record, ascending_fields}
use Rattle.definitions.specs.Order.{kinds_in, lacked_have_null, below, below_element, below_record, below_fields}
use Rattle.laws.specs.Bools.{and_left, and_right, and_intro, implied}
use Rattle.laws.specs.Fields.{none_some, find_first, find_none, find_rest, find_cases, ascending_rest}
use Rattle.laws.specs.OrderInduction.{ascending_of_record}

-- ---- kinds

data Listed (k : Kind) : List Kind → Type 0 where
  here : {ks : List Kind} → Listed k (k ∷ ks)
  there : {j : Kind} {ks : List Kind} → Listed k ks → Listed k (j ∷ ks)

listed : (k : Kind) → Listed k all_kinds
unfolding all_kinds
listed Kind.null = here
listed Kind.bool = there here
listed Kind.int = there (there here)
listed Kind.dec = there (there (there here))
listed Kind.text = there (there (there (there here)))
listed Kind.list = there (there (there (there (there here))))
listed Kind.rec = there (there (there (there (there (there here)))))

every_at : (p : Kind → Bool) (k : Kind) (ks : List Kind) → Listed k ks → every p ks ≡ true → p k ≡ true
unfolding every
every_at p k _ (here {ks}) h = and_left (p k) (every p ks) h
every_at p k _ (there {j} {ks} i) h = every_at p k ks i (and_right (p j) (every p ks) h)

pub every_kind : (p : Kind → Bool) → every p all_kinds ≡ true → (k : Kind) → p k ≡ true
every_kind p h k = every_at p k all_kinds (listed k) h

pub every_intro : (p : Kind → Bool) (ks : List Kind) → ((k : Kind) → p k ≡ true) → every p ks ≡ true
unfolding every
every_intro p [] h = refl
every_intro p (k ∷ ks) h = and_intro (h k) (every_intro p ks h)

imply_intro : (a b : Bool) → (a ≡ true → b ≡ true) → not a || b ≡ true
imply_intro true b h = h refl
imply_intro false b h = refl

-- "A's kinds are all in B"
abbrev pub Kinds : Shape → Shape → Type 0
Kinds s t = (k : Kind) → has k s ≡ true → has k t ≡ true

kinds_use : (s t : Shape) → kinds_in s t ≡ true → Kinds s t
unfolding kinds_in
kinds_use s t h k = implied (has k s) (has k t) (every_kind (λ j. not (has j s) || has j t) h k)

kinds_intro : (s t : Shape) → Kinds s t → kinds_in s t ≡ true
unfolding kinds_in
kinds_intro s t h = every_intro (λ j. not (has j s) || has j t) all_kinds (λ k. imply_intro (has k s) (has k t) (h k))

-- ---- elements

abbrev pub Elements : Element → Element → Type 0
Elements no_list f = Unit {0}
Elements (list_of a) no_list = ⊥
Elements (list_of a) (list_of b) = below a b ≡ true

elements_use : (e f : Element) → below_element e f ≡ true → Elements e f
unfolding below
elements_use no_list f h = tt
elements_use (list_of a) no_list h = absurd (false≢true h)
elements_use (list_of a) (list_of b) h = h

elements_intro : (e f : Element) → Elements e f → below_element e f ≡ true
unfolding below
elements_intro no_list f h = refl
elements_intro (list_of a) no_list h = absurd h
elements_intro (list_of a) (list_of b) h = h

-- ---- members

-- what one record holds at a name against what another holds there
abbrev pub AtName : Option Shape → Option Shape → Type 0
AtName none none = Unit {0}
AtName none (some b) = has Kind.null b ≡ true
AtName (some a) none = ⊥
AtName (some a) (some b) = below a b ≡ true

abbrev pub Records : Record → Record → Type 0
Records no_rec r = Unit {0}
Records (rec_of fs) no_rec = ⊥
Records (rec_of fs) (rec_of gs) = (n : Bytes) → AtName (find n fs) (find n gs)

-- the member is listed, with a shape below the one listed
listed_below : Shape → Option Shape → Bool
listed_below a o = elim o [ none ↦ false | some b ↦ below a b ]

listed_use : (a : Shape) (o : Option Shape) → listed_below a o ≡ true → AtName (some a) o
unfolding listed_below
listed_use a none h = absurd (false≢true h)
listed_use a (some b) h = h

listed_intro : (a : Shape) (o : Option Shape) → AtName (some a) o → listed_below a o ≡ true
unfolding listed_below
listed_intro a none h = absurd h
listed_intro a (some b) h = h

fields_use
    : (fs gs : Fields) → below_fields fs gs ≡ true → (n : Bytes) (a : Shape) → find n fs ≡ some a → AtName (some a) (find n gs)
unfolding below listed_below
fields_use no_fields gs h = λ n a e. none_some (find_none n) e
fields_use (field m s fs) gs h =
    find_cases
    (λ n a. AtName (some a) (find n gs))
    m
    s
    fs
    (listed_use s (find m gs) (and_left (listed_below s (find m gs)) (below_fields fs gs) h))
    (fields_use fs gs (and_right (listed_below s (find m gs)) (below_fields fs gs) h))

fields_intro
    : (fs gs : Fields) → ascending_fields fs ≡ true
    → ((n : Bytes) (a : Shape) → find n fs ≡ some a → AtName (some a) (find n gs)) → below_fields fs gs ≡ true
unfolding below listed_below
fields_intro no_fields gs h f = refl
fields_intro (field m s fs) gs h f =
    and_intro
    (listed_intro s (find m gs) (f m s (find_first m s fs)))
    (fields_intro fs gs (ascending_rest m s fs h) (λ n a e. f n a (find_rest n m s a fs h e)))

-- "each member of B that A lacks has null in B"
lacking_use
    : (fs gs : Fields) → lacked_have_null fs gs ≡ true → (n : Bytes) (b : Shape) → find n gs ≡ some b
    → found (find n fs) || has Kind.null b ≡ true
unfolding lacked_have_null
lacking_use fs no_fields h = λ n b e. none_some (find_none n) e
lacking_use fs (field m s gs) h =
    find_cases
    (λ n b. found (find n fs) || has Kind.null b ≡ true)
    m
    s
    gs
    (and_left (found (find m fs) || has Kind.null s) (lacked_have_null fs gs) h)
    (lacking_use fs gs (and_right (found (find m fs) || has Kind.null s) (lacked_have_null fs gs) h))

lacking_intro
    : (fs gs : Fields) → ascending_fields gs ≡ true
    → ((n : Bytes) (b : Shape) → find n gs ≡ some b → found (find n fs) || has Kind.null b ≡ true) → lacked_have_null fs gs ≡ true
unfolding lacked_have_null
lacking_intro fs no_fields h f = refl
lacking_intro fs (field m s gs) h f =
    and_intro (f m s (find_first m s gs)) (lacking_intro fs gs (ascending_rest m s gs h) (λ n b e. f n b (find_rest n m s b gs h e)))

-- both conditions at one name
pub at_name
    : (o p : Option Shape) → ((a : Shape) → o ≡ some a → AtName (some a) p)
    → ((b : Shape) → p ≡ some b → found o || has Kind.null b ≡ true) → AtName o p
unfolding found
at_name none none f g = tt
at_name none (some b) f g = g b refl
at_name (some a) p f g = f a refl

pub lacking_at : (o : Option Shape) (b : Shape) → AtName o (some b) → found o || has Kind.null b ≡ true
unfolding found
lacking_at none b h = h
lacking_at (some a) b h = refl

records_use : (r q : Record) → below_record r q ≡ true → Records r q
unfolding below
records_use no_rec q h = tt
records_use (rec_of fs) no_rec h = absurd (false≢true h)
records_use (rec_of fs) (rec_of gs) h = λ n.
    at_name
    (find n fs)
    (find n gs)
    (fields_use fs gs (and_left (below_fields fs gs) (lacked_have_null fs gs) h) n)
    (lacking_use fs gs (and_right (below_fields fs gs) (lacked_have_null fs gs) h) n)

pub records_intro : (r q : Record) → ascending_record r ≡ true → ascending_record q ≡ true → Records r q → below_record r q ≡ true
unfolding below ascending
records_intro no_rec q i j h = refl
records_intro (rec_of fs) no_rec i j h = absurd h
records_intro (rec_of fs) (rec_of gs) i j h =
    and_intro
    (fields_intro fs gs i (λ n a e. subst (λ (o : Option Shape). AtName o (find n gs)) e (h n)))
    (lacking_intro
    fs
    gs
    j
    (λ n b e. lacking_at (find n fs) b (subst (λ (o : Option Shape). AtName (find n fs) o) e (h n))))

-- ---- below

pub below_kinds : (s t : Shape) → below s t ≡ true → Kinds s t
unfolding below
below_kinds (shape n b m t e r) s h =
    kinds_use
    (shape n b m t e r)
    s
    (and_left
    (kinds_in (shape n b m t e r) s)
    (below_element e (element_of s))
    (and_left (kinds_in (shape n b m t e r) s && below_element e (element_of s)) (below_record r (record_of s)) h))

pub below_elements : (s t : Shape) → below s t ≡ true → Elements (element_of s) (element_of t)
unfolding below element_of
below_elements (shape n b m t e r) s h =
    elements_use
    e
    (element_of s)
    (and_right
    (kinds_in (shape n b m t e r) s)
    (below_element e (element_of s))
    (and_left (kinds_in (shape n b m t e r) s && below_element e (element_of s)) (below_record r (record_of s)) h))

pub below_records : (s t : Shape) → below s t ≡ true → Records (record_of s) (record_of t)
unfolding below record_of
below_records (shape n b m t e r) s h =
    records_use
    r
    (record_of s)
    (and_right (kinds_in (shape n b m t e r) s && below_element e (element_of s)) (below_record r (record_of s)) h)

pub below_intro
    : (s t : Shape) → ascending s ≡ true → ascending t ≡ true → Kinds s t → Elements (element_of s) (element_of t)
    → Records (record_of s) (record_of t) → below s t ≡ true
unfolding below element_of record_of
below_intro (shape n b m t e r) s i j p q w =
    and_intro
    (and_intro (kinds_intro (shape n b m t e r) s p) (elements_intro e (element_of s) q))
    (records_intro
    r
    (record_of s)
    (ascending_of_record (shape n b m t e r) i)
    (ascending_of_record s j)
    w)
