-- Members of a shape embed in those of every shape above it, and whatever counts along grows. Assumes nothing.
use Prim.Native.Nat.{ℕ, suc, ◌≤◌, Ordering}
use Rattle.std.specs.Prelude.{◌≡◌, refl, Bool, true, false}
use Rattle.std.proofs.Common.{◌∙◌, ap}
use Rattle.std.proofs.Math.Path.{subst}
use Rattle.std.proofs.Math.Option.{Option, none, some}
use Rattle.std.proofs.Math.Nat.{le_trans}
use Rattle.definitions.specs.Bytes.{Bytes, order, same}
use Rattle.definitions.specs.Shape.{Shape, shape, Element, no_list, list_of, Record, no_rec, rec_of, Fields, no_fields, field, element_of}
use Rattle.definitions.specs.Shape.{record_of, find, behind, ascending, ascending_element, ascending_record, ascending_fields}
use Rattle.definitions.specs.Order.{below}
use Rattle.laws.specs.Names.{order_eq, same_eq, eq_same, before_lt, before_gt}
use Rattle.laws.specs.Fields.{none_some, find_here, find_there, find_first, find_rest, find_other}
use Rattle.laws.specs.Fields.{find_none, find_behind, ascending_first, ascending_rest}
use Rattle.laws.specs.OrderInduction.{InElement, InFields, InRecord, Step, shape_induction, Ascending, ascending_of_element, ascending_of_record}
use Rattle.laws.specs.OrderParts.{Kinds, Elements, AtName, Records, below_kinds, below_elements, below_records}

-- ---- members that embed in others

-- the first's members stand in order among the second's, each below the one of its name
data Embeds : Fields → Fields → Type 0 where
  done : {gs : Fields} → Embeds no_fields gs
  passed : {fs gs : Fields} (m : Bytes) (b : Shape) → Embeds fs gs → Embeds fs (field m b gs)
  kept
      : {fs gs : Fields} (n m : Bytes) (a b : Shape) → n ≡ m → Ascending a → Ascending b → below a b ≡ true → Embeds fs gs
      → Embeds (field n a fs) (field m b gs)

-- each member of the first is a member of the second, with a shape below
Covered : Fields → Fields → Type 0
Covered fs gs = (n : Bytes) (a : Shape) → find n fs ≡ some a → AtName (some a) (find n gs)

-- a name that the first lacks is not needed
covered_pass : (fs : Fields) (m : Bytes) (b : Shape) (gs : Fields) → find m fs ≡ none → Covered fs (field m b gs) → Covered fs gs
unfolding Covered
covered_pass fs m b gs h f n a e = go (same n m) refl
  where
    go : (x : Bool) → same n m ≡ x → AtName (some a) (find n gs)
    go true i = none_some (ap (λ k. find k fs) (same_eq n m i) ∙ h) e
    go false i = subst (AtName (some a)) (find_there n m b gs i) (f n a e)

-- behind the first name of both
covered_rest
    : (n m : Bytes) (a b : Shape) (fs gs : Fields) → n ≡ m → ascending_fields (field n a fs) ≡ true
    → Covered (field n a fs) (field m b gs) → Covered fs gs
unfolding Covered
covered_rest n m a b fs gs p i f k c e =
    subst
    (AtName (some c))
    (find_there k m b gs (subst (λ (x : Bytes). same k x ≡ false) p (find_other k n a c fs i e)))
    (f k c (find_rest k n a c fs i e))

embeds : (gs fs : Fields) → ascending_fields fs ≡ true → ascending_fields gs ≡ true → Covered fs gs → Embeds fs gs
unfolding Covered behind
embeds no_fields no_fields i j f = done
embeds no_fields (field n a fs) i j f = absurd (subst (AtName (some a)) (find_none n) (f n a (find_first n a fs)))
embeds (field m b gs) no_fields i j f = done
embeds (field m b gs) (field n a fs) i j f = go (λ hs k. embeds gs hs k (ascending_rest m b gs j)) (order n m) refl
  where
    go
        : ((hs : Fields) → ascending_fields hs ≡ true → Covered hs gs → Embeds hs gs) → (o : Ordering) → order n m ≡ o
        → Embeds (field n a fs) (field m b gs)
    go g Ordering.lt e =
        absurd (subst (AtName (some a)) (find_behind n (field m b gs) j (before_lt n m e)) (f n a (find_first n a fs)))
    go g Ordering.eq e =
        let p : n ≡ m = order_eq n m e in
        kept
        n
        m
        a
        b
        p
        (ascending_first n a fs i)
        (ascending_first m b gs j)
        (subst (AtName (some a)) (find_here n m b gs (eq_same n m p)) (f n a (find_first n a fs)))
        (g fs (ascending_rest n a fs i) (covered_rest n m a b fs gs p i f))
    go g Ordering.gt e =
        passed
        m
        b
        (g (field n a fs) i (covered_pass (field n a fs) m b gs (find_behind m (field n a fs) i (before_gt n m e)) f))

-- ---- what grows along with shapes

-- a count over shapes with so many forms around them, and what makes it grow
pub record Growing
    (size : ℕ → Shape → ℕ)
    (element_size : ℕ → Element → ℕ)
    (record_size : ℕ → Record → ℕ)
    (fields_size : ℕ → Fields → ℕ)
    : Type 0 where
  pub shapes
      : (d : ℕ) (s t : Shape) → Kinds s t → element_size (suc d) (element_of s) ≤ element_size (suc d) (element_of t)
      → record_size (suc d) (record_of s) ≤ record_size (suc d) (record_of t) → size d s ≤ size d t
  pub no_element : (d : ℕ) (e : Element) → element_size d no_list ≤ element_size d e
  pub elements : (d : ℕ) (a b : Shape) → size d a ≤ size d b → element_size d (list_of a) ≤ element_size d (list_of b)
  pub no_record : (d : ℕ) (r : Record) → record_size d no_rec ≤ record_size d r
  pub records : (d : ℕ) (fs gs : Fields) → fields_size d fs ≤ fields_size d gs → record_size d (rec_of fs) ≤ record_size d (rec_of gs)
  pub no_members : (d : ℕ) (gs : Fields) → fields_size d no_fields ≤ fields_size d gs
  pub one_more : (d : ℕ) (n : Bytes) (b : Shape) (gs : Fields) → fields_size d gs ≤ fields_size d (field n b gs)
  pub members
      : (d : ℕ) (n : Bytes) (a b : Shape) (fs gs : Fields) → size (suc d) a ≤ size (suc d) b
      → fields_size d fs ≤ fields_size d gs → fields_size d (field n a fs) ≤ fields_size d (field n b gs)

module _
    (size : ℕ → Shape → ℕ)
    (element_size : ℕ → Element → ℕ)
    (record_size : ℕ → Record → ℕ)
    (fields_size : ℕ → Fields → ℕ)
    (law : Growing size element_size record_size fields_size)
  where
    Grows : Shape → Type 0
    Grows s = (t : Shape) → Ascending s → Ascending t → below s t ≡ true → (d : ℕ) → size d s ≤ size d t

    fields_grow : (d : ℕ) (fs gs : Fields) → Embeds fs gs → InFields Grows fs → fields_size d fs ≤ fields_size d gs
    unfolding Grows
    fields_grow d _ _ (done {gs}) f = law.no_members d gs
    fields_grow d _ _ (passed {fs} {gs} m b h) f = le_trans (fields_grow d fs gs h f) (law.one_more d m b gs)
    fields_grow d _ _ (kept {fs} {gs} n m a b p i j w h) f =
        subst
        (λ (k : Bytes). fields_size d (field n a fs) ≤ fields_size d (field k b gs))
        p
        (law.members d n a b fs gs (f.0 b i j w (suc d)) (fields_grow d fs gs h f.1))

    elements_grow
        : (e f : Element) → InElement Grows e → ascending_element e ≡ true → ascending_element f ≡ true → Elements e f → (d : ℕ)
        → element_size d e ≤ element_size d f
    unfolding Grows ascending
    elements_grow no_list f h i j w d = law.no_element d f
    elements_grow (list_of a) no_list h i j w d = absurd w
    elements_grow (list_of a) (list_of b) h i j w d = law.elements d a b (h b i j w d)

    records_grow
        : (r q : Record) → InRecord Grows r → ascending_record r ≡ true → ascending_record q ≡ true → Records r q → (d : ℕ)
        → record_size d r ≤ record_size d q
    unfolding ascending Covered
    records_grow no_rec q h i j w d = law.no_record d q
    records_grow (rec_of fs) no_rec h i j w d = absurd w
    records_grow (rec_of fs) (rec_of gs) h i j w d =
        law.records
        d
        fs
        gs
        (fields_grow
        d
        fs
        gs
        (embeds gs fs i j (λ n a e. subst (λ (o : Option Shape). AtName o (find n gs)) e (w n)))
        h)

    grows : Step Grows
    unfolding Grows element_of record_of
    grows n b m t e r f g u i j w d =
        let s : Shape = shape n b m t e r in
        law.shapes
        d
        s
        u
        (below_kinds s u w)
        (elements_grow e (element_of u) f (ascending_of_element s i) (ascending_of_element u j) (below_elements s u w) (suc d))
        (records_grow r (record_of u) g (ascending_of_record s i) (ascending_of_record u j) (below_records s u w) (suc d))

    pub size_mono : (s t : Shape) → ascending s ≡ true → ascending t ≡ true → below s t ≡ true → (d : ℕ) → size d s ≤ size d t
    unfolding Grows
    size_mono s = shape_induction s Grows grows
