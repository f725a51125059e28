-- Members of shapes: looking one up, putting one in its place, and lists of members as what they hold at each name.
-- Assumes nothing.
use Prim.Native.Nat.{Ordering}
use Rattle.std.specs.Prelude.{◌≡◌, refl, ◌⊎◌, true, false, ◌&&◌}
use Rattle.std.proofs.Common.{sym, ◌∙◌, ap, subst, inl, inr}
use Rattle.std.proofs.Math.Option.{Option, none, some, some-injective}
use Rattle.definitions.specs.Bytes.{Bytes, order, same, found}
use Rattle.definitions.specs.Shape.{Shape, Fields, no_fields, field, find, before, behind, ascending, ascending_fields}
use Rattle.laws.specs.Bools.{and_left, and_right, and_intro, tell, clash}
use Rattle.laws.specs.Names.{order_eq, same_refl, same_eq, eq_same, before_lt, before_gt, before_trans, before_other}

-- ---- what a lookup gives

pub none_some {ℓ} : {X : Type ℓ} {A : Type 0} {o : Option A} {a : A} → o ≡ none → o ≡ some a → X
unfolding found
none_some p q = clash (ap found q) (ap found p)

pub some_same : {A : Type 0} {o : Option A} {a b : A} → o ≡ some a → o ≡ some b → a ≡ b
some_same {a} {b} p q = some-injective a b (sym p ∙ q)

-- ---- find

pub find_here : (n m : Bytes) (s : Shape) (fs : Fields) → same n m ≡ true → find n (field m s fs) ≡ some s
unfolding find
find_here n m s fs e = rw (e, find)

pub find_there : (n m : Bytes) (s : Shape) (fs : Fields) → same n m ≡ false → find n (field m s fs) ≡ find n fs
unfolding find
find_there n m s fs e = rw (e, find)

pub find_first : (n : Bytes) (s : Shape) (fs : Fields) → find n (field n s fs) ≡ some s
find_first n s fs = find_here n n s fs (same_refl n)

pub find_none : (n : Bytes) → find n no_fields ≡ none
unfolding find
find_none n = refl

-- ---- ascending

pub ascending_first : (n : Bytes) (s : Shape) (fs : Fields) → ascending_fields (field n s fs) ≡ true → ascending s ≡ true
unfolding ascending
ascending_first n s fs h = and_left (ascending s) (behind n fs) (and_left (ascending s && behind n fs) (ascending_fields fs) h)

pub ascending_behind : (n : Bytes) (s : Shape) (fs : Fields) → ascending_fields (field n s fs) ≡ true → behind n fs ≡ true
unfolding ascending
ascending_behind n s fs h = and_right (ascending s) (behind n fs) (and_left (ascending s && behind n fs) (ascending_fields fs) h)

pub ascending_rest : (n : Bytes) (s : Shape) (fs : Fields) → ascending_fields (field n s fs) ≡ true → ascending_fields fs ≡ true
unfolding ascending
ascending_rest n s fs h = and_right (ascending s && behind n fs) (ascending_fields fs) h

pub ascending_field
    : (n : Bytes) (s : Shape) (fs : Fields) → ascending s ≡ true → behind n fs ≡ true → ascending_fields fs ≡ true
    → ascending_fields (field n s fs) ≡ true
unfolding ascending
ascending_field n s fs p q r = and_intro (and_intro p q) r

pub behind_trans : (n m : Bytes) (fs : Fields) → before n m ≡ true → behind m fs ≡ true → behind n fs ≡ true
unfolding behind
behind_trans n m no_fields p q = refl
behind_trans n m (field k s fs) p q = before_trans n m k p q

-- a name before all these is none of them
pub find_behind : (n : Bytes) (fs : Fields) → ascending_fields fs ≡ true → behind n fs ≡ true → find n fs ≡ none
unfolding behind find
find_behind n no_fields a h = refl
find_behind n (field m s fs) a h =
    find_there n m s fs (before_other n m h)
    ∙ find_behind n fs (ascending_rest m s fs a) (behind_trans n m fs h (ascending_behind m s fs a))

-- the first name does not come again
pub find_again : (n : Bytes) (s : Shape) (fs : Fields) → ascending_fields (field n s fs) ≡ true → find n fs ≡ none
find_again n s fs a = find_behind n fs (ascending_rest n s fs a) (ascending_behind n s fs a)

pub find_other
    : (k n : Bytes) (s b : Shape) (fs : Fields) → ascending_fields (field n s fs) ≡ true → find k fs ≡ some b → same k n ≡ false
find_other k n s b fs a e = go (tell (same k n))
  where
    go : (same k n ≡ true) ⊎ (same k n ≡ false) → same k n ≡ false
    go (inl h) = none_some (subst (λ (x : Bytes). find x fs ≡ none) (sym (same_eq k n h)) (find_again n s fs a)) e
    go (inr h) = h

-- what the rest holds the whole holds
pub find_rest
    : (k n : Bytes) (s b : Shape) (fs : Fields) → ascending_fields (field n s fs) ≡ true → find k fs ≡ some b
    → find k (field n s fs) ≡ some b
find_rest k n s b fs a e = find_there k n s fs (find_other k n s b fs a e) ∙ e

-- members at any name: the first, or one of the rest
pub find_cases
    : (P : Bytes → Shape → Type 0) (m : Bytes) (s : Shape) (fs : Fields) → P m s → ((n : Bytes) (b : Shape) → find n fs ≡ some b → P n b)
    → (n : Bytes) (b : Shape) → find n (field m s fs) ≡ some b → P n b
find_cases P m s fs first rest n b e = go (tell (same n m))
  where
    go : (same n m ≡ true) ⊎ (same n m ≡ false) → P n b
    go (inl h) =
        subst
        (λ (k : Bytes). P k b)
        (sym (same_eq n m h))
        (subst (P m) (some_same (find_here n m s fs h) e) first)
    go (inr h) = rest n b (sym (find_there n m s fs h) ∙ e)

pub find_ascending : (fs : Fields) (n : Bytes) (b : Shape) → ascending_fields fs ≡ true → find n fs ≡ some b → ascending b ≡ true
find_ascending no_fields n b a e = none_some (find_none n) e
find_ascending (field m s fs) n b a e =
    find_cases
    (λ k c. ascending c ≡ true)
    m
    s
    fs
    (ascending_first m s fs a)
    (λ k c. find_ascending fs k c (ascending_rest m s fs a))
    n
    b
    e

-- ---- lists of members are what they hold at each name

-- two lists that hold the same at each name, and begin with the same name, do so behind it
rest_same
    : (n m : Bytes) (s t : Shape) (fs gs : Fields) → n ≡ m → ascending_fields (field n s fs) ≡ true
    → ascending_fields (field m t gs) ≡ true → ((k : Bytes) → find k (field n s fs) ≡ find k (field m t gs))
    → (k : Bytes) → find k fs ≡ find k gs
rest_same n m s t fs gs p a b h k = go (tell (same k n))
  where
    go : (same k n ≡ true) ⊎ (same k n ≡ false) → find k fs ≡ find k gs
    go (inl e) =
        let q : k ≡ n = same_eq k n e in
        ap (λ x. find x fs) q ∙ find_again n s fs a ∙ sym (ap (λ x. find x gs) (q ∙ p) ∙ find_again m t gs b)
    go (inr e) =
        sym (find_there k n s fs e) ∙ h k ∙ find_there k m t gs (subst (λ (x : Bytes). same k x ≡ false) p e)

pub fields_ext
    : (fs gs : Fields) → ascending_fields fs ≡ true → ascending_fields gs ≡ true → ((n : Bytes) → find n fs ≡ find n gs) → fs ≡ gs
unfolding behind
fields_ext no_fields no_fields a b h = refl
fields_ext no_fields (field m t gs) a b h = none_some (sym (h m) ∙ find_none m) (find_first m t gs)
fields_ext (field n s fs) no_fields a b h = none_some (h n ∙ find_none n) (find_first n s fs)
fields_ext (field n s fs) (field m t gs) a b h =
    go (fields_ext fs gs (ascending_rest n s fs a) (ascending_rest m t gs b)) (order n m) refl
  where
    go
        : (((k : Bytes) → find k fs ≡ find k gs) → fs ≡ gs) → (o : Ordering) → order n m ≡ o
        → Path Fields (field n s fs) (field m t gs)
    go f Ordering.lt e = none_some (find_behind n (field m t gs) b (before_lt n m e)) (sym (h n) ∙ find_first n s fs)
    go f Ordering.eq e =
        let p : n ≡ m = order_eq n m e in
        let q : s ≡ t = some_same (find_first n s fs) (h n ∙ find_here n m t gs (eq_same n m p)) in
        let r : fs ≡ gs = f (rest_same n m s t fs gs p a b h) in
        λ i. field (p i) (q i) (r i)
    go f Ordering.gt e = none_some (find_behind m (field n s fs) a (before_gt n m e)) (h m ∙ find_first m t gs)
