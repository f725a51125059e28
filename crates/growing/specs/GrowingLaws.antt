-- A shape that grows in place, part by part, becomes a join, where its names ascend. Assumes nothing.
use Prim.Native.Nat.{Ordering}
use Rattle.std.specs.Prelude.{◌≡◌, refl, ◌⊎◌, Bool, true, false, not, ◌&&◌, ◌||◌}
use Rattle.std.proofs.Common.{sym, ◌∙◌, ap, ap₂, inl, inr}
use Rattle.std.proofs.Math.Bool.{or-false}
use Rattle.std.proofs.Math.Option.{Option, none, some}
use Rattle.definitions.specs.Bytes.{Bytes, order, same, found}
use Rattle.definitions.specs.Shape.{Shape, shape, Element, no_list, list_of, Record, no_rec, rec_of}
use Rattle.definitions.specs.Shape.{Fields, no_fields, field, nothing, find, has_rec, element_of, record_of, behind, ascending, ascending_element}
use Rattle.definitions.specs.Shape.{ascending_record, ascending_fields, only_null, only_list, only_rec}
use Rattle.definitions.specs.Join.{with_null, join_numeric, add_null, insert, join, join_element, join_record, join_fields}
use Rattle.laws.specs.Bools.{tell, and_left, and_right, or_left, or_right, not_true, clash}
use Rattle.laws.specs.Names.{order_eq, same_refl, same_eq, eq_same, before_lt, before_gt, before_other_sym}
use Rattle.laws.specs.Fields.{find_here, find_there, find_behind, ascending_first, ascending_behind, ascending_rest, ascending_field, fields_ext}
use Rattle.laws.specs.FieldsPut.{with_null_ascending, find_insert_here, find_insert_there, insert_ascending, add_null_ascending}
use Rattle.laws.specs.OrderInduction.{InOption, Ascending, ascending_of_record, ascending_found}
use Rattle.laws.specs.JoinParts.{join_option, find_join, join_fields_ascending}
use Rattle.laws.specs.JoinLaws.{nothing_ascending, join_nothing_left, join_ascending, numeric_nothing, element_nothing, record_nothing}
use Rattle.growing.specs.Growing.{with_element, with_fields, element_start, fields_start, member_start, place, null_if_lacked}
use Rattle.growing.specs.Growing.{null_lacked, null_others, named, in_order, join_in}

-- ---- parts

null_first : (s : Shape) → join only_null s ≡ with_null s
unfolding join only_null with_null join_numeric
null_first (shape n b m t e r) = refl

pub list_is
    : (a : Shape) (s : Shape) (c : Shape) → join_element (element_of s) (list_of a) ≡ list_of c
    → join s (only_list (list_of a)) ≡ with_element c s
unfolding join only_list with_element element_of
list_is a (shape n b m t e r) c h =
    λ i. shape (or-false n i) (or-false b i) (numeric_nothing m i) (or-false t i) (h i) (record_nothing r i)

pub rec_is
    : (fs : Fields) (s : Shape) (gs : Fields) → join_record (record_of s) (rec_of fs) ≡ rec_of gs
    → join s (only_rec (rec_of fs)) ≡ with_fields gs s
unfolding join only_rec with_fields record_of
rec_is fs (shape n b m t e r) gs h =
    λ i. shape (or-false n i) (or-false b i) (numeric_nothing m i) (or-false t i) (element_nothing e i) (h i)

-- ---- elements

pub element_joined : (e : Element) (t : Shape) → join_element e (list_of t) ≡ list_of (join (element_start e) t)
unfolding join element_start
element_joined no_list t = ap list_of (sym (join_nothing_left t))
element_joined (list_of a) t = refl

-- a list joined in
pub element_is : (t s : Shape) → join s (only_list (list_of t)) ≡ with_element (join (element_start (element_of s)) t) s
element_is t s = list_is t s (join (element_start (element_of s)) t) (element_joined (element_of s) t)

pub element_start_ascending : (e : Element) → ascending_element e ≡ true → ascending (element_start e) ≡ true
unfolding ascending element_start
element_start_ascending no_list i = nothing_ascending
element_start_ascending (list_of a) i = i

-- ---- a member put among others

-- what stands there, else a start
abbrev pub or_start : Shape → Option Shape → Shape
or_start st none = st
or_start st (some b) = b

place_insert
    : (n : Bytes) (st : Shape) (f : Shape → Shape) (gs : Fields) → ascending_fields gs ≡ true
    → place n st f gs ≡ insert n (f (or_start st (find n gs))) gs
unfolding place insert find behind
place_insert n st f no_fields a = refl
place_insert n st f (field m b gs) a = go (place_insert n st f gs (ascending_rest m b gs a)) (order n m) refl
  where
    at_lt : order n m ≡ Ordering.lt → or_start st (find n (field m b gs)) ≡ st
    at_lt e = ap (or_start st) (find_behind n (field m b gs) a (before_lt n m e))

    at_eq : order n m ≡ Ordering.eq → or_start st (find n (field m b gs)) ≡ b
    at_eq e = ap (or_start st) (find_here n m b gs (eq_same n m (order_eq n m e)))

    at_gt : order n m ≡ Ordering.gt → or_start st (find n gs) ≡ or_start st (find n (field m b gs))
    at_gt e = ap (or_start st) (sym (find_there n m b gs (before_other_sym m n (before_gt n m e))))

    go
        : place n st f gs ≡ insert n (f (or_start st (find n gs))) gs → (o : Ordering) → order n m ≡ o
        → place n st f (field m b gs) ≡ insert n (f (or_start st (find n (field m b gs)))) (field m b gs)
    go h Ordering.lt e =
        rw (e, place, insert) (ap (λ s. field n (f s) (field m b gs)) (sym (at_lt e)))
    go h Ordering.eq e =
        rw (e, place, insert)
        (ap (λ k. field k (f b) gs) (sym (order_eq n m e)) ∙ ap (λ s. field n (f s) gs) (sym (at_eq e)))
    go h Ordering.gt e =
        rw (e, place, insert) (ap (field m b) (h ∙ ap (λ s. insert n (f s) gs) (at_gt e)))

pub find_place
    : (n : Bytes) (st : Shape) (f : Shape → Shape) (fs : Fields) → ascending_fields fs ≡ true
    → find n (place n st f fs) ≡ some (f (or_start st (find n fs)))
find_place n st f fs a = ap (find n) (place_insert n st f fs a) ∙ find_insert_here n (f (or_start st (find n fs))) fs a

-- a member of this name alone changes, and it is joined
record Put (n : Bytes) (a st : Shape) (fs gs : Fields) : Type 0 where
  ascends : ascending_fields gs ≡ true
  here : find n gs ≡ some (join (or_start st (find n fs)) a)
  there : (k : Bytes) → same k n ≡ false → find k gs ≡ find k fs

or_start_ascending : (st : Shape) (o : Option Shape) → ascending st ≡ true → InOption Ascending o → ascending (or_start st o) ≡ true
or_start_ascending st none i h = i
or_start_ascending st (some b) i h = h

put_place
    : (n : Bytes) (a st : Shape) (f : Shape → Shape) (fs : Fields) → ascending a ≡ true → ascending st ≡ true
    → ascending_fields fs ≡ true → ((s : Shape) → ascending s ≡ true → f s ≡ join s a) → Put n a st fs (place n st f fs)
put_place n a st f fs i j k h =
    let x : ascending (or_start st (find n fs)) ≡ true = or_start_ascending st (find n fs) j (ascending_found fs k n) in
    let c : Shape = join (or_start st (find n fs)) a in
    let e : place n st f fs ≡ insert n c fs =
    place_insert n st f fs k ∙ ap (λ s. insert n s fs) (h (or_start st (find n fs)) x) in
    record {
      ascends = ap ascending_fields e ∙ insert_ascending n c fs (join_ascending (or_start st (find n fs)) a x i) k;
      here = ap (find n) e ∙ find_insert_here n c fs k;
      there = λ m d. ap (find m) e ∙ find_insert_there m n c fs d;
    }

-- ---- members in any order

-- no name comes twice
unfoldable pub apart : Fields → Bool
apart no_fields = true
apart (field n a fs) = not (named fs n) && apart fs

-- the shapes' own names ascend
unfoldable pub rising : Fields → Bool
rising no_fields = true
rising (field n a fs) = ascending a && rising fs

pub named_field : (k n : Bytes) (a : Shape) (fs : Fields) → named (field n a fs) k ≡ same k n || named fs k
unfolding named find found
named_field k n a fs = go (same k n)
  where
    go
        : (b : Bool)
        → found {A = Shape} (elim b as (λ (x : Bool). Option Shape) [ true ↦ some a | false ↦ find k fs ]) ≡ b || found (find k fs)
    go true = refl
    go false = refl

pub in_order_ascending : (fs : Fields) → rising fs ≡ true → ascending_fields (in_order fs) ≡ true
unfolding rising in_order ascending
in_order_ascending no_fields h = refl
in_order_ascending (field n a fs) h =
    insert_ascending n a (in_order fs) (and_left (ascending a) (rising fs) h) (in_order_ascending fs (and_right (ascending a) (rising fs) h))

order_here
    : (k n : Bytes) (a : Shape) (fs : Fields) → rising fs ≡ true → same k n ≡ true → find k (in_order (field n a fs)) ≡ some a
unfolding in_order
order_here k n a fs h e =
    ap (λ x. find x (insert n a (in_order fs))) (same_eq k n e) ∙ find_insert_here n a (in_order fs) (in_order_ascending fs h)

order_there : (k n : Bytes) (a : Shape) (fs : Fields) → same k n ≡ false → find k (in_order (field n a fs)) ≡ find k (in_order fs)
unfolding in_order
order_there k n a fs e = find_insert_there k n a (in_order fs) e

found_in_order : (k : Bytes) (fs : Fields) → rising fs ≡ true → found (find k (in_order fs)) ≡ named fs k
unfolding named in_order find rising
found_in_order k no_fields h = refl
found_in_order k (field n a fs) h =
    let i : rising fs ≡ true = and_right (ascending a) (rising fs) h in
    go i (found_in_order k fs i) (tell (same k n))
  where
    go
        : rising fs ≡ true → found (find k (in_order fs)) ≡ found (find k fs) → (same k n ≡ true) ⊎ (same k n ≡ false)
        → found (find k (in_order (field n a fs))) ≡ found (find k (field n a fs))
    go i j (inl e) = ap found (order_here k n a fs i e ∙ sym (find_here k n a fs e))
    go i j (inr e) = ap found (order_there k n a fs e) ∙ j ∙ ap found (sym (find_there k n a fs e))

-- what is at a name after members are joined in, their own member there being the second
abbrev joined : Shape → Option Shape → Option Shape → Option Shape
joined st o none = o
joined st o (some a) = some (join (or_start st o) a)

-- the members gs joined into fs come to hs
record JoinedIn (gs : Fields) (st : Shape) (fs hs : Fields) : Type 0 where
  ascends : ascending_fields hs ≡ true
  at : (k : Bytes) → find k hs ≡ joined st (find k fs) (find k (in_order gs))

none_there : (k : Bytes) (fs : Fields) → rising fs ≡ true → named fs k ≡ false → find k (in_order fs) ≡ none
unfolding found
none_there k fs i h = go (find k (in_order fs)) refl
  where
    go : (o : Option Shape) → find k (in_order fs) ≡ o → find k (in_order fs) ≡ none
    go none e = e
    go (some a) e = clash (ap found e) (found_in_order k fs i ∙ h)

joined_none : (st : Shape) (fs : Fields) → ascending_fields fs ≡ true → JoinedIn no_fields st fs fs
unfolding in_order find
joined_none st fs i = record { ascends = i; at = λ k. refl }

joined_field
    : (n : Bytes) (a : Shape) (gs : Fields) (st : Shape) (fs hs is : Fields) → rising gs ≡ true → named gs n ≡ false
    → Put n a st fs hs → JoinedIn gs st hs is → JoinedIn (field n a gs) st fs is
joined_field n a gs st fs hs is i d p q = record { ascends = q.ascends; at = λ k. go k (tell (same k n)) }
  where
    here : find n is ≡ some (join (or_start st (find n fs)) a)
    here = q.at n ∙ ap (joined st (find n hs)) (none_there n gs i d) ∙ p.here

    go : (k : Bytes) → (same k n ≡ true) ⊎ (same k n ≡ false) → find k is ≡ joined st (find k fs) (find k (in_order (field n a gs)))
    go k (inl e) =
        let m : k ≡ n = same_eq k n e in
        ap (λ x. find x is) m
        ∙ here
        ∙ ap (λ x. some (join (or_start st (find x fs)) a)) (sym m)
        ∙ ap (joined st (find k fs)) (sym (order_here k n a gs i e))
    go k (inr e) =
        q.at k
        ∙ ap (λ o. joined st o (find k (in_order gs))) (p.there k e)
        ∙ ap (joined st (find k fs)) (sym (order_there k n a gs e))

join_in_is
    : (gs : Fields) (st : Shape) (fs : Fields) → rising gs ≡ true → apart gs ≡ true → ascending st ≡ true → ascending_fields fs ≡ true
    → JoinedIn gs st fs (join_in gs st fs)
unfolding rising apart join_in
join_in_is no_fields st fs i d j k = joined_none st fs k
join_in_is (field n a gs) st fs i d j k =
    let x : ascending a ≡ true = and_left (ascending a) (rising gs) i in
    let y : rising gs ≡ true = and_right (ascending a) (rising gs) i in
    let p : Put n a st fs (place n st (λ s. join s a) fs) = put_place n a st (λ s. join s a) fs x j k (λ s l. refl) in
    joined_field
    n
    a
    gs
    st
    fs
    (place n st (λ s. join s a) fs)
    (join_in gs st (place n st (λ s. join s a) fs))
    y
    (not_true (named gs n) (and_left (not (named gs n)) (apart gs) d))
    p
    (join_in_is gs st (place n st (λ s. join s a) fs) y (and_right (not (named gs n)) (apart gs) d) j p.ascends)

-- each name of those joined in is there
pub joined_named
    : (gs : Fields) (st : Shape) (fs : Fields) (k : Bytes) → rising gs ≡ true → apart gs ≡ true → ascending st ≡ true
    → ascending_fields fs ≡ true → named gs k ≡ true → named (join_in gs st fs) k ≡ true
unfolding named found
joined_named gs st fs k i d j a h =
    ap found ((join_in_is gs st fs i d j a).at k) ∙ go (find k (in_order gs)) (found_in_order k gs i ∙ h)
  where
    go : (o : Option Shape) → found o ≡ true → found (joined st (find k fs) o) ≡ true
    go none e = clash e refl
    go (some c) e = refl

-- a member placed among members whose names ascend
pub place_ascending
    : (n : Bytes) (a st : Shape) (fs : Fields) → ascending a ≡ true → ascending st ≡ true → ascending_fields fs ≡ true
    → ascending_fields (place n st (λ s. join s a) fs) ≡ true
place_ascending n a st fs i j k = (put_place n a st (λ s. join s a) fs i j k (λ s l. refl)).ascends

-- f does what the join does, where names ascend
pub place_same
    : (n : Bytes) (a st : Shape) (f : Shape → Shape) (fs : Fields) → ascending st ≡ true → ascending_fields fs ≡ true
    → ((s : Shape) → ascending s ≡ true → f s ≡ join s a) → place n st f fs ≡ place n st (λ s. join s a) fs
place_same n a st f fs j k h =
    let x : ascending (or_start st (find n fs)) ≡ true = or_start_ascending st (find n fs) j (ascending_found fs k n) in
    place_insert n st f fs k
    ∙ ap (λ s. insert n s fs) (h (or_start st (find n fs)) x)
    ∙ sym (place_insert n st (λ s. join s a) fs k)

-- ---- null added to what is lacked

abbrev null_option : Bool → Option Shape → Option Shape
null_option b none = none
null_option b (some s) = some (null_if_lacked b s)

find_null_lacked : (there : Bytes → Bool) (fs : Fields) (k : Bytes) → find k (null_lacked there fs) ≡ null_option (there k) (find k fs)
unfolding null_lacked find
find_null_lacked there no_fields k = refl
find_null_lacked there (field n s fs) k = go (find_null_lacked there fs k) (tell (same k n))
  where
    go
        : find k (null_lacked there fs) ≡ null_option (there k) (find k fs) → (same k n ≡ true) ⊎ (same k n ≡ false)
        → find k (null_lacked there (field n s fs)) ≡ null_option (there k) (find k (field n s fs))
    go h (inl e) =
        find_here k n (null_if_lacked (there n) s) (null_lacked there fs) e
        ∙ ap (λ x. some (null_if_lacked (there x) s)) (sym (same_eq k n e))
        ∙ ap (null_option (there k)) (sym (find_here k n s fs e))
    go h (inr e) =
        find_there k n (null_if_lacked (there n) s) (null_lacked there fs) e
        ∙ h
        ∙ ap (null_option (there k)) (sym (find_there k n s fs e))

null_if_lacked_ascending : (b : Bool) (s : Shape) → ascending s ≡ true → ascending (null_if_lacked b s) ≡ true
unfolding null_if_lacked
null_if_lacked_ascending true s h = h
null_if_lacked_ascending false s h = with_null_ascending s h

null_lacked_behind : (there : Bytes → Bool) (n : Bytes) (fs : Fields) → behind n (null_lacked there fs) ≡ behind n fs
unfolding null_lacked behind
null_lacked_behind there n no_fields = refl
null_lacked_behind there n (field m s fs) = refl

null_lacked_ascending : (there : Bytes → Bool) (fs : Fields) → ascending_fields fs ≡ true → ascending_fields (null_lacked there fs) ≡ true
unfolding null_lacked
null_lacked_ascending there no_fields h = h
null_lacked_ascending there (field n s fs) h =
    ascending_field
    n
    (null_if_lacked (there n) s)
    (null_lacked there fs)
    (null_if_lacked_ascending (there n) s (ascending_first n s fs h))
    (null_lacked_behind there n fs ∙ ascending_behind n s fs h)
    (null_lacked_ascending there fs (ascending_rest n s fs h))

lacked_none : (there : Bytes → Bool) (fs : Fields) → ((k : Bytes) → named fs k ≡ true → there k ≡ true) → null_lacked there fs ≡ fs
unfolding null_lacked null_if_lacked
lacked_none there no_fields h = refl
lacked_none there (field n s fs) h =
    ap₂
    (λ b gs. field n (null_if_lacked b s) gs)
    (h n (named_field n n s fs ∙ or_left (named fs n) (same_refl n)))
    (lacked_none there fs (λ k e. h k (named_field k n s fs ∙ or_right (same k n) e)))

-- no null where all are there
pub others_there
    : (had : Bool) (there : Bytes → Bool) (fs : Fields) → ((k : Bytes) → named fs k ≡ true → there k ≡ true) → null_others had there fs ≡ fs
unfolding null_others
others_there false there fs h = refl
others_there true there fs h = lacked_none there fs h

lacked_same : (f g : Bytes → Bool) (fs : Fields) → ((k : Bytes) → f k ≡ g k) → null_lacked f fs ≡ null_lacked g fs
unfolding null_lacked
lacked_same f g no_fields h = refl
lacked_same f g (field n s fs) h = ap₂ (λ b gs. field n (null_if_lacked b s) gs) (h n) (lacked_same f g fs h)

pub others_same
    : (had : Bool) (f g : Bytes → Bool) (fs : Fields) → ((k : Bytes) → f k ≡ g k) → null_others had f fs ≡ null_others had g fs
unfolding null_others
others_same false f g fs h = refl
others_same true f g fs h = lacked_same f g fs h

-- ---- records

-- "A record has rec and its members' shapes"
joined_nothing : (o p : Option Shape) → o ≡ none → joined nothing o p ≡ p
joined_nothing o none e = e
joined_nothing o (some a) e = ap (λ x. some (join (or_start nothing x) a)) e ∙ ap some (join_nothing_left a)

-- "members in both joined, a member of only one kept with null added"
joined_both : (b : Bool) (o p : Option Shape) → found p ≡ b → null_option b (joined only_null o p) ≡ join_option o p
unfolding found null_if_lacked
joined_both b none none e = refl
joined_both true (some s) none e = clash e refl
joined_both false (some s) none e = refl
joined_both true none (some a) e = ap some (null_first a)
joined_both false none (some a) e = clash refl e
joined_both true (some s) (some a) e = refl
joined_both false (some s) (some a) e = clash refl e

pub fields_start_ascending : (r : Record) → ascending_record r ≡ true → ascending_fields (fields_start r) ≡ true
unfolding ascending fields_start
fields_start_ascending no_rec i = refl
fields_start_ascending (rec_of fs) i = i

pub member_start_ascending : (had : Bool) → ascending (member_start had) ≡ true
unfolding member_start only_null ascending
member_start_ascending false = nothing_ascending
member_start_ascending true = refl

-- members in any order joined into those of a record, one after the other, and null added to those that are lacked
pub records_joined
    : (gs : Fields) (r : Record) → rising gs ≡ true → apart gs ≡ true → ascending_record r ≡ true
    → join_record r (rec_of (in_order gs))
    ≡ rec_of (null_others (has_rec r) (named gs) (join_in gs (member_start (has_rec r)) (fields_start r)))
unfolding join member_start fields_start null_others find ascending has_rec
records_joined gs no_rec i d h =
    let j = join_in_is gs nothing no_fields i d nothing_ascending refl in
    ap rec_of
    (fields_ext (in_order gs) (join_in gs nothing no_fields) (in_order_ascending gs i) j.ascends
    (λ k. sym (j.at k ∙ joined_nothing none (find k (in_order gs)) refl)))
records_joined gs (rec_of fs) i d h =
    let hs : Fields = join_in gs only_null fs in
    let j = join_in_is gs only_null fs i d (member_start_ascending true) h in
    let o : ascending_fields (in_order gs) ≡ true = in_order_ascending gs i in
    ap rec_of
    (fields_ext
    (join_fields fs (add_null fs (in_order gs)))
    (null_lacked (named gs) hs)
    (join_fields_ascending fs (add_null fs (in_order gs)) h (add_null_ascending fs (in_order gs) o))
    (null_lacked_ascending (named gs) hs j.ascends)
    (λ k.
    find_join fs (in_order gs) h o k
    ∙ sym
    (find_null_lacked (named gs) hs k
    ∙ ap (null_option (named gs k)) (j.at k)
    ∙ joined_both (named gs k) (find k fs) (find k (in_order gs)) (found_in_order k gs i))))

-- a record joined in
pub fields_are
    : (gs : Fields) (s : Shape) → rising gs ≡ true → apart gs ≡ true → ascending s ≡ true
    → join s (only_rec (rec_of (in_order gs)))
    ≡ with_fields
    (null_others (has_rec (record_of s)) (named gs) (join_in gs (member_start (has_rec (record_of s))) (fields_start (record_of s))))
    s
fields_are gs s i d h = rec_is (in_order gs) s _ (records_joined gs (record_of s) i d (ascending_of_record s h))
