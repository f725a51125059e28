-- The members of two shapes that both have rec, joined: where names ascend, a walk along both lists. Assumes nothing.
use Prim.Native.Nat.{◌≤◌, Ordering}
use Rattle.std.proofs.Common.{arith, ap, ◌∙◌}
use Rattle.std.specs.Prelude.{◌≡◌, refl, true}
use Rattle.std.proofs.Math.Option.{Option, none, some}
use Rattle.definitions.specs.Bytes.{Bytes, order}
use Rattle.definitions.specs.Shape.{Shape, Fields, no_fields, field, rec_of, find, before, behind, ascending, ascending_fields, only_rec, forms, forms_fields}
use Rattle.definitions.specs.Join.{with_null, add_null, put_field, join, join_fields}
use Rattle.laws.specs.Names.{order_refl, order_flip, flip, lt_before, before_other_sym}
use Rattle.laws.specs.Fields.{find_there, find_first, find_behind, ascending_behind, ascending_rest, behind_trans}
use Rattle.laws.specs.SizeLaws.{forms_mono}
use Rattle.laws.specs.JoinLaws.{join_ascending, join_upper_left}
use Rattle.laws.specs.FieldsPut.{add_null_behind}

-- "where both have rec, members in both joined, a member of only one kept with null added"
unfoldable pub merge : Fields → Fields → Fields
merge fs gs = join_fields fs (add_null fs gs)

-- ---- a member that stands before all others

put_front : (n : Bytes) (a : Shape) (both : Shape → Shape) (gs : Fields) → behind n gs ≡ true → put_field n a both gs ≡ field n (with_null a) gs
unfolding put_field behind
put_front n a both no_fields h = refl
put_front n a both (field m b gs) h = rw (lt_before n m h, put_field)

put_past
    : (n m : Bytes) (a b : Shape) (both : Shape → Shape) (gs : Fields) → before m n ≡ true
    → put_field n a both (field m b gs) ≡ field m b (put_field n a both gs)
unfolding put_field
put_past n m a b both gs h =
    let e : order n m ≡ Ordering.gt = order_flip m n ∙ ap flip (lt_before m n h) in
    rw (e, put_field)

put_both
    : (n : Bytes) (a b : Shape) (both : Shape → Shape) (gs : Fields) → put_field n a both (field n b gs) ≡ field n (both b) gs
unfolding put_field
put_both n a b both gs = rw (order_refl n, put_field)

put_behind
    : (n m : Bytes) (a : Shape) (both : Shape → Shape) (gs : Fields) → before n m ≡ true → behind n gs ≡ true
    → behind n (put_field m a both gs) ≡ true
unfolding put_field behind
put_behind n m a both no_fields h i = h
put_behind n m a both (field k b gs) h i = go (order m k) refl
  where
    go : (o : Ordering) → order m k ≡ o → behind n (put_field m a both (field k b gs)) ≡ true
    go Ordering.lt e = rw (e, put_field) h
    go Ordering.eq e = rw (e, put_field) i
    go Ordering.gt e = rw (e, put_field) i

join_fields_behind
    : (n : Bytes) (fs gs : Fields) → ascending_fields fs ≡ true → behind n fs ≡ true → behind n gs ≡ true
    → behind n (join_fields fs gs) ≡ true
unfolding join behind
join_fields_behind n no_fields gs i h k = k
join_fields_behind n (field m a fs) gs i h k =
    put_behind
    n
    m
    a
    (join a)
    (join_fields fs gs)
    h
    (join_fields_behind n fs gs (ascending_rest m a fs i) (behind_trans n m fs h (ascending_behind m a fs i)) k)

join_fields_past
    : (m : Bytes) (b : Shape) (fs gs : Fields) → ascending_fields fs ≡ true → behind m fs ≡ true
    → join_fields fs (field m b gs) ≡ field m b (join_fields fs gs)
unfolding join behind
join_fields_past m b no_fields gs i h = refl
join_fields_past m b (field n a fs) gs i h =
    ap
    (put_field n a (join a))
    (join_fields_past m b fs gs (ascending_rest n a fs i) (behind_trans m n fs h (ascending_behind n a fs i)))
    ∙ put_past n m a b (join a) (join_fields fs gs) h

-- null is added to a member of the second by what the first holds there
add_null_none
    : (m : Bytes) (b : Shape) (fs gs : Fields) → find m fs ≡ none → add_null fs (field m b gs) ≡ field m (with_null b) (add_null fs gs)
unfolding add_null
add_null_none m b fs gs e = rw (e, add_null)

add_null_some
    : (m : Bytes) (a b : Shape) (fs gs : Fields) → find m fs ≡ some a → add_null fs (field m b gs) ≡ field m b (add_null fs gs)
unfolding add_null
add_null_some m a b fs gs e = rw (e, add_null)

-- a member of the first that stands before all of the second makes no difference
add_null_before
    : (n : Bytes) (a : Shape) (fs gs : Fields) → ascending_fields gs ≡ true → behind n gs ≡ true
    → add_null (field n a fs) gs ≡ add_null fs gs
unfolding add_null behind
add_null_before n a fs no_fields i h = refl
add_null_before n a fs (field m b gs) i h =
    ap
    (λ (o : Option Shape). field m (elim o [ none ↦ with_null b | some c ↦ b ]) (add_null (field n a fs) gs))
    (find_there m n a fs (before_other_sym n m h))
    ∙ ap
    (field m (elim (find m fs) [ none ↦ with_null b | some c ↦ b ]))
    (add_null_before n a fs gs (ascending_rest m b gs i) (behind_trans n m gs h (ascending_behind m b gs i)))

-- ---- the walk

pub merge_none : merge no_fields no_fields ≡ no_fields
unfolding merge join add_null
merge_none = refl

-- the first's member stands before all of the second
pub merge_first
    : (n : Bytes) (a : Shape) (fs gs : Fields) → ascending_fields (field n a fs) ≡ true → ascending_fields gs ≡ true → behind n gs ≡ true
    → merge (field n a fs) gs ≡ field n (with_null a) (merge fs gs)
unfolding merge join
merge_first n a fs gs i j h =
    ap (λ (l : Fields). put_field n a (join a) (join_fields fs l)) (add_null_before n a fs gs j h)
    ∙ put_front
    n
    a
    (join a)
    (join_fields fs (add_null fs gs))
    (join_fields_behind
    n
    fs
    (add_null fs gs)
    (ascending_rest n a fs i)
    (ascending_behind n a fs i)
    (add_null_behind fs gs n ∙ h))

-- the second's member stands before all of the first
pub merge_second
    : (m : Bytes) (b : Shape) (fs gs : Fields) → ascending_fields fs ≡ true → behind m fs ≡ true
    → merge fs (field m b gs) ≡ field m (with_null b) (merge fs gs)
unfolding merge
merge_second m b fs gs i h =
    ap (join_fields fs) (add_null_none m b fs gs (find_behind m fs i h))
    ∙ join_fields_past m (with_null b) fs (add_null fs gs) i h

pub merge_both
    : (n : Bytes) (a b : Shape) (fs gs : Fields) → ascending_fields (field n a fs) ≡ true → ascending_fields (field n b gs) ≡ true
    → merge (field n a fs) (field n b gs) ≡ field n (join a b) (merge fs gs)
unfolding merge join
merge_both n a b fs gs i j =
    ap
    (join_fields (field n a fs))
    (add_null_some n a b (field n a fs) gs (find_first n a fs)
    ∙ ap (field n b) (add_null_before n a fs gs (ascending_rest n b gs j) (ascending_behind n b gs j)))
    ∙ ap
    (put_field n a (join a))
    (join_fields_past n b fs (add_null fs gs) (ascending_rest n a fs i) (ascending_behind n a fs i))
    ∙ put_both n a b (join a) (join_fields fs (add_null fs gs))

-- ---- how many forms

pub forms_merge
    : (fs gs : Fields) → ascending_fields fs ≡ true → ascending_fields gs ≡ true → forms_fields fs ≤ forms_fields (merge fs gs)
unfolding merge join only_rec forms ascending
forms_merge fs gs i j =
    let s : Shape = only_rec (rec_of fs) in
    let t : Shape = only_rec (rec_of gs) in
    let h : forms s ≤ forms (join s t) = forms_mono s (join s t) i (join_ascending s t i j) (join_upper_left s t i j) in
    omega arith
