-- Members put among others: what `add_null`, `put_field` and `insert` hold at each name, and that names keep ascending.
-- Assumes nothing.
use Prim.Native.Nat.{Ordering}
use Rattle.std.specs.Prelude.{◌≡◌, ◌⊎◌}
use Rattle.std.proofs.Math.Path.{refl, sym, ap, subst}
use Rattle.std.proofs.Common.{◌∙◌, inl, inr}
use Rattle.std.proofs.Math.Bool.{true, false}
use Rattle.std.proofs.Math.Option.{Option, none, some}
use Rattle.definitions.specs.Bytes.{Bytes, order, same}
use Rattle.definitions.specs.Shape.{Shape, shape, Fields, no_fields, field, find, before, behind, ascending, ascending_fields, forms}
use Rattle.definitions.specs.Join.{with_null, add_null, put_field, insert}
use Rattle.laws.specs.Bools.{tell}
use Rattle.laws.specs.Names.{order_eq, same_eq, eq_same, before_lt, before_gt, before_other_sym}
use Rattle.laws.specs.Fields.{find_here, find_there, find_first, ascending_first, ascending_behind, ascending_rest, ascending_field, find_behind}

pub with_null_ascending : (s : Shape) → ascending s ≡ true → ascending (with_null s) ≡ true
unfolding ascending with_null
with_null_ascending (shape n b m t e r) h = h

pub forms_with_null : (s : Shape) → forms (with_null s) ≡ forms s
unfolding with_null forms
forms_with_null (shape n b m t e r) = refl

-- ---- add-null

-- what the second holds at a name, with null added where the first holds nothing there
abbrev pub null_added : Option Shape → Option Shape → Option Shape
null_added none none = none
null_added none (some b) = some (with_null b)
null_added (some a) o = o

-- the shape of a member of the second list
null_kept : Option Shape → Shape → Shape
null_kept o b = elim o [ none ↦ with_null b | some a ↦ b ]

null_kept_ascending : (o : Option Shape) (b : Shape) → ascending b ≡ true → ascending (null_kept o b) ≡ true
unfolding null_kept
null_kept_ascending none b h = with_null_ascending b h
null_kept_ascending (some a) b h = h

null_kept_some : (o : Option Shape) (b : Shape) → Path (Option Shape) (some (null_kept o b)) (null_added o (some b))
unfolding null_kept
null_kept_some none b = refl
null_kept_some (some a) b = refl

null_added_none : (o : Option Shape) → null_added o none ≡ none
null_added_none none = refl
null_added_none (some a) = refl

pub find_add_null : (fs gs : Fields) (n : Bytes) → find n (add_null fs gs) ≡ null_added (find n fs) (find n gs)
unfolding add_null null_kept find
find_add_null fs no_fields n = sym (null_added_none (find n fs))
find_add_null fs (field m b gs) n = go (find_add_null fs gs n) (tell (same n m))
  where
    go
        : find n (add_null fs gs) ≡ null_added (find n fs) (find n gs) → (same n m ≡ true) ⊎ (same n m ≡ false)
        → find n (add_null fs (field m b gs)) ≡ null_added (find n fs) (find n (field m b gs))
    go f (inl e) =
        find_here n m (null_kept (find m fs) b) (add_null fs gs) e
        ∙ ap (λ k. some (null_kept (find k fs) b)) (sym (same_eq n m e))
        ∙ null_kept_some (find n fs) b
        ∙ ap (null_added (find n fs)) (sym (find_here n m b gs e))
    go f (inr e) =
        find_there n m (null_kept (find m fs) b) (add_null fs gs) e
        ∙ f
        ∙ ap (null_added (find n fs)) (sym (find_there n m b gs e))

pub add_null_behind : (fs gs : Fields) (n : Bytes) → behind n (add_null fs gs) ≡ behind n gs
unfolding add_null behind
add_null_behind fs no_fields n = refl
add_null_behind fs (field m b gs) n = refl

pub add_null_ascending : (fs gs : Fields) → ascending_fields gs ≡ true → ascending_fields (add_null fs gs) ≡ true
unfolding add_null null_kept
add_null_ascending fs no_fields h = h
add_null_ascending fs (field m b gs) h =
    ascending_field
    m
    (null_kept (find m fs) b)
    (add_null fs gs)
    (null_kept_ascending (find m fs) b (ascending_first m b gs h))
    (add_null_behind fs gs m ∙ ascending_behind m b gs h)
    (add_null_ascending fs gs (ascending_rest m b gs h))

-- ---- a member in its place: what `put_field` and `insert` have in common

-- a member of shape new where the name is new, else the one there is changed by `both`
place : Bytes → Shape → (Shape → Shape) → Fields → Fields
place n new both no_fields = field n new no_fields
place n new both (field m b gs) =
    elim (order n m) [
      | Ordering.lt ↦ field n new (field m b gs)
      | Ordering.eq ↦ field m (both b) gs
      | Ordering.gt ↦ field m b (place n new both gs)
    ]

-- what stands at the name after that
abbrev pub placed : Shape → (Shape → Shape) → Option Shape → Option Shape
placed new both none = some new
placed new both (some b) = some (both b)

module _ (n : Bytes) (new : Shape) (both : Shape → Shape) where
  place_lt
      : (m : Bytes) (b : Shape) (gs : Fields) → order n m ≡ Ordering.lt
      → place n new both (field m b gs) ≡ field n new (field m b gs)
  unfolding place
  place_lt m b gs e = rw (e, place)

  place_eq
      : (m : Bytes) (b : Shape) (gs : Fields) → order n m ≡ Ordering.eq
      → place n new both (field m b gs) ≡ field m (both b) gs
  unfolding place
  place_eq m b gs e = rw (e, place)

  place_gt
      : (m : Bytes) (b : Shape) (gs : Fields) → order n m ≡ Ordering.gt
      → place n new both (field m b gs) ≡ field m b (place n new both gs)
  unfolding place
  place_gt m b gs e = rw (e, place)

  find_place_here : (gs : Fields) → ascending_fields gs ≡ true → find n (place n new both gs) ≡ placed new both (find n gs)
  unfolding place find behind
  find_place_here no_fields a = find_first n new no_fields
  find_place_here (field m b gs) a = go (find_place_here gs (ascending_rest m b gs a)) (order n m) refl
    where
      go
          : find n (place n new both gs) ≡ placed new both (find n gs) → (o : Ordering) → order n m ≡ o
          → find n (place n new both (field m b gs)) ≡ placed new both (find n (field m b gs))
      go f Ordering.lt e =
          ap (find n) (place_lt m b gs e)
          ∙ find_first n new (field m b gs)
          ∙ ap (placed new both) (sym (find_behind n (field m b gs) a (before_lt n m e)))
      go f Ordering.eq e =
          let h : same n m ≡ true = eq_same n m (order_eq n m e) in
          ap (find n) (place_eq m b gs e)
          ∙ find_here n m (both b) gs h
          ∙ ap (placed new both) (sym (find_here n m b gs h))
      go f Ordering.gt e =
          let h : same n m ≡ false = before_other_sym m n (before_gt n m e) in
          ap (find n) (place_gt m b gs e)
          ∙ find_there n m b (place n new both gs) h
          ∙ f
          ∙ ap (placed new both) (sym (find_there n m b gs h))

  find_place_there : (k : Bytes) (gs : Fields) → same k n ≡ false → find k (place n new both gs) ≡ find k gs
  unfolding place
  find_place_there k no_fields h = find_there k n new no_fields h
  find_place_there k (field m b gs) h = go (find_place_there k gs h) (order n m) refl
    where
      go
          : find k (place n new both gs) ≡ find k gs → (o : Ordering) → order n m ≡ o
          → find k (place n new both (field m b gs)) ≡ find k (field m b gs)
      go f Ordering.lt e = ap (find k) (place_lt m b gs e) ∙ find_there k n new (field m b gs) h
      go f Ordering.eq e =
          let i : same k m ≡ false = subst (λ (x : Bytes). same k x ≡ false) (order_eq n m e) h in
          ap (find k) (place_eq m b gs e) ∙ find_there k m (both b) gs i ∙ sym (find_there k m b gs i)
      go f Ordering.gt e = ap (find k) (place_gt m b gs e) ∙ past (tell (same k m))
        where
          past : (same k m ≡ true) ⊎ (same k m ≡ false) → find k (field m b (place n new both gs)) ≡ find k (field m b gs)
          past (inl i) = find_here k m b (place n new both gs) i ∙ sym (find_here k m b gs i)
          past (inr i) = find_there k m b (place n new both gs) i ∙ f ∙ sym (find_there k m b gs i)

  -- a name before the new one and before the others is before all
  place_behind : (k : Bytes) (gs : Fields) → before k n ≡ true → behind k gs ≡ true → behind k (place n new both gs) ≡ true
  unfolding place behind
  place_behind k no_fields p q = p
  place_behind k (field m b gs) p q = go (order n m) refl
    where
      go : (o : Ordering) → order n m ≡ o → behind k (place n new both (field m b gs)) ≡ true
      go Ordering.lt e = ap (behind k) (place_lt m b gs e) ∙ p
      go Ordering.eq e = ap (behind k) (place_eq m b gs e) ∙ q
      go Ordering.gt e = ap (behind k) (place_gt m b gs e) ∙ q

  place_ascending
      : ascending new ≡ true → ((b : Shape) → ascending b ≡ true → ascending (both b) ≡ true) → (gs : Fields)
      → ascending_fields gs ≡ true → ascending_fields (place n new both gs) ≡ true
  unfolding place behind
  place_ascending p q no_fields a = ascending_field n new no_fields p refl a
  place_ascending p q (field m b gs) a = go (place_ascending p q gs (ascending_rest m b gs a)) (order n m) refl
    where
      go
          : ascending_fields (place n new both gs) ≡ true → (o : Ordering) → order n m ≡ o
          → ascending_fields (place n new both (field m b gs)) ≡ true
      go f Ordering.lt e =
          ap ascending_fields (place_lt m b gs e) ∙ ascending_field n new (field m b gs) p (before_lt n m e) a
      go f Ordering.eq e =
          ap ascending_fields (place_eq m b gs e)
          ∙ ascending_field m (both b) gs (q b (ascending_first m b gs a)) (ascending_behind m b gs a) (ascending_rest m b gs a)
      go f Ordering.gt e =
          ap ascending_fields (place_gt m b gs e)
          ∙ ascending_field
          m
          b
          (place n new both gs)
          (ascending_first m b gs a)
          (place_behind m gs (before_gt n m e) (ascending_behind m b gs a))
          f

-- ---- put-field

put_place : (n : Bytes) (a : Shape) (both : Shape → Shape) (gs : Fields) → put_field n a both gs ≡ place n (with_null a) both gs
unfolding put_field place
put_place n a both no_fields = refl
put_place n a both (field m b gs) =
    ap
    (λ (hs : Fields).
    elim (order n m) as (λ o. Fields) [
      | Ordering.lt ↦ field n (with_null a) (field m b gs)
      | Ordering.eq ↦ field m (both b) gs
      | Ordering.gt ↦ field m b hs
    ])
    (put_place n a both gs)

pub find_put_here
    : (n : Bytes) (a : Shape) (both : Shape → Shape) (gs : Fields) → ascending_fields gs ≡ true
    → find n (put_field n a both gs) ≡ placed (with_null a) both (find n gs)
find_put_here n a both gs h = ap (find n) (put_place n a both gs) ∙ find_place_here n (with_null a) both gs h

pub find_put_there
    : (k n : Bytes) (a : Shape) (both : Shape → Shape) (gs : Fields) → same k n ≡ false → find k (put_field n a both gs) ≡ find k gs
find_put_there k n a both gs h = ap (find k) (put_place n a both gs) ∙ find_place_there n (with_null a) both k gs h

pub put_ascending
    : (n : Bytes) (a : Shape) (both : Shape → Shape) → ascending a ≡ true
    → ((b : Shape) → ascending b ≡ true → ascending (both b) ≡ true) → (gs : Fields) → ascending_fields gs ≡ true
    → ascending_fields (put_field n a both gs) ≡ true
put_ascending n a both p q gs h =
    ap ascending_fields (put_place n a both gs) ∙ place_ascending n (with_null a) both (with_null_ascending a p) q gs h

-- ---- insert

insert_place : (n : Bytes) (a : Shape) (gs : Fields) → insert n a gs ≡ place n a (λ b. a) gs
unfolding insert place
insert_place n a no_fields = refl
insert_place n a (field m b gs) = go (insert_place n a gs) (order n m) refl
  where
    go
        : insert n a gs ≡ place n a (λ c. a) gs → (o : Ordering) → order n m ≡ o
        → insert n a (field m b gs) ≡ place n a (λ c. a) (field m b gs)
    go f Ordering.lt e = rw (e, insert, place)
    go f Ordering.eq e = rw (e, insert, place) (ap (λ k. field k a gs) (order_eq n m e))
    go f Ordering.gt e = rw (e, insert, place) (ap (field m b) f)

pub find_insert_here : (n : Bytes) (a : Shape) (gs : Fields) → ascending_fields gs ≡ true → find n (insert n a gs) ≡ some a
find_insert_here n a gs h = ap (find n) (insert_place n a gs) ∙ find_place_here n a (λ b. a) gs h ∙ either (find n gs)
  where
    either : (o : Option Shape) → placed a (λ b. a) o ≡ some a
    either none = refl
    either (some b) = refl

pub find_insert_there
    : (k n : Bytes) (a : Shape) (gs : Fields) → same k n ≡ false → find k (insert n a gs) ≡ find k gs
find_insert_there k n a gs h = ap (find k) (insert_place n a gs) ∙ find_place_there n a (λ b. a) k gs h

pub insert_ascending
    : (n : Bytes) (a : Shape) (gs : Fields) → ascending a ≡ true → ascending_fields gs ≡ true → ascending_fields (insert n a gs) ≡ true
insert_ascending n a gs p h = ap ascending_fields (insert_place n a gs) ∙ place_ascending n a (λ b. a) p (λ b i. p) gs h
