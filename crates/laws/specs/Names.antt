-- Names in byte order: `order` is a total order, `same` is equality, and `before` is the strict order. Assumes nothing.
use Prim.Native.Nat.{ℕ, zero, suc, compare, Ordering}
use Prim.Native.Nat.compare
use Rattle.std.specs.Prelude.{◌≡◌, refl, ◌⊎◌, true, false, [], ◌∷◌, T}
use Rattle.std.proofs.Common.{sym, ◌∙◌, ap, ap₂, subst, inl, inr, eqb→eq}
use Rattle.std.proofs.Math.Dec.{is_le, compare_is_eq}
use Rattle.definitions.specs.Bytes.{Bytes, order, same}
use Rattle.definitions.specs.Shape.{before}
use Rattle.laws.specs.Bools.{clash}

-- ---- orderings

-- the ordering seen from the other side
abbrev pub flip : Ordering → Ordering
flip Ordering.lt = Ordering.gt
flip Ordering.eq = Ordering.eq
flip Ordering.gt = Ordering.lt

lt_eq {ℓ} : {X : Type ℓ} {o : Ordering} → o ≡ Ordering.lt → o ≡ Ordering.eq → X
lt_eq p q = clash (ap compare_is_eq q) (ap compare_is_eq p)

lt_gt {ℓ} : {X : Type ℓ} {o : Ordering} → o ≡ Ordering.lt → o ≡ Ordering.gt → X
lt_gt p q = clash (ap is_le p) (ap is_le q)

eq_gt {ℓ} : {X : Type ℓ} {o : Ordering} → o ≡ Ordering.eq → o ≡ Ordering.gt → X
eq_gt p q = clash (ap is_le p) (ap is_le q)

-- ---- compare

compare_refl : (x : ℕ) → compare x x ≡ Ordering.eq
compare_refl zero = compare.zero-zero
compare_refl (suc x) = compare.suc-suc x x ∙ compare_refl x

compare_eq : (x y : ℕ) → compare x y ≡ Ordering.eq → x ≡ y
compare_eq x y e = eqb→eq x y (subst (λ (o : Ordering). T (compare_is_eq o)) (sym e) tt)

compare_flip : (x y : ℕ) → compare y x ≡ flip (compare x y)
compare_flip zero zero = compare.zero-zero ∙ ap flip (sym compare.zero-zero)
compare_flip zero (suc y) = compare.suc-zero y ∙ ap flip (sym (compare.zero-suc y))
compare_flip (suc x) zero = compare.zero-suc x ∙ ap flip (sym (compare.suc-zero x))
compare_flip (suc x) (suc y) = compare.suc-suc y x ∙ compare_flip x y ∙ ap flip (sym (compare.suc-suc x y))

compare_trans : (x y z : ℕ) → compare x y ≡ Ordering.lt → compare y z ≡ Ordering.lt → compare x z ≡ Ordering.lt
compare_trans zero zero z p q = lt_eq p compare.zero-zero
compare_trans zero (suc y) zero p q = lt_gt q (compare.suc-zero y)
compare_trans zero (suc y) (suc z) p q = compare.zero-suc z
compare_trans (suc x) zero z p q = lt_gt p (compare.suc-zero x)
compare_trans (suc x) (suc y) zero p q = lt_gt q (compare.suc-zero y)
compare_trans (suc x) (suc y) (suc z) p q =
    compare.suc-suc x z ∙ compare_trans x y z (sym (compare.suc-suc x y) ∙ p) (sym (compare.suc-suc y z) ∙ q)

-- ---- order

order_head_lt : (x : ℕ) (xs : Bytes) (y : ℕ) (ys : Bytes) → compare x y ≡ Ordering.lt → order (x ∷ xs) (y ∷ ys) ≡ Ordering.lt
unfolding order
order_head_lt x xs y ys e = rw (e, order)

order_head_eq : (x : ℕ) (xs : Bytes) (y : ℕ) (ys : Bytes) → compare x y ≡ Ordering.eq → order (x ∷ xs) (y ∷ ys) ≡ order xs ys
unfolding order
order_head_eq x xs y ys e = rw (e, order)

order_head_gt : (x : ℕ) (xs : Bytes) (y : ℕ) (ys : Bytes) → compare x y ≡ Ordering.gt → order (x ∷ xs) (y ∷ ys) ≡ Ordering.gt
unfolding order
order_head_gt x xs y ys e = rw (e, order)

pub order_refl : (n : Bytes) → order n n ≡ Ordering.eq
unfolding order
order_refl [] = refl
order_refl (x ∷ xs) = order_head_eq x xs x xs (compare_refl x) ∙ order_refl xs

pub order_eq : (n m : Bytes) → order n m ≡ Ordering.eq → n ≡ m
unfolding order
order_eq [] [] e = refl
order_eq [] (y ∷ ys) e = lt_eq refl e
order_eq (x ∷ xs) [] e = eq_gt e refl
order_eq (x ∷ xs) (y ∷ ys) e = go (order_eq xs ys) (compare x y) refl
  where
    go : (order xs ys ≡ Ordering.eq → xs ≡ ys) → (o : Ordering) → compare x y ≡ o → Path Bytes (x ∷ xs) (y ∷ ys)
    go f Ordering.lt h = lt_eq (order_head_lt x xs y ys h) e
    go f Ordering.eq h = ap₂ ◌∷◌ (compare_eq x y h) (f (sym (order_head_eq x xs y ys h) ∙ e))
    go f Ordering.gt h = eq_gt e (order_head_gt x xs y ys h)

pub order_flip : (n m : Bytes) → order m n ≡ flip (order n m)
unfolding order
order_flip [] [] = refl
order_flip [] (y ∷ ys) = refl
order_flip (x ∷ xs) [] = refl
order_flip (x ∷ xs) (y ∷ ys) = go (order_flip xs ys) (compare x y) refl
  where
    go
        : order ys xs ≡ flip (order xs ys) → (o : Ordering) → compare x y ≡ o
        → order (y ∷ ys) (x ∷ xs) ≡ flip (order (x ∷ xs) (y ∷ ys))
    go f Ordering.lt h = order_head_gt y ys x xs (compare_flip x y ∙ ap flip h) ∙ ap flip (sym (order_head_lt x xs y ys h))
    go f Ordering.eq h = order_head_eq y ys x xs (compare_flip x y ∙ ap flip h) ∙ f ∙ ap flip (sym (order_head_eq x xs y ys h))
    go f Ordering.gt h = order_head_lt y ys x xs (compare_flip x y ∙ ap flip h) ∙ ap flip (sym (order_head_gt x xs y ys h))

pub order_trans : (n m k : Bytes) → order n m ≡ Ordering.lt → order m k ≡ Ordering.lt → order n k ≡ Ordering.lt
unfolding order
order_trans [] [] k p q = lt_eq p refl
order_trans [] (y ∷ ys) [] p q = lt_gt q refl
order_trans [] (y ∷ ys) (z ∷ zs) p q = refl
order_trans (x ∷ xs) [] k p q = lt_gt p refl
order_trans (x ∷ xs) (y ∷ ys) [] p q = lt_gt q refl
order_trans (x ∷ xs) (y ∷ ys) (z ∷ zs) p q = go (order_trans xs ys zs) (compare x y) refl (compare y z) refl
  where
    go
        : (order xs ys ≡ Ordering.lt → order ys zs ≡ Ordering.lt → order xs zs ≡ Ordering.lt)
        → (o : Ordering) → compare x y ≡ o → (u : Ordering) → compare y z ≡ u → order (x ∷ xs) (z ∷ zs) ≡ Ordering.lt
    go f Ordering.gt h u i = lt_gt p (order_head_gt x xs y ys h)
    go f Ordering.lt h Ordering.gt i = lt_gt q (order_head_gt y ys z zs i)
    go f Ordering.lt h Ordering.lt i = order_head_lt x xs z zs (compare_trans x y z h i)
    go f Ordering.lt h Ordering.eq i = order_head_lt x xs z zs (ap (compare x) (sym (compare_eq y z i)) ∙ h)
    go f Ordering.eq h Ordering.gt i = lt_gt q (order_head_gt y ys z zs i)
    go f Ordering.eq h Ordering.lt i = order_head_lt x xs z zs (ap (λ w. compare w z) (compare_eq x y h) ∙ i)
    go f Ordering.eq h Ordering.eq i =
        order_head_eq x xs z zs (ap (compare x) (sym (compare_eq y z i)) ∙ h)
        ∙ f (sym (order_head_eq x xs y ys h) ∙ p) (sym (order_head_eq y ys z zs i) ∙ q)

-- ---- same

pub same_refl : (n : Bytes) → same n n ≡ true
unfolding same
same_refl n = ap compare_is_eq (order_refl n)

pub same_eq : (n m : Bytes) → same n m ≡ true → n ≡ m
unfolding same
same_eq n m h = go (order n m) refl
  where
    go : (o : Ordering) → order n m ≡ o → n ≡ m
    go Ordering.lt e = clash h (ap compare_is_eq e)
    go Ordering.eq e = order_eq n m e
    go Ordering.gt e = clash h (ap compare_is_eq e)

pub eq_same : (n m : Bytes) → n ≡ m → same n m ≡ true
eq_same n m e = ap (λ k. same k m) e ∙ same_refl m

pub same_sym : (n m : Bytes) → same m n ≡ same n m
unfolding same
same_sym n m = ap compare_is_eq (order_flip n m) ∙ isEq_flip (order n m)
  where
    isEq_flip : (o : Ordering) → compare_is_eq (flip o) ≡ compare_is_eq o
    isEq_flip Ordering.lt = refl
    isEq_flip Ordering.eq = refl
    isEq_flip Ordering.gt = refl

-- ---- before

pub before_lt : (n m : Bytes) → order n m ≡ Ordering.lt → before n m ≡ true
unfolding before
before_lt n m e = rw (e, before)

pub lt_before : (n m : Bytes) → before n m ≡ true → order n m ≡ Ordering.lt
unfolding before
lt_before n m h = go (order n m) refl
  where
    go : (o : Ordering) → order n m ≡ o → order n m ≡ Ordering.lt
    go Ordering.lt e = e
    go Ordering.eq e = clash h (rw (e, before))
    go Ordering.gt e = clash h (rw (e, before))

-- a name that stands behind another has it before itself
pub before_gt : (n m : Bytes) → order n m ≡ Ordering.gt → before m n ≡ true
before_gt n m e = before_lt m n (order_flip n m ∙ ap flip e)

pub before_trans : (n m k : Bytes) → before n m ≡ true → before m k ≡ true → before n k ≡ true
before_trans n m k p q = before_lt n k (order_trans n m k (lt_before n m p) (lt_before m k q))

pub before_irrefl : (n : Bytes) → before n n ≡ false
unfolding before
before_irrefl n = rw (order_refl n, before)

pub before_asym : (n m : Bytes) → before n m ≡ true → before m n ≡ false
unfolding before
before_asym n m h = rw (order_flip n m ∙ ap flip (lt_before n m h), before)

-- a name before another is not the same
pub before_other : (n m : Bytes) → before n m ≡ true → same n m ≡ false
unfolding same
before_other n m h = ap compare_is_eq (lt_before n m h)

pub before_other_sym : (n m : Bytes) → before n m ≡ true → same m n ≡ false
before_other_sym n m h = same_sym n m ∙ before_other n m h

-- of two names one stands before the other, or they are equal
pub before_total : (n m : Bytes) → (before n m ≡ true) ⊎ ((n ≡ m) ⊎ (before m n ≡ true))
before_total n m = go (order n m) refl
  where
    go : (o : Ordering) → order n m ≡ o → (before n m ≡ true) ⊎ ((n ≡ m) ⊎ (before m n ≡ true))
    go Ordering.lt e = inl (before_lt n m e)
    go Ordering.eq e = inr (inl (order_eq n m e))
    go Ordering.gt e = inr (inr (before_gt n m e))
