-- Byte order of two texts that are read from their first bytes on: where they agree before place i, their rests decide. Assumes nothing.
use Prim.Native.Nat.{ℕ, zero, suc, ◌+◌, ◌≤◌, ◌<◌, compare, Ordering}
use Prim.Native.Nat.compare
use mathlib.Core.Path.{◌≡◌, refl, sym, ap, ap₂, ◌∙◌}
use mathlib.Core.Bool.{Bool, true, false, false≢true}
use mathlib.Core.List.{[], ◌∷◌}
use native.Mathlib.Nat.{not-suc-le-zero, le_of_suc-le-suc}
use native.Mathlib.Numerals.{add-one}
use lib.ListN.{length, get_or, drop, drop_of_length-le}
use lib.Seq.{drop-cons}
use lib.Dec.{compare_is_eq, eqb}
use borrow.Author.Tests.{eqb-true, eqb-false}
use Rattle.std.specs.declared.cmp.Ordering as cmp
use Rattle.std.specs.declared.cmp.Ordering.TheVariants.{Less, Equal, Greater}
use Rattle.std.specs.Ordering.{nat_cmp, MatchOrdering}
use Rattle.std.specs.Cmp.{ranked}
use Rattle.definitions.specs.Bytes.{Bytes, order, same}
use Rattle.pool.specs.Pool.{ordering_of}

-- ---- two numbers

compare_lt : (x y : ℕ) → x < y → compare x y ≡ Ordering.lt
compare_lt x zero h = absurd (not-suc-le-zero h)
compare_lt zero (suc y) h = compare.zero-suc y
compare_lt (suc x) (suc y) h = compare.suc-suc x y ∙ compare_lt x y (le_of_suc-le-suc h)

compare_gt : (x y : ℕ) → y < x → compare x y ≡ Ordering.gt
compare_gt zero y h = absurd (not-suc-le-zero h)
compare_gt (suc x) zero h = compare.suc-zero x
compare_gt (suc x) (suc y) h = compare.suc-suc x y ∙ compare_gt x y (le_of_suc-le-suc h)

compare_refl : (x : ℕ) → compare x x ≡ Ordering.eq
compare_refl zero = compare.zero-zero
compare_refl (suc x) = compare.suc-suc x x ∙ compare_refl x

-- what `cmp` tells of two numbers, where an order goes by them
pub told_by
    : (x y : ℕ) (r : cmp.Ordering) {o : Ordering} → r ≡ nat_cmp x y → (x < y → o ≡ Ordering.lt) → (x ≡ y → o ≡ Ordering.eq) → (y < x → o ≡ Ordering.gt)
    → ordering_of r ≡ o
unfolding ordering_of
told_by x y r {o} e less equal greater = go r (ranked x y r e)
  where
    go : (r : cmp.Ordering) → MatchOrdering r (x < y) (x ≡ y) (y < x) → ordering_of r ≡ o
    go Less h = sym (less h)
    go Equal h = sym (equal h)
    go Greater h = sym (greater h)

-- what two first bytes decide
abbrev by_first : Ordering → Ordering → Ordering
by_first o rest = elim o [ Ordering.lt ↦ Ordering.lt | Ordering.eq ↦ rest | Ordering.gt ↦ Ordering.gt ]

-- ---- two texts, from place i on

module _ (s t : Bytes) (i : ℕ) (hs : i < length s) (ht : i < length t) where
  first : (o : Ordering) → compare (get_or s i 0) (get_or t i 0) ≡ o → order (drop i s) (drop i t) ≡ by_first o (order (drop (suc i) s) (drop (suc i) t))
  unfolding order
  first o e =
      ap₂ order (drop-cons s i 0 hs) (drop-cons t i 0 ht)
      ∙ ap (λ (o : Ordering). by_first o (order (drop (suc i) s) (drop (suc i) t))) e

  pub order_less : get_or s i 0 < get_or t i 0 → order (drop i s) (drop i t) ≡ Ordering.lt
  order_less h = first Ordering.lt (compare_lt (get_or s i 0) (get_or t i 0) h)

  pub order_greater : get_or t i 0 < get_or s i 0 → order (drop i s) (drop i t) ≡ Ordering.gt
  order_greater h = first Ordering.gt (compare_gt (get_or s i 0) (get_or t i 0) h)

  pub order_next : get_or s i 0 ≡ get_or t i 0 → order (drop i s) (drop i t) ≡ order (drop (i + 1) s) (drop (i + 1) t)
  order_next e =
      first Ordering.eq (ap (λ (y : ℕ). compare (get_or s i 0) y) (sym e) ∙ compare_refl (get_or s i 0))
      ∙ ap (λ (n : ℕ). order (drop n s) (drop n t)) (sym (add-one i))

-- ---- where a text ends

pub shorter_less : (s t : Bytes) (i : ℕ) → length s ≤ i → i < length t → order (drop i s) (drop i t) ≡ Ordering.lt
unfolding order
shorter_less s t i hs ht = ap₂ order (drop_of_length-le s hs) (drop-cons t i 0 ht)

pub longer_greater : (s t : Bytes) (i : ℕ) → i < length s → length t ≤ i → order (drop i s) (drop i t) ≡ Ordering.gt
unfolding order
longer_greater s t i hs ht = ap₂ order (drop-cons s i 0 hs) (drop_of_length-le t ht)

pub both_equal : (s t : Bytes) (i : ℕ) → length s ≤ i → length t ≤ i → order (drop i s) (drop i t) ≡ Ordering.eq
unfolding order
both_equal s t i hs ht = ap₂ order (drop_of_length-le s hs) (drop_of_length-le t ht)

-- ---- the same texts

order_refl : (s : Bytes) → order s s ≡ Ordering.eq
unfolding order
order_refl [] = refl
order_refl (x ∷ xs) = ap (λ (o : Ordering). by_first o (order xs xs)) (compare_refl x) ∙ order_refl xs

head_first : (x : ℕ) (xs : Bytes) (y : ℕ) (ys : Bytes) {o : Ordering} → compare x y ≡ o → order (x ∷ xs) (y ∷ ys) ≡ by_first o (order xs ys)
unfolding order
head_first x xs y ys e = ap (λ (o : Ordering). by_first o (order xs ys)) e

order_eq : (s t : Bytes) → compare_is_eq (order s t) ≡ true → s ≡ t
unfolding order
order_eq [] [] e = refl
order_eq [] (y ∷ ys) e = absurd (false≢true e)
order_eq (x ∷ xs) [] e = absurd (false≢true e)
order_eq (x ∷ xs) (y ∷ ys) e = go (compare x y) refl (order_eq xs ys)
  where
    go : (o : Ordering) → compare x y ≡ o → (compare_is_eq (order xs ys) ≡ true → xs ≡ ys) → x ∷ xs ≡ y ∷ ys
    go Ordering.lt h f = absurd (false≢true (sym (ap compare_is_eq (head_first x xs y ys h)) ∙ e))
    go Ordering.eq h f = ap₂ ◌∷◌ (eqb-true x y (ap compare_is_eq h)) (f (sym (ap compare_is_eq (head_first x xs y ys h)) ∙ e))
    go Ordering.gt h f = absurd (false≢true (sym (ap compare_is_eq (head_first x xs y ys h)) ∙ e))

pub same_true : {s t : Bytes} → s ≡ t → true ≡ same s t
unfolding same
same_true {s} e = sym (ap compare_is_eq (ap (λ (t : Bytes). order s t) (sym e) ∙ order_refl s))

pub same_false : {s t : Bytes} → (s ≡ t → ⊥) → false ≡ same s t
unfolding same
same_false {s} {t} h = go (compare_is_eq (order s t)) refl
  where
    go : (b : Bool) → compare_is_eq (order s t) ≡ b → false ≡ compare_is_eq (order s t)
    go true e = absurd (h (order_eq s t e))
    go false e = sym e

-- a test of two numbers that are the same exactly where the texts are
pub same_eqb : {s t : Bytes} (x y : ℕ) → (x ≡ y → s ≡ t) → (s ≡ t → x ≡ y) → eqb x y ≡ same s t
same_eqb {s} {t} x y f g = go (eqb x y) refl
  where
    go : (b : Bool) → eqb x y ≡ b → eqb x y ≡ same s t
    go true e = e ∙ same_true (f (eqb-true x y e))
    go false e = e ∙ same_false (λ q. eqb-false x y e (g q))
