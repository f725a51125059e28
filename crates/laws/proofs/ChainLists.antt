-- Laws of `Each` and `Reordered`. Assumes nothing.
use Rattle.std.specs.Prelude.{List, ◌∷◌}
use Rattle.laws.specs.Chain.{Each, each_none, each_one, Reordered, no_element, keep_first, swap_first, again}

module _ {A : Type 0} {P : A → Type 0} where
  pub each_first : {x : A} {xs : List A} → Each P (x ∷ xs) → P x
  each_first (each_one p h) = p

  pub each_rest : {x : A} {xs : List A} → Each P (x ∷ xs) → Each P xs
  each_rest (each_one p h) = h

  -- in another order the same holds of each
  pub each_reordered : {xs ys : List A} → Reordered xs ys → Each P xs → Each P ys
  each_reordered no_element h = h
  each_reordered (keep_first o) h = each_one (each_first h) (each_reordered o (each_rest h))
  each_reordered swap_first h = each_one (each_first (each_rest h)) (each_one (each_first h) (each_rest (each_rest h)))
  each_reordered (again o q) h = each_reordered q (each_reordered o h)

  pub each_ordered_back : {xs ys : List A} → Reordered xs ys → Each P ys → Each P xs
  each_ordered_back no_element h = h
  each_ordered_back (keep_first o) h = each_one (each_first h) (each_ordered_back o (each_rest h))
  each_ordered_back swap_first h = each_one (each_first (each_rest h)) (each_one (each_first h) (each_rest (each_rest h)))
  each_ordered_back (again o q) h = each_ordered_back o (each_ordered_back q h)

-- what follows of each
pub each_map : {A : Type 0} {P Q : A → Type 0} → ((x : A) → P x → Q x) → {xs : List A} → Each P xs → Each Q xs
each_map f each_none = each_none
each_map f (each_one {x = x} p h) = each_one (f x p) (each_map f h)
