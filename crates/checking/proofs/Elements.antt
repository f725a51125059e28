-- Binding the element of a shape. Assumes nothing.
use Prim.Native.Nat.{ℕ, ◌+◌, ◌%◌, ◌≤◌, ◌<◌}
use mathlib.Core.Path.{◌≡◌, refl, sym, ap, ◌∙◌}
use mathlib.Core.Bool.{true, false}
use mathlib.Core.List.{List}
use native.Mathlib.Omega.{arith}
use lib.ListN.{length, get_or, set}
use Rattle.definitions.specs.Shape.{Kind, Shape, shape, no_list, list_of, has, has_list, element_of}
use Rattle.definitions.specs.Checking.{element_shape}
use Rattle.laws.specs.Bools.{clash}
use Rattle.shapes.specs.Shapes.{kind_bit, has_bit}
use Rattle.shapes.specs.ShapesLaws.{has_kind, stands_row}
use Rattle.checking.specs.Bindings.{Bound, binding, Binds, SomeBound, BindsElement}
use Rattle.checking.specs.BindingsLaws.{bound_nothing, bound_element, binds}

pub row_within : {shapes : List ℕ} {row kinds : ℕ} → SomeBound shapes row kinds → row + 2 ≤ length shapes
row_within h = stands_row h.bound.stands

-- whether list is left
list_left
    : {shapes p : List ℕ} {deep row kinds : ℕ} {s : Shape} → Bound shapes p deep row kinds s → has_bit kinds 32 ≡ has Kind.list s
unfolding kind_bit
list_left {s} h = ap (λ (x : ℕ). has_bit x 32) (sym h.left) ∙ has_kind Kind.list s

by_element
    : (shapes b b' : List ℕ) (d row kinds : ℕ) → d < length b → (k : ℕ) → k ≡ get_or shapes (row + 2) 0 % 128
    → b' ≡ set b d (binding (row + 2) k) → k < 128 → (p : List ℕ) (deep : ℕ) (s : Shape) → Bound shapes p deep row kinds s
    → has Kind.list s ≡ true → Binds shapes p b b' deep d (element_shape (element_of s))
unfolding has has_list element_shape element_of
by_element shapes b b' d row kinds there k e put few p deep (shape n o m t no_list r) h l = clash {b = false} l refl
by_element shapes b b' d row kinds there k e put few p deep (shape n o m t (list_of a) r) h l =
    binds b b' d (row + 2) k put there few (rw e (bound_element h a refl))

without_element
    : (shapes b b' : List ℕ) (d row kinds : ℕ) → d < length b → b' ≡ set b d (binding row 0) → (p : List ℕ) (deep : ℕ) (s : Shape)
    → Bound shapes p deep row kinds s → has Kind.list s ≡ false → Binds shapes p b b' deep d (element_shape (element_of s))
unfolding has has_list element_shape element_of
without_element shapes b b' d row kinds there put p deep (shape n o m t no_list r) h l =
    binds b b' d row 0 put there (omega arith) (bound_nothing h)
without_element shapes b b' d row kinds there put p deep (shape n o m t (list_of a) r) h l = clash {b = true} refl l

module _ (shapes b b' : List ℕ) (d row kinds : ℕ) (there : d < length b) where
  pub element_bound
      : (k : ℕ) → has_bit kinds 32 ≡ true → k ≡ get_or shapes (row + 2) 0 % 128 → b' ≡ set b d (binding (row + 2) k)
      → BindsElement shapes b b' d row kinds
  element_bound k has_it e put p deep s h =
      by_element shapes b b' d row kinds there k e put (omega arith) p deep s h (sym (list_left h) ∙ has_it)

  pub nothing_bound : has_bit kinds 32 ≡ false → b' ≡ set b d (binding row 0) → BindsElement shapes b b' d row kinds
  nothing_bound lacks put p deep s h = without_element shapes b b' d row kinds there put p deep s h (sym (list_left h) ∙ lacks)
