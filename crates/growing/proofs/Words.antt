-- The kinds of a new member. Assumes nothing.
use Prim.Native.Nat.{ℕ}
use native.Mathlib.Omega.{arith}
use mathlib.Core.Path.{◌≡◌, refl, ap}
use mathlib.Core.Bool.{Bool, true, false}
use Rattle.definitions.specs.Shape.{nothing, has_list, has_rec, only_null}
use Rattle.shapes.specs.Shapes.{bit, numeric_bits, kind_bits}
use Rattle.growing.specs.Growing.{member_start}

-- ---- the start of a member

pub start_null : {had : Bool} → had ≡ true → 1 ≡ kind_bits (member_start had)
unfolding member_start kind_bits bit numeric_bits has_list has_rec only_null
start_null {had = true} e = refl
start_null {had = false} e = let z : ◌≡◌ {A = ℕ} 0 1 = ap bit e in absurd (let y : ⊥ = omega arith in y)

pub start_nothing : {had : Bool} → had ≡ false → 0 ≡ kind_bits (member_start had)
unfolding member_start kind_bits bit numeric_bits has_list has_rec nothing
start_nothing {had = true} e = let z : ◌≡◌ {A = ℕ} 1 0 = ap bit e in absurd (let y : ⊥ = omega arith in y)
start_nothing {had = false} e = refl
