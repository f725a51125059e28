-- A join that changes nothing: the second shape has no parts, and its kinds are there. Assumes nothing.
use Prim.Native.Nat.{ℕ, ◌+◌, ◌%◌, ◌<◌}
use native.Mathlib.Omega.{arith}
use mathlib.Core.Path.{◌≡◌, refl, sym, ap, ap₂, ◌∙◌}
use mathlib.Core.Bool.{Bool, true, false}
use mathlib.Core.List.{List, ◌∷◌, ◌++◌}
use lib.Bits.{bit_or, or_comm}
use lib.Dec.{eqb}
use lib.ListN.{length, get_or, take, drop}
use lib.Seq.{set-get_or}
use Rattle.definitions.specs.Join.{join}
use Rattle.laws.specs.Tests.{eqb_eq}
use Rattle.shapes.specs.Shapes.{has_bit, head_of, size_at}
use Rattle.shapes.specs.ShapesLaws.{stands_row, bit_tested}
use Rattle.std.specs.Prelude.{Some}
use Rattle.join.specs.Joining.{AddsNothing, JoinsTo}
use Rattle.join.proofs.Heads.{head_set}
use Rattle.join.proofs.Joining.{record_none, element_none}
use Rattle.join.proofs.Whole.{members_joins, whole_grown}

-- the tests tell it
pub told_idle
    : {shapes second : List ℕ} {row other a b : ℕ} {z : Bool} → a ≡ get_or second other 0 % 128 → b ≡ get_or shapes row 0 % 128
    → false ≡ has_bit a 32 → false ≡ has_bit a 64 → z ≡ eqb (bit_or a b) b → z ≡ true → AddsNothing shapes second row other
told_idle {a} {b} e f x y z z' =
    record {
      no_list = bit_tested 32 e x;
      no_rec = bit_tested 64 e y;
      within = ap₂ bit_or (sym f) (sym e) ∙ or_comm b a ∙ eqb_eq (sym z ∙ z') ∙ f;
    }

-- a first word put where it stands
head_kept
    : (xs : List ℕ) (row kinds : ℕ) → row < length xs → kinds ≡ get_or xs row 0 % 128
    → xs ≡ take row xs ++ head_of kinds (size_at xs row) ∷ drop (row + 1) xs
unfolding size_at
head_kept xs row kinds h e =
    sym (set-get_or xs row 0)
    ∙ head_set xs row (get_or xs row 0) h
    ∙ ap
    (λ (x : ℕ). take row xs ++ x ∷ drop (row + 1) xs)
    (let i : get_or xs row 0 ≡ head_of kinds (size_at xs row) = omega (arith, e) in i)

pub idle
    : {shapes second pool : List ℕ} {used row other left : ℕ} → AddsNothing shapes second row other
    → JoinsTo join shapes shapes second pool used row other left (Some 0)
idle {shapes} {second} {row} {other} i p m k s t j =
    let q = record_none i.no_rec s t j in
    let v = element_none i.no_list _ t (members_joins j q) in
    whole_grown j q v refl refl refl refl
    (head_kept shapes row (bit_or (get_or shapes row 0 % 128) (get_or second other 0 % 128)) (omega (arith, stands_row j.both.ours)) i.within)
    refl
