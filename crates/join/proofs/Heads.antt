-- The first word of a row, changed. Assumes nothing.
use Prim.Native.Nat.{ℕ, ◌+◌, ◌%◌, ◌<◌}
use native.Mathlib.Numerals.{add-one}
use mathlib.Core.Path.{◌≡◌, sym, ap, ◌∙◌}
use mathlib.Core.Bool.{true, false}
use mathlib.Core.List.{List, ◌∷◌, ◌++◌}
use lib.ListN.{length, get_or, take, drop, set}
use lib.Seq.{set_split, set-get_or}
use Rattle.shapes.specs.Shapes.{has_bit}
use Rattle.join.specs.Joining.{null_head}

pub head_set : (xs : List ℕ) (row x : ℕ) → row < length xs → set xs row x ≡ take row xs ++ x ∷ drop (row + 1) xs
head_set xs row x h = set_split xs row x h ∙ ap (λ (n : ℕ). take row xs ++ x ∷ drop n xs) (sym (add-one row))

null_there : (x : ℕ) → has_bit (x % 128) 1 ≡ true → null_head x ≡ x
unfolding null_head
null_there x e = rw (e, null_head)

null_new : (x : ℕ) → has_bit (x % 128) 1 ≡ false → null_head x ≡ x + 1
unfolding null_head
null_new x e = rw (e, null_head)

pub null_kept
    : (xs : List ℕ) (row : ℕ) → row < length xs → has_bit (get_or xs row 0 % 128) 1 ≡ true
    → xs ≡ take row xs ++ null_head (get_or xs row 0) ∷ drop (row + 1) xs
null_kept xs row h e =
    sym (set-get_or xs row 0)
    ∙ head_set xs row (get_or xs row 0) h
    ∙ ap (λ (x : ℕ). take row xs ++ x ∷ drop (row + 1) xs) (sym (null_there (get_or xs row 0) e))

pub null_put
    : (xs : List ℕ) (row : ℕ) → row < length xs → has_bit (get_or xs row 0 % 128) 1 ≡ false
    → set xs row (get_or xs row 0 + 1) ≡ take row xs ++ null_head (get_or xs row 0) ∷ drop (row + 1) xs
null_put xs row h e =
    head_set xs row (get_or xs row 0 + 1) h
    ∙ ap (λ (x : ℕ). take row xs ++ x ∷ drop (row + 1) xs) (sym (null_new (get_or xs row 0) e))
