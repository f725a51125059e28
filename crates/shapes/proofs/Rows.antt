-- Words stored in a row, and where members begin. Assumes nothing.
use Prim.Native.Nat.{ℕ, suc, ◌+◌, ◌%◌, ◌≤◌, ◌<◌}
use native.Mathlib.Numerals.{add-one}
use native.Mathlib.Omega.{arith}
use mathlib.Core.Path.{◌≡◌, refl, sym, ap, ◌∙◌}
use mathlib.Core.Bool.{true, false}
use mathlib.Core.List.{List, [], ◌∷◌, ◌++◌, append_assoc}
use lib.ListN.{length, get_or, set, take, drop}
use lib.Seq.{set_split, sets-eq}
use Rattle.shapes.specs.Shapes.{has_bit, size_at, members_at}

pub head_put : (ns : List ℕ) (row x : ℕ) → row < length ns → set ns row x ≡ take row ns ++ x ∷ drop (row + 1) ns
head_put ns row x h = set_split ns row x h ∙ ap (λ (n : ℕ). take row ns ++ x ∷ drop n ns) (sym (add-one row))

pub row_put
    : (ns : List ℕ) (row x y : ℕ) → row + 2 ≤ length ns → set (set ns row x) (row + 1) y ≡ take row ns ++ x ∷ y ∷ drop (row + 2) ns
row_put ns row x y h =
    ap (λ (i : ℕ). set (set ns row x) i y) (let e : row + 1 ≡ suc row = omega arith in e)
    ∙ sets-eq (x ∷ y ∷ []) ns row h
    ∙ append_assoc (take row ns) (x ∷ y ∷ []) (drop (row + 2) ns)

pub behind_element : (ns : List ℕ) (row : ℕ) → has_bit (get_or ns row 0 % 128) 32 ≡ true → members_at ns row ≡ row + 2 + size_at ns (row + 2)
unfolding members_at
behind_element ns row e = rw (e, members_at) refl

pub behind_row : (ns : List ℕ) (row : ℕ) → has_bit (get_or ns row 0 % 128) 32 ≡ false → members_at ns row ≡ row + 2
unfolding members_at
behind_row ns row e = rw (e, members_at) refl
