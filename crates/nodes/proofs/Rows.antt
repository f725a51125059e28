-- Three words stored in a row. Assumes nothing.
use Prim.Native.Nat.{ℕ, suc, ◌+◌, ◌≤◌}
use mathlib.Core.Path.{◌≡◌, ap₂, ◌∙◌}
use mathlib.Core.List.{List, [], ◌∷◌, ◌++◌, append_assoc}
use native.Mathlib.Omega.{arith}
use lib.ListN.{length, set, take, drop}
use lib.Seq.{sets-eq}

pub row_put
    : (ns : List ℕ) (row head payload name : ℕ) → row + 3 ≤ length ns
    → set (set (set ns row head) (row + 1) payload) (row + 2) name
    ≡ take row ns ++ head ∷ payload ∷ name ∷ drop (row + 3) ns
row_put ns row head payload name h =
    ap₂ (λ (i j : ℕ). set (set (set ns row head) i payload) j name) (let e : row + 1 ≡ suc row = omega arith in e)
    (let e : row + 2 ≡ suc (suc row) = omega arith in e)
    ∙ sets-eq (head ∷ payload ∷ name ∷ []) ns row h
    ∙ append_assoc (take row ns) (head ∷ payload ∷ name ∷ []) (drop (row + 3) ns)
