-- A row that is put before the rows of its parts, and what the table then holds. Assumes nothing.
use Prim.Native.Nat.{ℕ, suc, ◌+◌, ◌-◌, ◌*◌, ◌≤◌, ◌<◌}
use mathlib.Core.Path.{◌≡◌, sym, ap, ap₂, ◌∙◌}
use mathlib.Core.List.{List, ◌∷◌, ◌++◌}
use native.Mathlib.Omega.{arith}
use lib.ListN.{length, take, drop, length-append, length-drop}
use lib.Seq.{take-append-add, take-append-le, take-add, take-take, drop_at, length-take-le}

-- the table with a row put at shape b
abbrev pub with_row : List ℕ → (b h m : ℕ) → List ℕ
with_row ns b h m = take (2 * b) ns ++ h ∷ m ∷ drop (2 * b + 2) ns

module _ (ns : List ℕ) (b h m : ℕ) (room : 2 * b + 2 ≤ length ns) where
  front_length : length (take (2 * b) ns) ≡ 2 * b
  front_length = length-take-le (2 * b) ns (omega arith)

  pub length_with_row : length (with_row ns b h m) ≡ length ns
  length_with_row =
      length-append (take (2 * b) ns) (h ∷ m ∷ drop (2 * b + 2) ns)
      ∙ omega (arith, front_length, length-drop (2 * b + 2) ns)

  -- behind the row stand the rows rs of its parts, up to shape n
  pub row_put
      : (ms rs : List ℕ) (n : ℕ) → b < n → 2 * b + 2 ≤ length ms → take (2 * n) ns ≡ take (2 * suc b) ms ++ rs
      → take (2 * n) (with_row ns b h m) ≡ take (2 * b) ms ++ h ∷ m ∷ rs
  row_put ms rs n l k e =
      ap (λ (i : ℕ). take i (with_row ns b h m))
      (let f : 2 * n ≡ length (take (2 * b) ns) + suc (suc (2 * n - 2 * suc b)) = omega (arith, front_length) in f)
      ∙ take-append-add (take (2 * b) ns) (h ∷ m ∷ drop (2 * b + 2) ns) (suc (suc (2 * n - 2 * suc b)))
      ∙ ap₂ (λ (s t : List ℕ). s ++ h ∷ m ∷ t) before behind
    where
      two : 2 * suc b ≡ 2 * b + 2
      two = omega arith

      head_length : length (take (2 * suc b) ms) ≡ 2 * b + 2
      head_length = length-take-le (2 * suc b) ms (omega arith) ∙ two

      before : take (2 * b) ns ≡ take (2 * b) ms
      before =
          sym (take-take (2 * b) (2 * n) ns (omega arith))
          ∙ ap (λ (s : List ℕ). take (2 * b) s) e
          ∙ take-append-le (2 * b) (take (2 * suc b) ms) rs (omega (arith, head_length))
          ∙ take-take (2 * b) (2 * suc b) ms (omega arith)

      drop_take : drop (2 * b + 2) (take (2 * n) ns) ≡ take (2 * n - 2 * suc b) (drop (2 * b + 2) ns)
      drop_take =
          ap (λ (i : ℕ). drop (2 * b + 2) (take i ns)) (let f : 2 * n ≡ 2 * b + 2 + (2 * n - 2 * suc b) = omega arith in f)
          ∙ ap (λ (s : List ℕ). drop (2 * b + 2) s) (take-add (2 * b + 2) (2 * n - 2 * suc b) ns)
          ∙ drop_at (take (2 * b + 2) ns) (take (2 * n - 2 * suc b) (drop (2 * b + 2) ns)) (2 * b + 2)
          (length-take-le (2 * b + 2) ns room)

      behind : take (2 * n - 2 * suc b) (drop (2 * b + 2) ns) ≡ rs
      behind =
          sym drop_take
          ∙ ap (λ (s : List ℕ). drop (2 * b + 2) s) e
          ∙ drop_at (take (2 * suc b) ms) rs (2 * b + 2) head_length
