-- Laws of a table of three words a row: a row that is put before the rows of its parts, and what the table then holds.
-- Assumes nothing.
use Rattle.std.specs.Prelude.{ℕ, suc, ◌+◌, ◌-◌, ◌*◌, ◌≤◌, ◌<◌, ◌≡◌, List, [], ◌∷◌, ◌++◌, length, take, drop}
use Rattle.std.proofs.Common.{sym, ap, ap₂, ◌∙◌, append-nil, arith, length-append, length-drop, take-add, take-take, drop_at, length-take-le}
use Rattle.std.proofs.Math.Seq.{take-append-add}
use Rattle.std.proofs.lemmas.List.{take-append-le}

-- the table with a row put as number b
abbrev pub with_row : List ℕ → (b h x m : ℕ) → List ℕ
with_row ns b h x m = take (3 * b) ns ++ h ∷ x ∷ m ∷ drop (3 * b + 3) ns

module _ (ns : List ℕ) (b h x m : ℕ) (room : 3 * b + 3 ≤ length ns) where
  front_length : length (take (3 * b) ns) ≡ 3 * b
  front_length = length-take-le (3 * b) ns (omega arith)

  pub length_with_row : length (with_row ns b h x m) ≡ length ns
  length_with_row =
      length-append (take (3 * b) ns) (h ∷ x ∷ m ∷ drop (3 * b + 3) ns)
      ∙ omega (arith, front_length, length-drop (3 * b + 3) ns)

  -- behind the row stand the rows rs of its parts, up to number n
  pub row_put
      : (ms rs : List ℕ) (n : ℕ) → b < n → 3 * b + 3 ≤ length ms → take (3 * n) ns ≡ take (3 * suc b) ms ++ rs
      → take (3 * n) (with_row ns b h x m) ≡ take (3 * b) ms ++ h ∷ x ∷ m ∷ rs
  row_put ms rs n l k e =
      ap (λ (i : ℕ). take i (with_row ns b h x m))
      (let f : 3 * n ≡ length (take (3 * b) ns) + suc (suc (suc (3 * n - 3 * suc b))) = omega (arith, front_length) in f)
      ∙ take-append-add (take (3 * b) ns) (h ∷ x ∷ m ∷ drop (3 * b + 3) ns) (suc (suc (suc (3 * n - 3 * suc b))))
      ∙ ap₂ (λ (s t : List ℕ). s ++ h ∷ x ∷ m ∷ t) before behind
    where
      three : 3 * suc b ≡ 3 * b + 3
      three = omega arith

      head_length : length (take (3 * suc b) ms) ≡ 3 * b + 3
      head_length = length-take-le (3 * suc b) ms (omega arith) ∙ three

      before : take (3 * b) ns ≡ take (3 * b) ms
      before =
          sym (take-take (3 * b) (3 * n) ns (omega arith))
          ∙ ap (λ (s : List ℕ). take (3 * b) s) e
          ∙ take-append-le (3 * b) (take (3 * suc b) ms) rs (omega (arith, head_length))
          ∙ take-take (3 * b) (3 * suc b) ms (omega arith)

      drop_take : drop (3 * b + 3) (take (3 * n) ns) ≡ take (3 * n - 3 * suc b) (drop (3 * b + 3) ns)
      drop_take =
          ap (λ (i : ℕ). drop (3 * b + 3) (take i ns)) (let f : 3 * n ≡ 3 * b + 3 + (3 * n - 3 * suc b) = omega arith in f)
          ∙ ap (λ (s : List ℕ). drop (3 * b + 3) s) (take-add (3 * b + 3) (3 * n - 3 * suc b) ns)
          ∙ drop_at (take (3 * b + 3) ns) (take (3 * n - 3 * suc b) (drop (3 * b + 3) ns)) (3 * b + 3)
          (length-take-le (3 * b + 3) ns room)

      behind : take (3 * n - 3 * suc b) (drop (3 * b + 3) ns) ≡ rs
      behind =
          sym drop_take
          ∙ ap (λ (s : List ℕ). drop (3 * b + 3) s) e
          ∙ drop_at (take (3 * suc b) ms) rs (3 * b + 3) head_length

  -- a row with no parts
  pub row_alone : take (3 * (b + 1)) (with_row ns b h x m) ≡ take (3 * b) ns ++ h ∷ x ∷ m ∷ []
  row_alone =
      row_put ns [] (b + 1) (omega arith) room
      (ap (λ (i : ℕ). take i ns) (let f : 3 * (b + 1) ≡ 3 * suc b = omega arith in f) ∙ sym (append-nil (take (3 * suc b) ns)))
