-- Rows put and copied, in lists. Assumes nothing.
use Prim.Native.Nat.{ℕ, ◌+◌, ◌*◌, ◌≤◌, ◌<◌}
use native.Mathlib.Numerals.{add-one}
use native.Mathlib.Omega.{arith}
use mathlib.Core.Path.{◌≡◌, refl, sym, ap, ◌∙◌}
use mathlib.Core.List.{List, ◌∷◌, ◌++◌}
use lib.ListN.{length, get_or, take, drop, set, length-set, length-drop}
use lib.Seq.{length-take-le, take_at, get_or-drop, paste, paste-zero, paste-suc}
use Rattle.running.specs.Rows.{PutRow}
use Rattle.nodes.specs.RowLaws.{with_row}

-- ---- one row

module _ (ns : List ℕ) (b h x m : ℕ) where
  pub with_row_front : 3 * b + 3 ≤ length ns → take (3 * b) (with_row ns b h x m) ≡ take (3 * b) ns
  with_row_front room = take_at (take (3 * b) ns) (h ∷ x ∷ m ∷ drop (3 * b + 3) ns) (3 * b) (length-take-le (3 * b) ns (omega arith))

  pub row_put_here
      : {ms : List ℕ} → 3 * b + 3 ≤ length ns → ms ≡ take (3 * b) ns ++ h ∷ x ∷ m ∷ drop (3 * b + 3) ns → PutRow ns ms b h x m (b + 1)
  row_put_here room e =
      record {
        counted = refl;
        put = λ r. e;
        front = ap (λ (t : List ℕ). take (3 * b) t) e ∙ with_row_front room;
      }

  pub row_left : length ns < 3 * b + 3 → PutRow ns ns b h x m (b + 1)
  row_left short = record { counted = refl; put = λ r. absurd (let z : ⊥ = omega (arith, r, short) in z); front = refl }

-- ---- words copied one by one

pub record Copying (results₀ : List ℕ) (to : ℕ) (nodes : List ℕ) (from count : ℕ) (results : List ℕ) (i : ℕ) : Type 0 where
  pub written : results ≡ paste results₀ to (drop from nodes) i
  pub within : i ≤ count
  pub same : length results ≡ length results₀

pub copies : (results : List ℕ) (to : ℕ) (nodes : List ℕ) (from count : ℕ) → Copying results to nodes from count results 0
copies results to nodes from count = record { written = paste-zero results to (drop from nodes); within = omega arith; same = refl }

module _ {results₀ : List ℕ} {to : ℕ} {nodes : List ℕ} {from count : ℕ} {results : List ℕ} {i : ℕ} (c : Copying results₀ to nodes from count results i) where
  pub copies_on
      : i < count → to + count ≤ length results₀ → from + count ≤ length nodes
      → Copying results₀ to nodes from count (set results (to + i) (get_or nodes (from + i) 0)) (i + 1)
  copies_on h room there =
      record {
        written = ap (λ (x : ℕ). set results (to + i) x) (sym (get_or-drop from nodes i 0))
            ∙ ap (λ (l : List ℕ). set l (to + i) (get_or (drop from nodes) i 0)) c.written
            ∙ paste-suc results₀ to (drop from nodes) i 0 (omega arith) (omega (arith, length-drop from nodes))
            ∙ ap (λ (n : ℕ). paste results₀ to (drop from nodes) n) (sym (add-one i));
        within = omega arith;
        same = length-set results (to + i) (get_or nodes (from + i) 0) ∙ c.same;
      }

  pub copied : count ≤ i → results ≡ take to results₀ ++ take count (drop from nodes) ++ drop (to + count) results₀
  copied h =
      let all : i ≡ count = omega (arith, c.within) in
      c.written ∙ ap (λ (n : ℕ). paste results₀ to (drop from nodes) n) all
