-- Words of a second table copied into a first. Assumes nothing.
use Prim.Native.Nat.{ℕ, ◌+◌, ◌≤◌, ◌<◌}
use native.Mathlib.Numerals.{add-one}
use native.Mathlib.Omega.{arith}
use mathlib.Core.Path.{◌≡◌, refl, sym, ap, ◌∙◌}
use mathlib.Core.List.{List, ◌++◌}
use lib.ListN.{length, get_or, take, drop, set, length-set, length-drop}
use lib.Seq.{get_or-drop, paste, paste-zero, paste-suc}

-- ---- copied one by one

-- the first i of the words stand at a place
pub record Copying (shapes₀ : List ℕ) (at : ℕ) (second : List ℕ) (from count : ℕ) (shapes : List ℕ) (i : ℕ) : Type 0 where
  pub written : shapes ≡ paste shapes₀ at (drop from second) i
  pub within : i ≤ count
  pub same : length shapes ≡ length shapes₀

pub copies : (shapes : List ℕ) (at : ℕ) (second : List ℕ) (from count : ℕ) → Copying shapes at second from count shapes 0
copies shapes at second from count = record { written = paste-zero shapes at (drop from second); within = omega arith; same = refl }

module _ {shapes₀ : List ℕ} {at : ℕ} {second : List ℕ} {from count : ℕ} {shapes : List ℕ} {i : ℕ} (c : Copying shapes₀ at second from count shapes i) where
  pub copies_on
      : i < count → at + count ≤ length shapes₀ → from + count ≤ length second
      → Copying shapes₀ at second from count (set shapes (at + i) (get_or second (from + i) 0)) (i + 1)
  copies_on h room there =
      record {
        written = ap (λ (x : ℕ). set shapes (at + i) x) (sym (get_or-drop from second i 0))
            ∙ ap (λ (l : List ℕ). set l (at + i) (get_or (drop from second) i 0)) c.written
            ∙ paste-suc shapes₀ at (drop from second) i 0 (omega arith) (omega (arith, length-drop from second))
            ∙ ap (λ (n : ℕ). paste shapes₀ at (drop from second) n) (sym (add-one i));
        within = omega arith;
        same = length-set shapes (at + i) (get_or second (from + i) 0) ∙ c.same;
      }

  pub copied : count ≤ i → shapes ≡ take at shapes₀ ++ take count (drop from second) ++ drop (at + count) shapes₀
  copied h =
      let all : i ≡ count = omega (arith, c.within) in
      c.written ∙ ap (λ (n : ℕ). paste shapes₀ at (drop from second) n) all
