-- Words moved up, and words of a second table put in their place. Assumes nothing.
use Rattle.std.specs.Prelude.{ℕ, ◌+◌, ◌≤◌, ◌≡◌, List, ◌++◌, length, take, drop}
use Rattle.std.proofs.Common.{ap, ap₂, ◌∙◌, arith, append_assoc, length-take-le, drop_at, drop-drop}
use Rattle.std.proofs.Math.Seq.{paste}
use Rattle.join.specs.Replacing.{Opened}

module _ (part : List ℕ) {part' : List ℕ} (used gap : ℕ) (j : used + gap ≤ length part) where
  pub opened : (n : ℕ) → n ≡ used → part' ≡ paste part gap (drop 0 part) n → length part' ≡ length part → Opened part part' used gap
  opened n m e l =
      let front : List ℕ = take gap part in
      let moved : List ℕ = take used part in
      let free : List ℕ = drop (gap + used) part in
      let w : length front ≡ gap = length-take-le gap part (omega arith) in
      let f : part' ≡ front ++ (moved ++ free) = e ∙ ap (paste part gap part) m ∙ append_assoc front moved free in
      record {
        moved = ap (drop gap) f
            ∙ drop_at front (moved ++ free) gap w
            ∙ ap (λ (n : ℕ). moved ++ drop n part) (let q : gap + used ≡ used + gap = omega arith in q);
        same = l;
      }

-- words put in the place of so many others
pub part_put
    : (xs rows part : List ℕ) (at count n : ℕ) → part ≡ rows → n ≡ count → take at xs ++ (part ++ drop n (drop at xs)) ≡ take at xs ++
    (rows ++ drop (at + count) xs)
part_put xs rows part at count n e f =
    ap₂ (λ (l : List ℕ) (k : ℕ). take at xs ++ (l ++ drop k (drop at xs))) e f ∙ ap (λ (l : List ℕ). take at xs ++ (rows ++ l)) (drop-drop count at xs)
