-- Whether one of some work slices is shorter than published, slice by slice. Assumes nothing.
use Rattle.std.proofs.Common.{ℕ, ◌≡◌, refl, ap, ◌||◌, List, [], ◌∷◌, length, arith}
use Rattle.std.specs.List.{zip, list_any}
use lib.Dec.{ltb}
use Rattle.definitions.specs.Operations.{slices_short}

pub any_short : (asked lent : List ℕ) → length asked ≡ length lent → list_any (λ p. ltb p.1 p.0) (zip asked lent) ≡ slices_short asked lent
unfolding slices_short
any_short [] [] e = refl
any_short [] (n ∷ ns) e = refl
any_short (m ∷ ms) [] e = absurd (let z : ⊥ = omega (arith, e) in z)
any_short (m ∷ ms) (n ∷ ns) e = ap (λ b. ltb n m || b) (any_short ms ns (omega (arith, e)))
