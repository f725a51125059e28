-- Well-formed readers, what refusal 7 sees to for reader texts; and safe runs. Assumes nothing.
use Rattle.std.specs.Prelude.{ℕ, suc, Bool, true, not, ◌&&◌, ◌≡◌, ltb}
use Rattle.definitions.specs.Reader.{Place, Result, Pairs, no_pairs, pair, among_pairs}
use Rattle.definitions.specs.Outcome.{Outcome, ok, refused}
use Rattle.definitions.specs.Value.{Value}
use Rattle.definitions.specs.Shape.{Shape}
use Rattle.definitions.specs.Admits.{admits}
use Rattle.definitions.specs.Running.{Ran}
use Rattle.laws.specs.Distinct.{distinct}

-- the place's binding is among k
unfoldable pub scoped_place : ℕ → Place → Bool
scoped_place k (Place.it at n) = ltb n k
scoped_place k (Place.field at n p) = scoped_place k p

-- no `it` reaches past the document, where k bindings are there: "`each` binds the element in its R; `when` binds P's
-- value in both its R"
unfoldable mutual
  pub scoped : ℕ → Result → Bool
  scoped k (Result.convert at c p) = scoped_place k p
  scoped k (Result.keep at p) = scoped_place k p
  scoped k (Result.count at p) = scoped_place k p
  scoped k (Result.each at p r) = scoped_place k p && scoped (suc k) r
  scoped k (Result.when at t p r₁ r₂) = scoped_place k p && scoped (suc k) r₁ && scoped (suc k) r₂
  scoped k (Result.choose at r₁ r₂ r₃) = scoped k r₁ && scoped k r₂ && scoped k r₃
  scoped k (Result.literal at v) = true
  scoped k (Result.pack at ps) = scoped_pairs k ps

  pub scoped_pairs : ℕ → Pairs → Bool
  scoped_pairs k no_pairs = true
  scoped_pairs k (pair n r ps) = scoped k r && scoped_pairs k ps

-- "zero or more pairs and distinct names"; literals hold no name twice either
unfoldable mutual
  pub proper : Result → Bool
  proper (Result.convert at c p) = true
  proper (Result.keep at p) = true
  proper (Result.count at p) = true
  proper (Result.each at p r) = proper r
  proper (Result.when at t p r₁ r₂) = proper r₁ && proper r₂
  proper (Result.choose at r₁ r₂ r₃) = proper r₁ && proper r₂ && proper r₃
  proper (Result.literal at v) = distinct v
  proper (Result.pack at ps) = proper_pairs ps

  pub proper_pairs : Pairs → Bool
  proper_pairs no_pairs = true
  proper_pairs (pair n r ps) = not (among_pairs n ps) && proper r && proper_pairs ps

-- what a checked reader may come to: a value of the result shape, or 13
abbrev pub Safe : Shape → Outcome ℕ (Ran Value) → Type 0
Safe u (ok x) = (admits u x.result ≡ true) × (distinct x.result ≡ true)
Safe u (refused n at) = n ≡ 13
