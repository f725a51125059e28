-- What reading, checking and running come to: a value, or a refusal with its number and place. Assumes nothing.
use Rattle.std.specs.Prelude.{ℕ, ◌-◌, length}
use Rattle.definitions.specs.Bytes.{Bytes}

-- what came out, or a refusal's number and its place P
pub data Outcome (P A : Type 0) : Type 0 where
  ok : A → Outcome P A
  refused : ℕ → P → Outcome P A

-- "a part that is refused stops the form that holds it"
infixl 20 ◌>>=◌
unfoldable pub ◌>>=◌ : {P A B : Type 0} → Outcome P A → (A → Outcome P B) → Outcome P B
ok a >>= f = f a
refused n p >>= f = refused n p

-- the place in s at which only r is left
unfoldable pub place : Bytes → Bytes → ℕ
place s r = length s - length r

-- a refusal that holds what is left of s at its place, as one that holds the place
unfoldable pub placed : {A : Type 0} → Bytes → Outcome Bytes A → Outcome ℕ A
placed s (ok a) = ok a
placed s (refused n r) = refused n (place s r)
