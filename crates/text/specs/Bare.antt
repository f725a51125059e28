-- A word whose bytes are written as they are in plain JSON. Assumes nothing.
use Rattle.std.specs.Prelude.{ℕ, ◌≡◌, take}
use Rattle.definitions.specs.Plain.{escaped_all}
use Rattle.pool.specs.Pool.{unpacked}

abbrev pub Bare : ℕ → Type 0
Bare x = (n : ℕ) → escaped_all (take n (unpacked x)) ≡ take n (unpacked x)
