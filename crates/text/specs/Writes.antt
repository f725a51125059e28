-- What a slice holds after some bytes were written into it. Assumes nothing.
use Rattle.std.specs.Prelude.{ℕ, ◌+◌, ◌≡◌, ◌++◌, length, take, drop}
use Rattle.definitions.specs.Bytes.{Bytes}

-- s stands from place at up to place r; before and behind it nothing is changed
pub record Writes (out out' : Bytes) (at : ℕ) (s : Bytes) (r : ℕ) : Type 0 where
  pub bytes : out' ≡ take at out ++ s ++ drop r out
  pub end : r ≡ at + length s
