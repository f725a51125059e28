-- Line feeds and indentation. Assumes nothing.
use Prim.Native.Nat.{ℕ, ◌+◌}
use native.Mathlib.Omega.{arith}
use mathlib.Core.Path.{◌≡◌}
use lib.ListN.{length, length-replicate}
use Rattle.definitions.specs.Bytes.{bytes}
use Rattle.definitions.specs.ShapeText.{new_line}

pub length_new_line : (around : ℕ) → length (new_line around) ≡ 1 + around
unfolding new_line bytes
length_new_line around = omega (arith, length-replicate {A = ℕ} around 0x20)
