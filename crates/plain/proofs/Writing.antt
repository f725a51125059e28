-- Bytes written into a slice one behind the other. Assumes nothing.
use Prim.Native.Nat.{ℕ}
use mathlib.Core.Path.{◌≡◌}
use Rattle.definitions.specs.Bytes.{Bytes}
use Rattle.text.specs.Writes.{Writes}
pub use Rattle.text.specs.WritesLaws.{writes_none, writes_byte, writes_then, writes_as}

-- the bytes come first, so that what they are called is held to them
pub written_as : {o o₁ : Bytes} {at r : ℕ} {s t : Bytes} → Writes o o₁ at s r → s ≡ t → Writes o o₁ at t r
written_as w e = writes_as e w
