-- A fraction of zeros alone, in the words of request Q-5, over RFC 8259's spelling: s begins with it, and r is left. Assumes
-- nothing.
use Rattle.std.specs.Prelude.{ℕ, suc, ◌∷◌}
use Rattle.definitions.specs.Bytes.{Bytes}

-- so many zeros
pub data Zeros : ℕ → Bytes → Bytes → Type 0 where
  no_zeros : {s : Bytes} → Zeros 0 s s
  a_zero : {n : ℕ} {s r : Bytes} → Zeros n s r → Zeros (suc n) (0x30 ∷ s) r

-- "a number whose fraction digits are all zero": a point and so many zeros, or no fraction
pub data ZeroFrac : ℕ → Bytes → Bytes → Type 0 where
  no_frac : {s : Bytes} → ZeroFrac 0 s s
  point : {n : ℕ} {s r : Bytes} → Zeros (suc n) s r → ZeroFrac (suc n) (0x2E ∷ s) r
