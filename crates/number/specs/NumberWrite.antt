-- What writing a number as plain JSON does to a buffer. Assumes nothing.
use Rattle.std.specs.Prelude.{ℕ, ◌+◌, ◌/◌, ◌^◌, ◌≤◌, ◌≡◌, Bool, [], ◌++◌, length, take, drop}
use Rattle.definitions.specs.Bytes.{Bytes}
use Rattle.definitions.specs.Number.{Number, most_coefficient, most_scale}
use Rattle.definitions.specs.Plain.{last_digits, fraction, plain_number}

-- a number from its sign, its coefficient and its scale
abbrev pub as_number : Bool → ℕ → ℕ → Number
as_number negative coefficient scale = record { negative = negative; coefficient = coefficient; scale = scale }

-- a number that refusal 4 is not for
pub record Bounded (x : Number) : Type 0 where
  pub coefficient : x.coefficient ≤ most_coefficient
  pub scale : x.scale ≤ most_scale

-- a buffer with s in place of what stood at a place
abbrev pub written : Bytes → ℕ → Bytes → Bytes
written out at s = take at out ++ s ++ drop (at + length s) out

-- the number stands at a place of the buffer, and what stood before it and behind it is kept
pub record WritesNumber (entry : Bytes) (at : ℕ) (x : Number) (exit : Bytes) (r : ℕ) : Type 0 where
  pub end : r ≡ at + length (plain_number x)
  pub kept : exit ≡ take at entry ++ plain_number x ++ drop r entry

-- a part s stands at a place of the buffer, and what is left to write is the answer
pub record Writes (entry : Bytes) (at : ℕ) (s : Bytes) (exit : Bytes) (left : ℕ) (r : ℕ) : Type 0 where
  pub kept : exit ≡ written entry at s
  pub rest : r ≡ left

-- a buffer with the fraction of c behind so many digits, and the digits of its integer part before that, from a place on
abbrev pub unsigned_written : Bytes → (at digits scale c : ℕ) → Bytes
unsigned_written out at digits scale c = written (written out (at + digits) (fraction scale c)) at (last_digits digits (c / 10 ^ scale) [])
