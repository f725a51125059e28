-- What reading a number at a place of a document answers. Assumes nothing.
use Rattle.std.specs.Prelude.{ℕ, ◌≤◌, ◌≡◌, Bool, false, length, drop}
use Rattle.definitions.specs.Bytes.{Bytes}
use Rattle.definitions.specs.Number.{Number, Numeral, Phase, no_digits, beyond, number_of, begin, complete}
use Rattle.number.specs.NumberRun.{Run, longest}
use Rattle.number.specs.declared.NumberRead.{NumberRead}

-- the longest run that begins a number at a place of a document
abbrev pub run_at : Bytes → ℕ → Run
run_at doc at = longest begin no_digits (drop at doc)

-- the number that an answer holds
abbrev pub number_in : NumberRead → Number
number_in r = record { negative = r.negative; coefficient = r.coefficient; scale = r.scale }

-- what is read at a place of a document
pub record ReadsNumber (doc : Bytes) (at : ℕ) (r : NumberRead) : Type 0 where
  pub behind : at ≤ r.end
  pub within : r.end ≤ length doc
  -- the run ends there
  pub rest : drop r.end doc ≡ (run_at doc at).rest
  -- it is a number
  pub whole : r.complete ≡ complete (run_at doc at).phase
  -- it is one that refusal 4 is for
  pub over : r.beyond ≡ beyond (run_at doc at).digits
  -- the number that it means
  pub meaning : r.beyond ≡ false → number_in r ≡ number_of (run_at doc at).digits

-- the numeral of a number with no exponent
abbrev pub numeral : Bool → ℕ → ℕ → Numeral
numeral s c m = record { negative = s; coefficient = c; scale = m; exponent = false }

-- what is read from a place on, in a phase that the digits n have led to
pub record ReadsOn (doc : Bytes) (p : Phase) (n : Numeral) (at : ℕ) (r : NumberRead) : Type 0 where
  pub behind : at ≤ r.end
  pub within : r.end ≤ length doc
  pub rest : drop r.end doc ≡ (longest p n (drop at doc)).rest
  pub whole : r.complete ≡ complete (longest p n (drop at doc)).phase
  pub over : r.beyond ≡ beyond (longest p n (drop at doc)).digits
  pub meaning : r.beyond ≡ false → number_in r ≡ number_of (longest p n (drop at doc)).digits
