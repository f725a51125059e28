-- How the code's phases and numerals stand for those of the definitions. Assumes nothing.
use Rattle.std.specs.Prelude.{ℕ, zero, suc, ◌+◌, ◌-◌, ◌*◌, ◌^◌, ◌≤◌, ◌<◌, min, ◌≡◌, Bool, true, false, length, get_or, Some, None}
use Rattle.std.specs.Prelude as std
use Rattle.std.proofs.Math.Option.{Option, none, some}
use Rattle.definitions.specs.Bytes.{Bytes, between}
use Rattle.definitions.specs.Number.{Numeral, beyond, number_of, Phase, begin, after_minus, after_zero}
use Rattle.definitions.specs.Number.{in_int, after_point, in_frac, after_e, after_sign, in_exp, complete}
use Rattle.pool.specs.Lanes.{lane}
use Rattle.number.specs.NumberRead.{number_in}
use Rattle.number.specs.declared.NumberRead.{NumberRead}
use Rattle.number.specs.declared.phase.NumberPhase.{NumberPhase}
use Rattle.number.specs.declared.phase.NumberPhase.TheVariants.{Begin, AfterMinus, AfterZero, InInt, AfterPoint, InFrac, AfterE, AfterSign, InExp}
use Rattle.number.specs.declared.numeral.CappedNumeral.{CappedNumeral}

-- ---- phases

abbrev pub phase_of : NumberPhase → Phase
phase_of Begin = begin
phase_of AfterMinus = after_minus
phase_of AfterZero = after_zero
phase_of InInt = in_int
phase_of AfterPoint = after_point
phase_of InFrac = in_frac
phase_of AfterE = after_e
phase_of AfterSign = after_sign
phase_of InExp = in_exp

-- where a byte leads
abbrev pub step_of : std.Option NumberPhase → Option Phase
step_of (Some q) = some (phase_of q)
step_of None = none

-- phases where the integer part begins
abbrev pub Opening : Phase → Type 0
Opening begin = Unit {0}
Opening after_minus = Unit {0}
Opening after_zero = ⊥
Opening in_int = ⊥
Opening after_point = ⊥
Opening in_frac = ⊥
Opening after_e = ⊥
Opening after_sign = ⊥
Opening in_exp = ⊥

-- the phase where it begins, behind a minus or not
abbrev pub opening_of : Bool → Phase
opening_of true = after_minus
opening_of false = begin

abbrev pub behind_minus : ℕ → Bool → ℕ
behind_minus at true = at + 1
behind_minus at false = at

-- phases behind digits of the integer part
abbrev pub Pointed : Phase → Type 0
Pointed begin = ⊥
Pointed after_minus = ⊥
Pointed after_zero = Unit {0}
Pointed in_int = Unit {0}
Pointed after_point = ⊥
Pointed in_frac = ⊥
Pointed after_e = ⊥
Pointed after_sign = ⊥
Pointed in_exp = ⊥

-- phases where a number may end that has no exponent
abbrev pub Settled : Phase → Type 0
Settled begin = ⊥
Settled after_minus = ⊥
Settled after_zero = Unit {0}
Settled in_int = Unit {0}
Settled after_point = ⊥
Settled in_frac = Unit {0}
Settled after_e = ⊥
Settled after_sign = ⊥
Settled in_exp = ⊥

-- b goes on with no number in such a phase
pub record Quiet (b : ℕ) : Type 0 where
  pub no_digit : between 48 57 b ≡ false
  pub no_point : b ≡ 0x2E → ⊥
  pub no_e : b ≡ 0x65 → ⊥
  pub no_upper_e : b ≡ 0x45 → ⊥

-- whether b stands at place i
pub record StandsAt (doc : Bytes) (i b : ℕ) (r : Bool) : Type 0 where
  pub inside : r ≡ true → i < length doc
  pub here : r ≡ true → get_or doc i 0 ≡ b
  pub other : r ≡ false → i < length doc → get_or doc i 0 ≡ b → ⊥

-- ---- numerals

-- DIGIT = %x30-39
pub record Digit (b : ℕ) : Type 0 where
  pub least : 48 ≤ b
  pub most : b ≤ 57

-- a byte that leads to a phase which takes it into the coefficient is a digit
abbrev pub Takes : Phase → ℕ → Type 0
Takes begin b = Unit {0}
Takes after_minus b = Unit {0}
Takes after_zero b = Unit {0}
Takes in_int b = Digit b
Takes after_point b = Unit {0}
Takes in_frac b = Digit b
Takes after_e b = Unit {0}
Takes after_sign b = Unit {0}
Takes in_exp b = Unit {0}

-- one more than a number may hold
abbrev pub past_coefficient : ℕ
past_coefficient = 1_000_000_000_000_000_000

abbrev pub past_scale : ℕ
past_scale = 10

-- d is the numeral n, but for digits past what a number may hold
pub record StandsFor (d : CappedNumeral) (n : Numeral) : Type 0 where
  pub negative : d.negative ≡ n.negative
  pub coefficient : d.coefficient ≡ min n.coefficient past_coefficient
  pub scale : d.scale ≡ min n.scale past_scale
  pub exponent : d.exponent ≡ n.exponent

-- ---- digits one behind the other

-- the bytes from a place up to an end are digits
pub record AllDigits (doc : Bytes) (at end : ℕ) : Type 0 where
  pub behind : at ≤ end
  pub within : end ≤ length doc
  pub each : (i : ℕ) → at ≤ i → i < end → between 48 57 (get_or doc i 0) ≡ true

-- a coefficient with the n digits from a place on
unfoldable pub onto : Bytes → ℕ → ℕ → ℕ → ℕ
onto doc at zero k = k
onto doc at (suc n) k = onto doc at n k * 10 + (get_or doc (at + n) 0 - 48)

-- the same of coefficients that stay at the cap: c becomes c'
pub record Taken (doc : Bytes) (at n c c' : ℕ) : Type 0 where
  pub capped : (k : ℕ) → c ≡ min k past_coefficient → c' ≡ min (onto doc at n k) past_coefficient

-- n digits from a place on can be taken by words onto the coefficient c
pub record HasRoom (doc : Bytes) (at n c : ℕ) : Type 0 where
  pub few : n ≤ 16
  pub word : at + 8 ≤ length doc
  pub below : c < 10 ^ (18 - n)

-- m of n digits come first: none or eight are left
pub record FirstCount (n m : ℕ) : Type 0 where
  pub all : n ≤ 8 → m ≡ n
  pub part : 8 < n → m + 8 ≡ n

-- the bytes of x are the values of the digits among the eight bytes from a place on
pub record DigitLanes (doc : Bytes) (at x : ℕ) : Type 0 where
  pub value : (j : ℕ) → j < 8 → between 48 57 (get_or doc (at + j) 0) ≡ true → lane x j ≡ get_or doc (at + j) 0 - 48

-- the number of the first n bytes of a word, if each is the value of a digit
unfoldable pub lanes_value : ℕ → ℕ → ℕ
lanes_value x zero = 0
lanes_value x (suc n) = lanes_value x n * 10 + lane x n

-- the integer part from a place on ends there: a zero, or digits of which the first is no zero, or none
pub data WholeEnd (doc : Bytes) (at end : ℕ) : Type 0 where
  a_zero : at < length doc → get_or doc at 0 ≡ 0x30 → end ≡ at + 1 → WholeEnd doc at end
  no_zero : (at < length doc → get_or doc at 0 ≡ 0x30 → ⊥) → AllDigits doc at end → WholeEnd doc at end

-- a fraction from a place on is there up to an end: a point and digits behind it, or nothing; more digits may follow
pub data FractionEnd (doc : Bytes) (at end : ℕ) : Type 0 where
  no_point : end ≡ at → FractionEnd doc at end
  a_point : at < length doc → get_or doc at 0 ≡ 0x2E → AllDigits doc (at + 1) end → FractionEnd doc at end

-- ---- answers

-- the answer for a run that ends at a place, in this phase and with these digits
pub record Answers (p : Phase) (d : CappedNumeral) (at : ℕ) (r : NumberRead) : Type 0 where
  pub end : r.end ≡ at
  pub whole : r.complete ≡ complete p
  pub over : (n : Numeral) → StandsFor d n → r.beyond ≡ beyond n
  pub meaning : (n : Numeral) → StandsFor d n → beyond n ≡ false → number_in r ≡ number_of n

-- the answer for a number of these digits that ends at a place
pub record Settles (n : Numeral) (at : ℕ) (r : NumberRead) : Type 0 where
  pub end : r.end ≡ at
  pub whole : r.complete ≡ true
  pub over : r.beyond ≡ beyond n
  pub meaning : r.beyond ≡ false → number_in r ≡ number_of n
