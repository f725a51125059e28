-- What goes before the texts: a refusal's cause, or nothing. Assumes nothing.
use Rattle.std.specs.Prelude.{ℕ, ◌≡◌, refl, Bool, true, false, List, Result, Ok, Err}
use Rattle.std.proofs.Common.{ap, ◌∙◌}
use Rattle.definitions.specs.declared.Limits.{Limits}
use Rattle.definitions.specs.declared.Answer.{Answer}
use Rattle.definitions.specs.Limits.{in_range}
use Rattle.definitions.specs.Bytes.{Bytes}
use Rattle.definitions.specs.Operations.{Judged, refusal, TextOut, slices_short, prelude, finish, say}
use Rattle.reading.specs.declared.Cause.{Cause}
use Rattle.reading.specs.declared.Cause.TheVariants as cause
use Rattle.reading.specs.Refusals.{number_of}
use Rattle.laws.specs.Ends.{Comes, finishes_out, finishes_short, finishes_long, says_out, says_short, says_long}

-- limits out of range go before a slice that is short
abbrev pub before : (range short : Bool) → Result (Unit {0}) Cause
before false short = Err cause.LimitOutOfRange
before true true = Err cause.TooShort
before true false = Ok tt

-- what is judged is the prelude at these limits, with these slices
pub record Before (l : Limits) (published lent : List ℕ) (r : Result (Unit {0}) Cause) : Type 0 where
  pub judged : r ≡ before (in_range l) (slices_short published lent)

module _ {l : Limits} {published lent : List ℕ} where
  pub before_out : in_range l ≡ false → Before l published lent (Err cause.LimitOutOfRange)
  before_out r = record { judged = rw r refl }

  pub before_short : in_range l ≡ true → slices_short published lent ≡ true → Before l published lent (Err cause.TooShort)
  before_short r s = record { judged = rw (r, s) refl }

  pub before_none : in_range l ≡ true → slices_short published lent ≡ false → Before l published lent (Ok tt)
  before_none r s = record { judged = rw (r, s) refl }

module _ {l : Limits} {published lent : List ℕ} {r : Result (Unit {0}) Cause} (e : Before l published lent r) where
  -- it is one of three
  told : (range short : Bool) → in_range l ≡ range → slices_short published lent ≡ short → r ≡ before range short
  told range short h s = e.judged ∙ ap (λ b. before b (slices_short published lent)) h ∙ ap (before range) s

  pub none_before : r ≡ Ok tt → (in_range l ≡ true) × (slices_short published lent ≡ false)
  none_before z = go (in_range l) (slices_short published lent) refl refl
    where
      go : (range short : Bool) → in_range l ≡ range → slices_short published lent ≡ short
          → (in_range l ≡ true) × (slices_short published lent ≡ false)
      go false short h s = absurd (let w = told false short h s in cc)
      go true true h s = absurd (let w = told true true h s in cc)
      go true false h s = (h, s)

  -- the cause k that is told, by its number n
  module _ {k : Cause} (f : r ≡ Err k) {n : ℕ} (numbered : n ≡ number_of k) where
    number_told : (k' : Cause) → r ≡ Err k' → n ≡ number_of k'
    number_told k' e = numbered ∙ ap number_of (let s : k ≡ k' = cc in s)

    -- with an output
    pub finishes_before : (out : Bytes) (j : Judged TextOut) {a : Answer} → a ≡ refusal n 0 0 → Comes (finish out (prelude l published lent j)) a out
    finishes_before out j {a} w = go (in_range l) (slices_short published lent) refl refl
      where
        go : (range short : Bool) → in_range l ≡ range → slices_short published lent ≡ short → Comes (finish out (prelude l published lent j)) a out
        go false short h s = finishes_out l published lent out j h (w ∙ ap (λ (x : ℕ). refusal x 0 0) (number_told _ (told false short h s)))
        go true true h s = finishes_short l published lent out j h s (w ∙ ap (λ (x : ℕ). refusal x 0 0) (number_told _ (told true true h s)))
        go true false h s = absurd (let q = told true false h s in cc)

    -- without
    pub says_before : (j : Judged Bool) {a : Answer} → a ≡ refusal n 0 0 → a ≡ say (prelude l published lent j)
    says_before j {a} w = go (in_range l) (slices_short published lent) refl refl
      where
        go : (range short : Bool) → in_range l ≡ range → slices_short published lent ≡ short → a ≡ say (prelude l published lent j)
        go false short h s = says_out l published lent j h (w ∙ ap (λ (x : ℕ). refusal x 0 0) (number_told _ (told false short h s)))
        go true true h s = says_short l published lent j h s (w ∙ ap (λ (x : ℕ). refusal x 0 0) (number_told _ (told true true h s)))
        go true false h s = absurd (let q = told true false h s in cc)

  -- behind it
  module _ (z : r ≡ Ok tt) where
    pub finishes_behind : (out : Bytes) (j : Judged TextOut) {a : Answer} {out' : Bytes}
        → Comes (finish out j) a out' → Comes (finish out (prelude l published lent j)) a out'
    finishes_behind out j c = let (h, s) = none_before z in finishes_long l published lent out j h s c

    pub says_behind : (j : Judged Bool) {a : Answer} → a ≡ say j → a ≡ say (prelude l published lent j)
    says_behind j c = let (h, s) = none_before z in says_long l published lent j h s c
