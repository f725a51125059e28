-- Digits that a run goes along, in the integer part and in the fraction. Assumes nothing.
use Prim.Native.Nat.{ℕ, zero, suc, ◌+◌, ◌-◌, ◌≤◌, ◌<◌}
use native.Mathlib.Nat.{le_refl, eq-or-lt_of_le}
use native.Mathlib.Decide.{dec_lt}
use native.Mathlib.Numerals.{add-one}
use native.Mathlib.Omega.{arith}
use mathlib.Core.Logic.{⊎_elim}
use mathlib.Core.Path.{◌≡◌, refl, sym, ap, ◌∙◌}
use mathlib.Core.Bool.{Bool, true, false, not, true≢false}
use mathlib.Core.Option.{none, some}
use lib.ListN.{length, get_or, drop}
use lib.Seq.{drop-cons}
use Rattle.definitions.specs.Bytes.{Bytes, between, look}
use Rattle.definitions.specs.Number.{Numeral, Phase, no_digits, begin, after_minus, after_zero, in_int, after_point}
use Rattle.definitions.specs.Number.{in_frac, after_e, after_sign, in_exp, next, extend, shifted, int_rows, e_rows}
use Rattle.number.specs.NumberRun.{longest}
use Rattle.number.specs.NumberRead.{ReadsNumber, ReadsOn, numeral}
use Rattle.number.specs.NumberCode.{Digit, AllDigits, onto, StandsAt, Opening, opening_of, behind_minus, Pointed, Settled, Quiet}
use Rattle.number.specs.NumberLaws.{longest_on}
use Rattle.number.proofs.Rows.{looked, nowhere, in_row, past_row, in_one, past_one, row_bounds, in_bounds, below_row}
use Rattle.number.specs.declared.NumberRead.{NumberRead}

pub digit_of : (b : ℕ) → between 48 57 b ≡ true → Digit b
digit_of b e = let m = row_bounds 48 57 b e in record { least = m.0; most = m.1 }

between_of : (lo hi b : ℕ) → lo ≤ b → b ≤ hi → between lo hi b ≡ true
between_of lo hi b l m = sym (in_bounds lo hi b l m)

lt_of_ne : {a b : ℕ} → a ≤ b → (b ≡ a → ⊥) → a < b
lt_of_ne h n = ⊎_elim (λ p. absurd (n (sym p))) (λ p. p) (eq-or-lt_of_le h)

-- a byte that goes on, at a place of a document
pub longest_at
    : (doc : Bytes) (i : ℕ) (p : Phase) (n : Numeral) {q : Phase} → i < length doc → look (next p) (get_or doc i 0) ≡ some q
    → longest p n (drop i doc) ≡ longest q (extend q n (get_or doc i 0)) (drop (i + 1) doc)
longest_at doc i p n h e =
    ap (λ (t : Bytes). longest p n t) (drop-cons doc i 0 h)
    ∙ longest_on p n (get_or doc i 0) (drop (suc i) doc) e
    ∙ rw add-one

-- ---- digits one behind the other

pub no_digit : {doc : Bytes} {at : ℕ} → at ≤ length doc → AllDigits doc at at
no_digit {at = at} h = record { behind = le_refl at; within = h; each = λ i l m. absurd (let z : ⊥ = omega arith in z) }

-- digits behind digits
pub digits_join : {doc : Bytes} {at i j : ℕ} → AllDigits doc at i → AllDigits doc i j → AllDigits doc at j
digits_join {doc} {at} {i} {j} d e =
    record { behind = omega (arith, d.behind, e.behind); within = e.within; each = λ k l m. go k l m (dec_lt k i) }
  where
    go : (k : ℕ) → at ≤ k → k < j → Dec (k < i) → between 48 57 (get_or doc k 0) ≡ true
    go k l m (yes h) = d.each k l h
    go k l m (no h) = e.each k (omega arith) m

-- a test that does not fail
pub holds : (b : Bool) → not b ≡ false → b ≡ true
holds true e = refl
holds false e = absurd (true≢false e)

-- one digit
pub one_digit : {doc : Bytes} {i : ℕ} → i < length doc → between 48 57 (get_or doc i 0) ≡ true → AllDigits doc i (i + 1)
one_digit {doc} {i} h e =
    record {
      behind = omega arith;
      within = omega arith;
      each = λ k l m. let q : k ≡ i = omega arith in ap (λ (j : ℕ). between 48 57 (get_or doc j 0)) q ∙ e;
    }

pub digits_front : {doc : Bytes} {at i j : ℕ} → at ≤ i → i ≤ j → AllDigits doc at j → AllDigits doc at i
digits_front h l d = record { behind = h; within = omega (arith, d.within); each = λ k m n. d.each k m (omega arith) }

pub digits_back : {doc : Bytes} {at i j : ℕ} → at ≤ i → i ≤ j → AllDigits doc at j → AllDigits doc i j
digits_back h l d = record { behind = l; within = d.within; each = λ k m n. d.each k (omega arith) n }

-- a run goes along them
module _ (doc : Bytes) (at : ℕ) (s : Bool) (k : ℕ) where
  int_run
      : (n : ℕ) → AllDigits doc at (at + n)
      → longest in_int (numeral s k 0) (drop at doc) ≡ longest in_int (numeral s (onto doc at n k) 0) (drop (at + n) doc)
  unfolding extend shifted next onto
  int_run zero d = ap (λ (i : ℕ). longest in_int (numeral s k 0) (drop i doc)) (let e : at ≡ at + 0 = omega arith in e)
  int_run (suc n) d =
      let front : AllDigits doc at (at + n) = digits_front (omega arith) (omega arith) d in
      let here : at + n < length doc = omega (arith, d.within) in
      int_run n front
      ∙ longest_at doc (at + n) in_int (numeral s (onto doc at n k) 0) here (sym (looked (in_row (d.each (at + n) (omega arith) (omega arith)))))
      ∙ ap (λ (i : ℕ). longest in_int (numeral s (onto doc at (suc n) k) 0) (drop i doc)) (let e : at + n + 1 ≡ at + suc n = omega arith in e)

  frac_run
      : (n : ℕ) → AllDigits doc at (at + n)
      → longest in_frac (numeral s k 0) (drop at doc) ≡ longest in_frac (numeral s (onto doc at n k) n) (drop (at + n) doc)
  unfolding extend shifted next onto
  frac_run zero d = ap (λ (i : ℕ). longest in_frac (numeral s k 0) (drop i doc)) (let e : at ≡ at + 0 = omega arith in e)
  frac_run (suc n) d =
      let front : AllDigits doc at (at + n) = digits_front (omega arith) (omega arith) d in
      let here : at + n < length doc = omega (arith, d.within) in
      frac_run n front
      ∙ longest_at doc (at + n) in_frac (numeral s (onto doc at n k) n) here (sym (looked (in_row (d.each (at + n) (omega arith) (omega arith)))))
      ∙ ap (λ (i : ℕ). longest in_frac (numeral s (onto doc at (suc n) k) (suc n)) (drop i doc)) (let e : at + n + 1 ≡ at + suc n = omega arith in e)

-- ---- where a number may end

pub quiet_none : (p : Phase) (b : ℕ) → Settled p → Quiet b → look (next p) b ≡ none
unfolding next e_rows
quiet_none begin b l q = absurd l
quiet_none after_minus b l q = absurd l
quiet_none after_zero b l q =
    sym (looked (past_one q.no_point (past_one q.no_e (past_one q.no_upper_e nowhere))))
quiet_none in_int b l q =
    sym (looked (past_row q.no_digit (past_one q.no_point (past_one q.no_e (past_one q.no_upper_e nowhere)))))
quiet_none after_point b l q = absurd l
quiet_none in_frac b l q =
    sym (looked (past_row q.no_digit (past_one q.no_e (past_one q.no_upper_e nowhere))))
quiet_none after_e b l q = absurd l
quiet_none after_sign b l q = absurd l
quiet_none in_exp b l q = absurd l

-- ---- where the parts of a number begin

-- reading goes on from another place
pub reads_from
    : {doc : Bytes} {p q : Phase} {n m : Numeral} {at i : ℕ} {r : NumberRead} → at ≤ i
    → longest p n (drop at doc) ≡ longest q m (drop i doc) → ReadsOn doc q m i r → ReadsOn doc p n at r
reads_from h e s =
    record {
      behind = omega (arith, h, s.behind);
      within = s.within;
      rest = rw e s.rest;
      whole = rw e s.whole;
      over = rw e s.over;
      meaning = λ b. rw e (s.meaning b);
    }

-- phases that a byte leads out of in the same way
same_from
    : (doc : Bytes) (i : ℕ) (p q : Phase) (n : Numeral) {t : Phase} → i < length doc → look (next p) (get_or doc i 0) ≡ some t
    → look (next q) (get_or doc i 0) ≡ some t → longest p n (drop i doc) ≡ longest q n (drop i doc)
same_from doc i p q n h e f = longest_at doc i p n h e ∙ sym (longest_at doc i q n h f)

pub minus_read
    : (doc : Bytes) (i : ℕ) → i < length doc → get_or doc i 0 ≡ 0x2D
    → longest begin no_digits (drop i doc) ≡ longest after_minus (numeral true 0 0) (drop (i + 1) doc)
unfolding next extend no_digits
minus_read doc i h e = longest_at doc i begin no_digits h (sym (looked (in_one e)))

pub zero_read
    : (doc : Bytes) (i : ℕ) (p : Phase) (n : Numeral) → Opening p → i < length doc → get_or doc i 0 ≡ 0x30
    → longest p n (drop i doc) ≡ longest after_zero n (drop (i + 1) doc)
unfolding next extend int_rows
zero_read doc i begin n o h e =
    longest_at doc i begin n h (sym (looked (past_one (λ q. omega (arith, q, e)) (in_one e))))
zero_read doc i after_minus n o h e = longest_at doc i after_minus n h (sym (looked (in_one e)))
zero_read doc i after_zero n o h e = absurd o
zero_read doc i in_int n o h e = absurd o
zero_read doc i after_point n o h e = absurd o
zero_read doc i in_frac n o h e = absurd o
zero_read doc i after_e n o h e = absurd o
zero_read doc i after_sign n o h e = absurd o
zero_read doc i in_exp n o h e = absurd o

-- a first digit that is no zero begins the digits of the integer part
pub int_read
    : (doc : Bytes) (i : ℕ) (p : Phase) (n : Numeral) → Opening p → i < length doc → Digit (get_or doc i 0)
    → (get_or doc i 0 ≡ 0x30 → ⊥) → longest p n (drop i doc) ≡ longest in_int n (drop i doc)
unfolding next int_rows
int_read doc i begin n o h d z =
    same_from doc i begin in_int n h
    (sym (looked (past_one (λ q. omega (arith, q, d.least))
    (past_one z (in_row (between_of 49 57 (get_or doc i 0) (omega (arith, d.least, lt_of_ne d.least z)) d.most))))))
    (sym (looked (in_row (between_of 48 57 (get_or doc i 0) d.least d.most))))
int_read doc i after_minus n o h d z =
    same_from doc i after_minus in_int n h
    (sym (looked (past_one z (in_row (between_of 49 57 (get_or doc i 0) (omega (arith, d.least, lt_of_ne d.least z)) d.most)))))
    (sym (looked (in_row (between_of 48 57 (get_or doc i 0) d.least d.most))))
int_read doc i after_zero n o h d z = absurd o
int_read doc i in_int n o h d z = absurd o
int_read doc i after_point n o h d z = absurd o
int_read doc i in_frac n o h d z = absurd o
int_read doc i after_e n o h d z = absurd o
int_read doc i after_sign n o h d z = absurd o
int_read doc i in_exp n o h d z = absurd o

pub point_read
    : (doc : Bytes) (i : ℕ) (p : Phase) (n : Numeral) → Pointed p → i < length doc → get_or doc i 0 ≡ 0x2E
    → longest p n (drop i doc) ≡ longest after_point n (drop (i + 1) doc)
unfolding next extend
point_read doc i after_zero n o h e = longest_at doc i after_zero n h (sym (looked (in_one e)))
point_read doc i in_int n o h e =
    longest_at doc i in_int n h (sym (looked (past_row (sym (below_row 48 57 (get_or doc i 0) (omega (arith, e)))) (in_one e))))
point_read doc i begin n o h e = absurd o
point_read doc i after_minus n o h e = absurd o
point_read doc i after_point n o h e = absurd o
point_read doc i in_frac n o h e = absurd o
point_read doc i after_e n o h e = absurd o
point_read doc i after_sign n o h e = absurd o
point_read doc i in_exp n o h e = absurd o

pub pointed_settled : (p : Phase) → Pointed p → Settled p
pointed_settled begin o = absurd o
pointed_settled after_minus o = absurd o
pointed_settled after_zero o = o
pointed_settled in_int o = o
pointed_settled after_point o = absurd o
pointed_settled in_frac o = absurd o
pointed_settled after_e o = absurd o
pointed_settled after_sign o = absurd o
pointed_settled in_exp o = absurd o

-- a digit begins those of the fraction
pub fraction_read
    : (doc : Bytes) (i : ℕ) (n : Numeral) → i < length doc → Digit (get_or doc i 0)
    → longest after_point n (drop i doc) ≡ longest in_frac n (drop i doc)
unfolding next
fraction_read doc i n h d =
    let e = between_of 48 57 (get_or doc i 0) d.least d.most in
    same_from doc i after_point in_frac n h (sym (looked (in_row e))) (sym (looked (in_row e)))

-- ---- a number's parts, one behind the other

-- a point and digits behind it
pub reads_fraction
    : {doc : Bytes} {at end : ℕ} (p : Phase) {s : Bool} {k : ℕ} {r : NumberRead} → Pointed p → at < length doc
    → get_or doc at 0 ≡ 0x2E → AllDigits doc (at + 1) end → at + 1 < end
    → ReadsOn doc in_frac (numeral s (onto doc (at + 1) (end - (at + 1)) k) (end - (at + 1))) end r → ReadsOn doc p (numeral s k 0) at r
reads_fraction {doc} {at} {end} p {s} {k} o h b d l r =
    let e : at + 1 + (end - (at + 1)) ≡ end = omega arith in
    reads_from (omega arith)
    (point_read doc at p (numeral s k 0) o h b
    ∙ fraction_read doc (at + 1) (numeral s k 0) (omega (arith, d.within)) (digit_of (get_or doc (at + 1) 0) (d.each (at + 1) (le_refl (at + 1)) l))
    ∙ frac_run doc (at + 1) s k (end - (at + 1)) (rw e d)
    ∙ ap (λ (i : ℕ). longest in_frac (numeral s (onto doc (at + 1) (end - (at + 1)) k) (end - (at + 1))) (drop i doc)) e)
    r

-- a zero
pub reads_zero
    : {doc : Bytes} {at : ℕ} (p : Phase) {n : Numeral} {r : NumberRead} → Opening p → at < length doc → get_or doc at 0 ≡ 0x30
    → ReadsOn doc after_zero n (at + 1) r → ReadsOn doc p n at r
reads_zero {doc} {at} p {n} o h b s = reads_from (omega arith) (zero_read doc at p n o h b) s

-- digits, of which the first is no zero
pub reads_int
    : {doc : Bytes} {at end : ℕ} (p : Phase) {s : Bool} {k : ℕ} {r : NumberRead} → Opening p
    → (at < length doc → get_or doc at 0 ≡ 0x30 → ⊥) → AllDigits doc at end → at < end
    → ReadsOn doc in_int (numeral s (onto doc at (end - at) k) 0) end r → ReadsOn doc p (numeral s k 0) at r
reads_int {doc} {at} {end} p {s} {k} o z d l r =
    let h : at < length doc = omega (arith, d.within) in
    let e : at + (end - at) ≡ end = omega arith in
    reads_from (omega arith)
    (int_read doc at p (numeral s k 0) o h (digit_of (get_or doc at 0) (d.each at (le_refl at) l)) (z h)
    ∙ int_run doc at s k (end - at) (rw e d)
    ∙ ap (λ (i : ℕ). longest in_int (numeral s (onto doc at (end - at) k) 0) (drop i doc)) e)
    r

-- a minus or none: the integer part begins behind it
pub signed
    : (doc : Bytes) (at : ℕ) (m : Bool) → StandsAt doc at 0x2D m
    → longest begin no_digits (drop at doc) ≡ longest (opening_of m) (numeral m 0 0) (drop (behind_minus at m) doc)
unfolding no_digits
signed doc at true s = minus_read doc at (s.inside refl) (s.here refl)
signed doc at false s = refl

pub opens : (m : Bool) → Opening (opening_of m)
opens true = tt
opens false = tt

pub behind_place : (doc : Bytes) (at : ℕ) (m : Bool) → at ≤ length doc → StandsAt doc at 0x2D m → behind_minus at m ≤ length doc
behind_place doc at true h s = omega (arith, s.inside refl)
behind_place doc at false h s = h

behind_ahead : (at : ℕ) (m : Bool) → at ≤ behind_minus at m
behind_ahead at true = omega arith
behind_ahead at false = le_refl at

pub reads_number : {doc : Bytes} {at : ℕ} {r : NumberRead} → ReadsOn doc begin no_digits at r → ReadsNumber doc at r
reads_number s =
    record {
      behind = s.behind;
      within = s.within;
      rest = s.rest;
      whole = s.whole;
      over = s.over;
      meaning = s.meaning;
    }

pub reads_signed
    : {doc : Bytes} {at start : ℕ} {m : Bool} {r : NumberRead} → StandsAt doc at 0x2D m → start ≡ behind_minus at m
    → ReadsOn doc (opening_of m) (numeral m 0 0) start r → ReadsNumber doc at r
reads_signed {doc} {at} {start} {m} s e h =
    reads_number
    (reads_from (omega (arith, behind_ahead at m, e))
    (signed doc at m s ∙ ap (λ (j : ℕ). longest (opening_of m) (numeral m 0 0) (drop j doc)) (sym e))
    h)
