-- How the loop of `read_on` goes along the run that begins a number. Assumes nothing.
use Prim.Native.Nat.{ℕ, suc, ◌+◌, ◌≤◌, ◌<◌}
use native.Mathlib.Nat.{le_refl}
use native.Mathlib.Numerals.{add-one}
use native.Mathlib.Omega.{arith}
use mathlib.Core.Path.{◌≡◌, refl, sym, ap, ◌∙◌, subst}
use mathlib.Core.Bool.{Bool, true, false}
use mathlib.Core.List.{List, [], ◌∷◌}
use mathlib.Core.Option.{none, some}
use lib.ListN.{length, get_or, drop, drop_of_length-le}
use lib.Seq.{drop-cons}
use Rattle.definitions.specs.Bytes.{Bytes, Row, row, between, look}
use Rattle.definitions.specs.Number.{Numeral, Phase, begin, after_minus, after_zero, in_int, after_point}
use Rattle.definitions.specs.Number.{in_frac, after_e, after_sign, in_exp, next, int_rows, e_rows, extend}
use Rattle.number.specs.NumberRun.{longest}
use Rattle.number.specs.NumberRead.{ReadsOn}
use Rattle.number.specs.NumberCode.{Answers, StandsFor, Takes, Digit, phase_of, step_of}
use Rattle.number.specs.NumberLaws.{longest_on, longest_off}
use Rattle.number.proofs.Rows.{row_bounds}
use Rattle.number.specs.declared.NumberRead.{NumberRead}
use Rattle.number.specs.declared.numeral.CappedNumeral.{CappedNumeral}
use Rattle.number.specs.declared.phase.NumberPhase.{NumberPhase}
use Rattle.std.specs.Prelude.{Some, None}
use Rattle.std.specs.Prelude as std

-- ---- what is taken into the coefficient is a digit

-- each byte of a row may go where the row leads
abbrev Fit : List (Row Phase) → Type 0
Fit [] = Unit {0}
Fit (row lo hi q ∷ rows) = ((b : ℕ) → lo ≤ b → b ≤ hi → Takes q b) × Fit rows

fit_look : (rows : List (Row Phase)) (q : Phase) (b : ℕ) → Fit rows → some q ≡ look rows b → Takes q b
unfolding look
fit_look [] q b f e = absurd (let z : ◌≡◌ {A = ℕ} 0 1 = cc in omega arith)
fit_look (row lo hi a ∷ rows) q b f e = go (between lo hi b) refl e (fit_look rows q b f.1)
  where
    go
        : (x : Bool) → between lo hi b ≡ x → some q ≡ elim x [ true ↦ some a | false ↦ look rows b ]
        → (some q ≡ look rows b → Takes q b) → Takes q b
    go true m g more =
        let same : q ≡ a = cc in
        let bounds = row_bounds lo hi b m in
        rw same (f.0 b bounds.0 bounds.1)
    go false m g more = more g

digit : (b : ℕ) → 48 ≤ b → b ≤ 57 → Digit b
digit b l m = record { least = l; most = m }

digit1_9 : (b : ℕ) → 49 ≤ b → b ≤ 57 → Digit b
digit1_9 b l m = record { least = omega arith; most = m }

fit_next : (p : Phase) → Fit (next p)
unfolding next int_rows e_rows
fit_next begin = (λ b l m. tt, (λ b l m. tt, (digit1_9, tt)))
fit_next after_minus = (λ b l m. tt, (digit1_9, tt))
fit_next after_zero = (λ b l m. tt, (λ b l m. tt, (λ b l m. tt, tt)))
fit_next in_int = (digit, (λ b l m. tt, (λ b l m. tt, (λ b l m. tt, tt))))
fit_next after_point = (digit, tt)
fit_next in_frac = (digit, (λ b l m. tt, (λ b l m. tt, tt)))
fit_next after_e = (λ b l m. tt, (λ b l m. tt, (λ b l m. tt, tt)))
fit_next after_sign = (λ b l m. tt, tt)
fit_next in_exp = (λ b l m. tt, tt)

pub takes
    : (p : Phase) (b : ℕ) {t : std.Option NumberPhase} {q : NumberPhase} → t ≡ Some q → step_of t ≡ look (next p) b → Takes (phase_of q) b
takes p b {q = q} led e = fit_look (next p) (phase_of q) b (fit_next p) (sym (ap step_of led) ∙ e)

-- ---- the loop

-- the run from a place is the run from here, with the digits in between
pub record Reading (doc : Bytes) (p₀ : Phase) (n₀ : Numeral) (at : ℕ) (phase : NumberPhase) (d : CappedNumeral) (i : ℕ) : Type 0 where
  pub digits : Numeral
  pub behind : at ≤ i
  pub within : i ≤ length doc
  pub stands : StandsFor d digits
  pub run : longest p₀ n₀ (drop at doc) ≡ longest (phase_of phase) digits (drop i doc)

pub begins
    : {doc : Bytes} {at : ℕ} {p : NumberPhase} {d : CappedNumeral} {n : Numeral} → at ≤ length doc → StandsFor d n
    → Reading doc (phase_of p) n at p d at
begins {at} {n = n} h s = record { digits = n; behind = le_refl at; within = h; stands = s; run = refl }

module _ {doc : Bytes} {p₀ : Phase} {n₀ : Numeral} {at : ℕ} {p : NumberPhase} {d : CappedNumeral} {i : ℕ} (s : Reading doc p₀ n₀ at p d i) where
  pub goes_on
      : {t : std.Option NumberPhase} {q : NumberPhase} {d' : CappedNumeral} → i < length doc → t ≡ Some q
      → step_of t ≡ look (next (phase_of p)) (get_or doc i 0)
      → ((n : Numeral) → StandsFor d n → StandsFor d' (extend (phase_of q) n (get_or doc i 0)))
      → Reading doc p₀ n₀ at q d' (i + 1)
  goes_on {q = q} h led e f =
      record {
        digits = extend (phase_of q) s.digits (get_or doc i 0);
        behind = omega (arith, s.behind);
        within = omega arith;
        stands = f s.digits s.stands;
        run = s.run
            ∙ ap (λ (t : Bytes). longest (phase_of p) s.digits t) (drop-cons doc i 0 h)
            ∙ longest_on (phase_of p) s.digits (get_or doc i 0) (drop (suc i) doc) (sym e ∙ ap step_of led)
            ∙ rw add-one;
      }

  -- where no byte goes on, the answer is the run's
  ended
      : {r : NumberRead}
      → longest (phase_of p) s.digits (drop i doc) ≡ record { phase = phase_of p; digits = s.digits; rest = drop i doc }
      → Answers (phase_of p) d i r → ReadsOn doc p₀ n₀ at r
  ended {r} e a =
      let here : longest p₀ n₀ (drop at doc) ≡ record { phase = phase_of p; digits = s.digits; rest = drop i doc } = s.run ∙ e in
      record {
        behind = omega (arith, a.end, s.behind);
        within = omega (arith, a.end, s.within);
        rest = rw (a.end, here);
        whole = rw here a.whole;
        over = rw here (a.over s.digits s.stands);
        meaning = λ b. rw here (a.meaning s.digits s.stands (sym (a.over s.digits s.stands) ∙ b));
      }

  -- where the byte here goes on with no number
  pub stops_at
      : {r : NumberRead} → i < length doc → look (next (phase_of p)) (get_or doc i 0) ≡ none → Answers (phase_of p) d i r
      → ReadsOn doc p₀ n₀ at r
  stops_at h e a =
      ended (rw (drop-cons doc i 0 h) (longest_off (phase_of p) s.digits (get_or doc i 0) (drop (suc i) doc) e)) a

  pub stops
      : {t : std.Option NumberPhase} {r : NumberRead} → i < length doc → t ≡ None
      → step_of t ≡ look (next (phase_of p)) (get_or doc i 0) → Answers (phase_of p) d i r → ReadsOn doc p₀ n₀ at r
  stops h led e a = stops_at h (sym e ∙ ap step_of led) a

  -- where the document ends
  pub ends : {r : NumberRead} → length doc ≤ i → Answers (phase_of p) d (length doc) r → ReadsOn doc p₀ n₀ at r
  unfolding longest
  ends {r} h a =
      ended (rw (drop_of_length-le doc h))
      (subst (λ (k : ℕ). Answers (phase_of p) d k r) (let e : length doc ≡ i = omega (arith, s.within) in e) a)
