-- A number without an exponent by its parts: a sign, an integer part and a fraction. Assumes nothing.
use Prim.Native.Nat.{ℕ, suc, ◌+◌, ◌-◌, ◌≤◌, ◌<◌}
use native.Mathlib.Nat.{add-zero, eq-or-lt_of_le}
use native.Mathlib.Omega.{arith}
use mathlib.Core.Logic.{⊎_elim}
use mathlib.Core.Path.{◌≡◌, refl, sym, ap, ◌∙◌, subst}
use mathlib.Core.Bool.{Bool, true, false, ◌||◌, true≢false}
use borrow.Author.Tests.{eqb-false}
use lib.Arith.{lt_of_le-ne}
use lib.Dec.{eqb}
use lib.ListN.{length, get_or, drop, drop_of_length-le}
use lib.Seq.{drop-cons}
use Rattle.definitions.specs.Bytes.{Bytes, between}
use Rattle.definitions.specs.Number.{Numeral, Phase, begin, after_minus, after_zero, in_int, after_point}
use Rattle.definitions.specs.Number.{in_frac, after_e, after_sign, in_exp, complete}
use Rattle.number.specs.NumberRun.{longest}
use Rattle.number.specs.NumberRead.{ReadsNumber, ReadsOn, numeral}
use Rattle.number.specs.NumberCode.{AllDigits, onto, WholeEnd, a_zero, no_zero, FractionEnd, a_point, no_point}
use Rattle.number.specs.NumberCode.{Opening, opening_of, behind_minus, Pointed, Settled, Settles, Quiet, StandsAt}
use Rattle.number.specs.NumberLaws.{longest_off}
use Rattle.number.specs.declared.NumberRead.{NumberRead}
use Rattle.number.proofs.DigitRuns.{one_digit, quiet_none, pointed_settled, opens, reads_zero, reads_int, reads_fraction, reads_signed}

-- ---- where the parts end

pub whole_digits : {doc : Bytes} {at end : ℕ} → WholeEnd doc at end → AllDigits doc at end
unfolding between
whole_digits {doc} {at} (a_zero h z e) = rw e (one_digit h (ap (between 48 57) z))
whole_digits (no_zero z d) = d

pub fraction_within : {doc : Bytes} {at end : ℕ} → FractionEnd doc at end → at ≤ length doc → end ≤ length doc
fraction_within (no_point e) h = omega (arith, e)
fraction_within (a_point h b d) l = d.within

pub fraction_digits : {doc : Bytes} {at end : ℕ} → FractionEnd doc at end → (end ≡ at → ⊥) → AllDigits doc (at + 1) end
fraction_digits (no_point e) n = absurd (n e)
fraction_digits (a_point h b d) n = d

-- ---- a number ends

settled_complete : (p : Phase) → Settled p → complete p ≡ true
unfolding complete
settled_complete begin o = absurd o
settled_complete after_minus o = absurd o
settled_complete after_zero o = refl
settled_complete in_int o = refl
settled_complete after_point o = absurd o
settled_complete in_frac o = refl
settled_complete after_e o = absurd o
settled_complete after_sign o = absurd o
settled_complete in_exp o = absurd o

-- no byte goes on where a number may end
module _ (doc : Bytes) (at : ℕ) (p : Phase) (n : Numeral) (o : Settled p) (h : at ≤ length doc)
    (quiet : at < length doc → Quiet (get_or doc at 0)) where
  run_ends : longest p n (drop at doc) ≡ record { phase = p; digits = n; rest = drop at doc }
  unfolding longest
  run_ends =
      ⊎_elim (λ q. let l : length doc ≤ at = omega (arith, q) in rw (drop_of_length-le doc l))
      (λ l. rw (drop-cons doc at 0 l) (longest_off p n (get_or doc at 0) (drop (suc at) doc) (quiet_none p (get_or doc at 0) o (quiet l))))
      (eq-or-lt_of_le h)

  pub reads_settled : {r : NumberRead} → Settles n at r → ReadsOn doc p n at r
  reads_settled s =
      record {
        behind = omega (arith, s.end);
        within = omega (arith, s.end);
        rest = rw (s.end, run_ends);
        whole = rw run_ends (s.whole ∙ sym (settled_complete p o));
        over = rw run_ends s.over;
        meaning = λ b. rw run_ends (s.meaning b);
      }

-- ---- the parts

onto_zero : (doc : Bytes) (at : ℕ) → get_or doc at 0 ≡ 0x30 → onto doc at 1 0 ≡ 0
unfolding onto
onto_zero doc at z = let e : get_or doc (at + 0) 0 ≡ 0x30 = rw (add-zero at) z in omega arith

-- an integer part, whatever is behind it
pub reads_whole
    : {doc : Bytes} {at end : ℕ} (p : Phase) {s : Bool} {r : NumberRead} → Opening p → WholeEnd doc at end → (end ≡ at → ⊥)
    → ((q : Phase) → Pointed q → ReadsOn doc q (numeral s (onto doc at (end - at) 0) 0) end r) → ReadsOn doc p (numeral s 0 0) at r
reads_whole {doc} {at} {end} p {s} {r} o (a_zero h z e) n more =
    let one : end - at ≡ 1 = omega (arith, e) in
    reads_zero p o h z (rw (one, onto_zero doc at z, e) at (more after_zero tt))
reads_whole {doc} {at} {end} p o (no_zero z d) n more =
    let l : at < end = lt_of_le-ne d.behind (λ q. n (sym q)) in
    reads_int p o z d l (more in_int tt)

-- a fraction
pub reads_behind
    : {doc : Bytes} {at end : ℕ} {s : Bool} {k : ℕ} {r : NumberRead} → FractionEnd doc at end → (end ≡ at → ⊥) → (end ≡ at + 1 → ⊥)
    → ReadsOn doc in_frac (numeral s (onto doc (at + 1) (end - (at + 1)) k) (end - (at + 1))) end r
    → (q : Phase) → Pointed q → ReadsOn doc q (numeral s k 0) at r
reads_behind (no_point e) n m more q o = absurd (n e)
reads_behind {doc} {at} {end} (a_point h b d) n m more q o =
    let l : at + 1 < end = lt_of_le-ne d.behind (λ e. m (sym e)) in
    reads_fraction q o h b d l more

-- ---- a number

-- the tests that lead to an answer at once
abbrev Refused : ℕ → ℕ → ℕ → Bool → Bool
Refused start point end more = eqb point start || eqb end (point + 1) || more

neither : (x y : Bool) → x || y ≡ false → (x ≡ false) × (y ≡ false)
neither true y e = absurd (true≢false e)
neither false y e = (refl, e)

module _ {doc : Bytes} {at start point end : ℕ} {m : Bool} (sign : StandsAt doc at 0x2D m) (begins : start ≡ behind_minus at m)
    (w : WholeEnd doc start point) (f : FractionEnd doc point end) (more : Bool) (passed : Refused start point end more ≡ false) where
  tests : (eqb point start ≡ false) × (eqb end (point + 1) ≡ false) × (more ≡ false)
  tests =
      let two = neither (eqb point start || eqb end (point + 1)) more passed in
      let one = neither (eqb point start) (eqb end (point + 1)) two.0 in
      (one.0, one.1, two.1)

  pub start_before : start < point
  start_before = lt_of_le-ne (whole_digits w).behind (λ e. eqb-false point start tests.0 (sym e))

  pub first_before : (end ≡ point → ⊥) → point + 1 < end
  first_before n = lt_of_le-ne (fraction_digits f n).behind (λ e. eqb-false end (point + 1) tests.1 (sym e))

  whole_number
      : {r : NumberRead} → ((q : Phase) → Pointed q → ReadsOn doc q (numeral m (onto doc start (point - start) 0) 0) point r)
      → ReadsNumber doc at r
  whole_number more = reads_signed sign begins (reads_whole (opening_of m) (opens m) w (eqb-false point start tests.0) more)

  -- no byte goes on
  module _ (quiet : more ≡ false → end < length doc → Quiet (get_or doc end 0)) where
    ends : (p : Phase) (n : Numeral) {r : NumberRead} → Settled p → Settles n end r → ReadsOn doc p n end r
    ends p n o s = reads_settled doc end p n o (fraction_within f (whole_digits w).within) (quiet tests.2) s

    pub reads_int_number
        : {r : NumberRead} → end ≡ point → Settles (numeral m (onto doc start (point - start) 0) 0) end r → ReadsNumber doc at r
    reads_int_number {r} e s =
        whole_number
        (λ q o.
        subst (λ (i : ℕ). ReadsOn doc q (numeral m (onto doc start (point - start) 0) 0) i r) e
        (ends q (numeral m (onto doc start (point - start) 0) 0) (pointed_settled q o) s))

    pub reads_decimal_number
        : {r : NumberRead} → (end ≡ point → ⊥)
        → Settles (numeral m (onto doc (point + 1) (end - (point + 1)) (onto doc start (point - start) 0)) (end - (point + 1))) end r
        → ReadsNumber doc at r
    reads_decimal_number n s =
        whole_number
        (reads_behind f n (eqb-false end (point + 1) tests.1)
        (ends in_frac (numeral m (onto doc (point + 1) (end - (point + 1)) (onto doc start (point - start) 0)) (end - (point + 1))) tt s))
