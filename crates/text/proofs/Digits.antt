-- Four hexadecimal digits, one after the other: what `read_digits` keeps. Assumes nothing.
use Prim.Native.Nat.{ℕ, zero, suc, ◌+◌, ◌-◌, ◌*◌, ◌≤◌, ◌<◌}
use mathlib.Core.Path.{◌≡◌, refl, sym, ap, ap₂, ◌∙◌, subst}
use mathlib.Core.Logic.{◌⊎◌, inl, inr}
use mathlib.Core.Bool.{Bool, true, false, not, ◌&&◌, true≢false, false≢true}
use mathlib.Core.Option.{Option, none, some}
use Rattle.std.specs.Prelude.{Some, None}
use lib.Dec.{leb, ltb, eqb}
use lib.ListN.{length, drop, get_or}
use native.Mathlib.Numerals.{add-one}
use native.Mathlib.Nat.{add_assoc}
use native.Mathlib.Omega.{arith}
use Rattle.definitions.specs.Bytes.{Bytes, between, found}
use Rattle.definitions.specs.Text.{Inside, wrong, digit_fits, unicode, digit_step, text_step}
use Rattle.laws.specs.Ranges.{lt_or_le, le-leb, gt_leb, leb_le, eqb_eq, eq-eqb}
use Rattle.laws.proofs.StringThrough as through
use Rattle.laws.specs.Bools.{and_left}
use Rattle.text.specs.TextRun.{TextEnd, text_run}
use Rattle.text.specs.TextParts.{hex_value, fits_as, onward, Breaks, DigitsRead}
use Rattle.text.proofs.Tables.{Hex, no_digit, digit, hex_of}
use Rattle.text.proofs.Places.{byte_within, more_at, wrong_at}

-- ---- digit-fits by whether there is a high surrogate

fits_high : (high : Option ℕ) (low : Bool) → found high ≡ low → (n c d : ℕ) → digit_fits high n c d ≡ fits_as low n c d
unfolding found fits_as digit_fits
fits_high none true e n c d = absurd (false≢true e)
fits_high none false e n c d = refl
fits_high (some h) true e n c d = refl
fits_high (some h) false e n c d = absurd (true≢false e)

and_true : (b : Bool) → b ≡ b && true
and_true true = refl
and_true false = refl

-- the answers of `digit_fits`
pub fits_low_first : (c d : ℕ) → eqb d 0xD ≡ fits_as true 0 c d
unfolding fits_as digit_fits
fits_low_first c d = and_true (eqb d 0xD)

pub fits_low_second : (c d : ℕ) → leb 0xC d ≡ fits_as true 1 c d
unfolding fits_as digit_fits
fits_low_second c d = refl

fits_first : (c d : ℕ) → true ≡ fits_as false 0 c d
unfolding fits_as digit_fits
fits_first c d = refl

pub fits_second : (c d : ℕ) → c ≡ 0xD → ltb d 0xC ≡ fits_as false 1 c d
unfolding fits_as digit_fits
fits_second c d e = let f : eqb c 0xD ≡ true = eq-eqb e in rw f (go (lt_or_le d 0xC))
  where
    go : (d < 0xC) ⊎ (0xC ≤ d) → ltb d 0xC ≡ not (leb 0xC d)
    go (inl h) = let p : ltb d 0xC ≡ true = le-leb h in let q : leb 0xC d ≡ false = gt_leb h in rw (p, q)
    go (inr h) =
        let p : ltb d 0xC ≡ false = gt_leb (let z : 0xC < suc d = omega arith in z) in
        let q : leb 0xC d ≡ true = le-leb h in
        rw (p, q)

pub fits_other : (c d : ℕ) → (c ≡ 0xD → ⊥) → true ≡ fits_as false 1 c d
unfolding fits_as
fits_other c d f = sym (through.fits_second c d (λ e _. f e))

pub fits_later : (low : Bool) (n c d : ℕ) → 2 ≤ n → true ≡ fits_as low n c d
unfolding fits_as
fits_later true n c d h = sym (through.fits_later (some 0) n c d h)
fits_later false n c d h = sym (through.fits_later none n c d h)

-- no low surrogate by itself: of its digits only the second is judged
pub fits_alone : (n c d : ℕ) → (n ≡ 1 → ⊥) → true ≡ fits_as false n c d
fits_alone zero c d h = fits_first c d
fits_alone (suc zero) c d h = absurd (h refl)
fits_alone (suc (suc n)) c d h = fits_later false (suc (suc n)) c d (omega arith)

pub fits_at : (low b : Bool) (n k c d : ℕ) {x : Bool} → low ≡ b → n ≡ k → x ≡ fits_as b k c d → x ≡ fits_as low n c d
fits_at low b n k c d e f h = h ∙ ap₂ (λ (t : Bool) (m : ℕ). fits_as t m c d) (sym e) (sym f)

-- ---- a step

step_wrong : (high : Option ℕ) (n c b : ℕ) (acc : Bytes) → hex_value b ≡ None → text_step (Inside.digits high n c) acc b ≡ wrong
unfolding text_step
step_wrong high n c b acc h = go (hex_of b)
  where
    go : Hex b → text_step (Inside.digits high n c) acc b ≡ wrong
    go (no_digit e f) = rw (e, text_step)
    go (digit k e f l m) = absurd (cc)

step_digit
    : (high : Option ℕ) (n c b : ℕ) {d : ℕ} (acc : Bytes) → hex_value b ≡ Some d
    → text_step (Inside.digits high n c) acc b ≡ digit_step high n c d acc
unfolding text_step
step_digit high n c b {d} acc h = go (hex_of b)
  where
    go : Hex b → text_step (Inside.digits high n c) acc b ≡ digit_step high n c d acc
    go (no_digit e f) = absurd (cc)
    go (digit k e f l m) = rw (e, text_step) (ap (λ (x : ℕ). digit_step high n c x acc) (let z : b - k ≡ d = cc in z))

record Digit (b d : ℕ) : Type 0 where
  small : d < 16
  byte : b < 256

digit_of : (b : ℕ) {d : ℕ} → hex_value b ≡ Some d → Digit b d
digit_of b {d} h = go (hex_of b)
  where
    go : Hex b → Digit b d
    go (no_digit e f) = absurd (cc)
    go (digit k e f l m) = let z : b - k ≡ d = cc in record { small = omega arith; byte = m }

pub digit_small : (b : ℕ) {d : ℕ} → hex_value b ≡ Some d → d < 16
digit_small b h = (digit_of b h).small

-- behind the fourth digit a text always goes on
onward_unicode
    : (i : Inside) (high : Option ℕ) (c : ℕ) (acc s : Bytes) (k : ℕ) → k < length s
    → text_step i acc (get_or s k 256) ≡ unicode high c acc
    → text_run i acc (drop k s) ≡ onward (unicode high c acc) (drop (k + 1) s)
unfolding unicode onward
onward_unicode i none c acc s k h e = go (between 0xD800 0xDBFF c) refl
  where
    go
        : (t : Bool) → between 0xD800 0xDBFF c ≡ t
        → text_run i acc (drop k s) ≡ onward (unicode none c acc) (drop (k + 1) s)
    go true f = rw (f, unicode, onward) (more_at i acc s k h (e ∙ rw (f, unicode)))
    go false f = rw (f, unicode, onward) (more_at i acc s k h (e ∙ rw (f, unicode)))
onward_unicode i (some g) c acc s k h e = more_at i acc s k h e

-- ---- n digits of value c

-- how far the digits say where the number lies
abbrev pub SoFar : Bool → ℕ → ℕ → Type 0
SoFar low zero c = c ≡ 0
SoFar low (suc zero) c = (c < 0x10) × (low ≡ true → c ≡ 0xD)
SoFar low (suc (suc zero)) c = (c < 0x100) × (low ≡ true → (0xDC ≤ c) × (c ≤ 0xDF))
SoFar low (suc (suc (suc zero))) c = (c < 0x1000) × (low ≡ true → (0xDC0 ≤ c) × (c ≤ 0xDFF))
SoFar low (suc (suc (suc (suc zero)))) c = (c < 0x10000) × (low ≡ true → (0xDC00 ≤ c) × (c ≤ 0xDFFF))
SoFar low (suc (suc (suc (suc (suc n))))) c = ⊥

pub so_far_small : (low : Bool) (n c : ℕ) → SoFar low n c → c < 0x10000
so_far_small low zero c h = omega arith
so_far_small low (suc zero) c h = omega arith
so_far_small low (suc (suc zero)) c h = omega arith
so_far_small low (suc (suc (suc zero))) c h = omega arith
so_far_small low (suc (suc (suc (suc zero)))) c h = h.0
so_far_small low (suc (suc (suc (suc (suc n))))) c h = absurd h

low_first : (low : Bool) (c d : ℕ) → low ≡ true → fits_as low 0 c d ≡ true → d ≡ 0xD
unfolding fits_as digit_fits
low_first true c d e f = eqb_eq (and_left (eqb d 0xD) true f)
low_first false c d e f = absurd (false≢true e)

low_second : (low : Bool) (c d : ℕ) → low ≡ true → fits_as low 1 c d ≡ true → 0xC ≤ d
unfolding fits_as digit_fits
low_second true c d e f = leb_le f
low_second false c d e f = absurd (false≢true e)

so_far_next
    : (low : Bool) (n c d : ℕ) → SoFar low n c → n < 4 → d < 16 → fits_as low n c d ≡ true → SoFar low (suc n) (c * 16 + d)
so_far_next low zero c d h l m f = (omega arith, λ e. let k : d ≡ 0xD = low_first low c d e f in omega arith)
so_far_next low (suc zero) c d h l m f =
    (omega arith, λ e. let k : 0xC ≤ d = low_second low c d e f in let j : c ≡ 0xD = h.1 e in omega arith)
so_far_next low (suc (suc zero)) c d h l m f = (omega arith, λ e. let k = h.1 e in omega arith)
so_far_next low (suc (suc (suc zero))) c d h l m f = (omega arith, λ e. let k = h.1 e in omega arith)
so_far_next low (suc (suc (suc (suc n)))) c d h l m f = absurd (let z : ⊥ = omega arith in z)

-- reading behind n digits of value c: the next digit, or behind the fourth
pub digits_run : Option ℕ → (n c : ℕ) → Bytes → Bytes → TextEnd
digits_run high n c acc s =
    elim (ltb n 4) [ true ↦ text_run (Inside.digits high n c) acc s | false ↦ onward (unicode high c acc) s ]

run_inside : (high : Option ℕ) (n c : ℕ) (acc s : Bytes) → n < 4 → digits_run high n c acc s ≡ text_run (Inside.digits high n c) acc s
unfolding digits_run
run_inside high n c acc s h = let e : ltb n 4 ≡ true = le-leb h in rw (e, digits_run)

run_behind : (high : Option ℕ) (n c : ℕ) (acc s : Bytes) → 4 ≤ n → digits_run high n c acc s ≡ onward (unicode high c acc) s
unfolding digits_run
run_behind high n c acc s h = let e : ltb n 4 ≡ false = gt_leb (let k : 4 < suc n = omega arith in k) in rw (e, digits_run)

run_next
    : (high : Option ℕ) (n c : ℕ) (acc s : Bytes) (k : ℕ) {d : ℕ} → n < 4
    → hex_value (get_or s k 256) ≡ Some d
    → digit_fits high n c d ≡ true
    → digits_run high n c acc (drop k s) ≡ digits_run high (suc n) (c * 16 + d) acc (drop (k + 1) s)
unfolding digit_step
run_next high n c acc s k {d} h l f = run_inside high n c acc (drop k s) h ∙ go (lt_or_le n 3)
  where
    within : k < length s
    within = byte_within s k (digit_of (get_or s k 256) l).byte

    step : text_step (Inside.digits high n c) acc (get_or s k 256) ≡ digit_step high n c d acc
    step = step_digit high n c (get_or s k 256) acc l

    go : (n < 3) ⊎ (3 ≤ n) → text_run (Inside.digits high n c) acc (drop k s) ≡ digits_run high (suc n) (c * 16 + d) acc (drop (k + 1) s)
    go (inl m) =
        let e : ltb n 3 ≡ true = le-leb m in
        more_at (Inside.digits high n c) acc s k within (step ∙ rw (f, e, digit_step))
        ∙ sym (run_inside high (suc n) (c * 16 + d) acc (drop (k + 1) s) (omega arith))
    go (inr m) =
        let e : ltb n 3 ≡ false = gt_leb (let z : 3 < suc n = omega arith in z) in
        onward_unicode (Inside.digits high n c) high (c * 16 + d) acc s k within (step ∙ rw (f, e, digit_step))
        ∙ sym (run_behind high (suc n) (c * 16 + d) acc (drop (k + 1) s) (omega arith))

-- ---- the loop

-- n digits of value c from place at on are read
pub record DigitsSoFar (doc : Bytes) (at : ℕ) (low : Bool) (n c : ℕ) : Type 0 where
  pub run
      : (high : Option ℕ) → found high ≡ low → (acc : Bytes)
      → text_run (Inside.digits high 0 0) acc (drop at doc) ≡ digits_run high n c acc (drop (at + n) doc)
  pub few : n ≤ 4
  pub within : at + n ≤ length doc
  pub range : SoFar low n c

pub digits_start : (doc : Bytes) (at : ℕ) (low : Bool) → at ≤ length doc → DigitsSoFar doc at low 0 0
digits_start doc at low h =
    record {
      run = λ high e acc. ap (λ (k : ℕ). text_run (Inside.digits high 0 0) acc (drop k doc)) (let z : at ≡ at + 0 = omega arith in z)
          ∙ sym (run_inside high 0 0 acc (drop (at + 0) doc) (omega arith));
      few = omega arith;
      within = omega arith;
      range = refl;
    }

module _ (doc : Bytes) (at : ℕ) (low : Bool) (n c : ℕ) (h : DigitsSoFar doc at low n c) (l : n < 4) where
  pub digits_next
      : {d : ℕ} → hex_value (get_or doc (at + n) 256) ≡ Some d → fits_as low n c d ≡ true → DigitsSoFar doc at low (n + 1) (c * 16 + d)
  digits_next {d} e f =
      record {
        run = λ high g acc.
            h.run high g acc
            ∙ run_next high n c acc doc (at + n) l e (fits_high high low g n c d ∙ f)
            ∙ ap (λ (k : ℕ). digits_run high (suc n) (c * 16 + d) acc (drop k doc)) (add_assoc at n 1)
            ∙ ap (λ (k : ℕ). digits_run high k (c * 16 + d) acc (drop (at + (n + 1)) doc)) (sym (add-one n));
        few = omega arith;
        within = let k = byte_within doc (at + n) (digit_of (get_or doc (at + n) 256) e).byte in omega arith;
        range = subst (λ (k : ℕ). SoFar low k (c * 16 + d)) (sym (add-one n))
            (so_far_next low n c d h.range l (digit_of (get_or doc (at + n) 256) e).small f);
      }

  breaks
      : ((high : Option ℕ) → found high ≡ low → (acc : Bytes) → text_step (Inside.digits high n c) acc (get_or doc (at + n) 256) ≡ wrong)
      → (high : Option ℕ) → found high ≡ low → Breaks doc (Inside.digits high 0 0) at (at + n)
  breaks f high g =
      record {
        run = λ acc.
            h.run high g acc
            ∙ run_inside high n c acc (drop (at + n) doc) l
            ∙ wrong_at (Inside.digits high n c) acc doc (at + n) (f high g acc);
        from = omega arith;
        within = h.within;
      }

  -- no digit
  pub digits_wrong
      : hex_value (get_or doc (at + n) 256) ≡ None → (high : Option ℕ) → found high ≡ low → Breaks doc (Inside.digits high 0 0) at (at + n)
  digits_wrong e = breaks (λ high g acc. step_wrong high n c (get_or doc (at + n) 256) acc e)

  -- a digit that does not fit
  pub digits_unfit
      : {d : ℕ} → hex_value (get_or doc (at + n) 256) ≡ Some d → fits_as low n c d ≡ false
      → (high : Option ℕ) → found high ≡ low → Breaks doc (Inside.digits high 0 0) at (at + n)
  unfolding digit_step
  digits_unfit {d} e f = breaks go
    where
      go : (high : Option ℕ) → found high ≡ low → (acc : Bytes) → text_step (Inside.digits high n c) acc (get_or doc (at + n) 256) ≡ wrong
      go high g acc =
          let k : digit_fits high n c d ≡ false = fits_high high low g n c d ∙ f in
          step_digit high n c (get_or doc (at + n) 256) acc e ∙ rw (k, digit_step)

-- all four
pub digits_done
    : (doc : Bytes) (at : ℕ) (low : Bool) (n c : ℕ) → DigitsSoFar doc at low n c → 4 ≤ n → DigitsRead doc at low c (at + 4)
digits_done doc at low n c h l =
    record {
      run = λ high g acc.
          h.run high g acc
          ∙ run_behind high n c acc (drop (at + n) doc) l
          ∙ ap (λ (k : ℕ). onward (unicode high c acc) (drop (at + k) doc)) e;
      behind = refl;
      within = let k = h.within in omega arith;
      small = range.0;
      paired = range.1;
    }
  where
    e : n ≡ 4
    e = omega (arith, h.few)

    range : SoFar low 4 c
    range = subst (λ (k : ℕ). SoFar low k c) e h.range
