-- Laws of the run that begins a number: reading a document goes along it, it says what a word spells, and what
-- `read_number` answers says whether a number begins and whether it can be written. Assumes nothing.
use Rattle.std.specs.Prelude.{ℕ, suc, ◌-◌, ◌≤◌, ◌<◌, ◌≡◌, Bool, true, false, ◌||◌, ltb, length, get_or, drop}
use Rattle.std.proofs.Common.{le_refl, arith, sym, ◌∙◌, true≢false, ltb-false, length-drop, drop-cons}
use Rattle.std.proofs.Math.Path.{refl, ap}
use mathlib.Core.List.{[], ◌∷◌}
use Rattle.std.proofs.Math.Option.{Option, none, some}
use Rattle.definitions.specs.declared.Limits.{Limits}
use Rattle.definitions.specs.Bytes.{Bytes, look}
use Rattle.definitions.specs.Outcome.{Outcome, refused}
use Rattle.definitions.specs.Number.{Numeral, most_coefficient, most_scale, beyond, number_of, no_digits, Phase, begin, next, complete, extend, spelled}
use Rattle.definitions.specs.Value.{Value}
use Rattle.definitions.specs.Json.{Open, gap, in_number, put, number_end, move, end_move, full, judge, scan}
use Rattle.number.specs.NumberRun.{Run, longest}
use Rattle.number.specs.NumberRead.{ReadsNumber, run_at, number_in}
use Rattle.number.specs.NumberWrite.{Bounded}
use Rattle.number.specs.declared.NumberRead.{NumberRead}

-- ---- the run, a byte at a time

-- a byte that goes on
pub longest_on
    : (p : Phase) (d : Numeral) (b : ℕ) (r : Bytes) {q : Phase} → look (next p) b ≡ some q
    → longest p d (b ∷ r) ≡ longest q (extend q d b) r
unfolding longest
longest_on p d b r e = rw (e, longest)

-- a byte that does not
pub longest_off
    : (p : Phase) (d : Numeral) (b : ℕ) (r : Bytes) → look (next p) b ≡ none
    → longest p d (b ∷ r) ≡ record { phase = p; digits = d; rest = b ∷ r }
unfolding longest
longest_off p d b r e = rw (e, longest)

-- no byte goes on at the start of s
pub data Stops (p : Phase) : Bytes → Type 0 where
  at_end : Stops p []
  at_byte : {b : ℕ} {r : Bytes} → look (next p) b ≡ none → Stops p (b ∷ r)

-- a run goes as far as bytes go on
pub longest_stops : (p : Phase) (d : Numeral) (s : Bytes) → Stops (longest p d s).phase (longest p d s).rest
unfolding longest
longest_stops p d [] = at_end
longest_stops p d (b ∷ r) = go (look (next p) b) refl (λ q. longest_stops q (extend q d b) r)
  where
    go
        : (m : Option Phase) → look (next p) b ≡ m
        → ((q : Phase) → Stops (longest q (extend q d b) r).phase (longest q (extend q d b) r).rest)
        → Stops (longest p d (b ∷ r)).phase (longest p d (b ∷ r)).rest
    go none e more = rw (longest_off p d b r e) (at_byte e)
    go (some q) e more = rw (longest_on p d b r e) (more q)

-- and what is left is no longer than what was there
pub longest_shorter : (p : Phase) (d : Numeral) (s : Bytes) → length (longest p d s).rest ≤ length s
unfolding longest
longest_shorter p d [] = le_refl 0
longest_shorter p d (b ∷ r) = go (look (next p) b) refl (λ q. longest_shorter q (extend q d b) r)
  where
    go
        : (m : Option Phase) → look (next p) b ≡ m → ((q : Phase) → length (longest q (extend q d b) r).rest ≤ length r)
        → length (longest p d (b ∷ r)).rest ≤ suc (length r)
    go none e more = rw (longest_off p d b r e) (le_refl (suc (length r)))
    go (some q) e more = rw (longest_on p d b r e) (omega (arith, more q))

-- ---- reading a document along a run

module _ (l : Limits) (n : ℕ) (kept : Bytes) (o : Open) where
  -- reading goes on where a run has come to
  abbrev scan_at : Run → Outcome Bytes Value
  scan_at run = scan l n kept (in_number run.phase run.digits o) run.rest

  scan_on
      : (p : Phase) (d : Numeral) (b : ℕ) (r : Bytes) {q : Phase} → look (next p) b ≡ some q
      → scan l n kept (in_number p d o) (b ∷ r) ≡ scan l n kept (in_number q (extend q d b) o) r
  unfolding scan judge move
  scan_on p d b r e = rw (e, scan, move)

  -- a document is read from a number's first byte as from the end of its run
  pub scan_longest
      : (p : Phase) (d : Numeral) (s : Bytes)
      → scan l n kept (in_number p d o) s
      ≡ scan l n kept (in_number (longest p d s).phase (longest p d s).digits o) (longest p d s).rest
  unfolding longest
  scan_longest p d [] = refl
  scan_longest p d (b ∷ r) = go (look (next p) b) refl (λ q. scan_longest q (extend q d b) r)
    where
      go
          : (m : Option Phase) → look (next p) b ≡ m
          → ((q : Phase) → scan l n kept (in_number q (extend q d b) o) r ≡ scan_at (longest q (extend q d b) r))
          → scan l n kept (in_number p d o) (b ∷ r) ≡ scan_at (longest p d (b ∷ r))
      go none e more = ap scan_at (sym (longest_off p d b r e))
      go (some q) e more = scan_on p d b r e ∙ more q ∙ ap scan_at (sym (longest_on p d b r e))

  -- the same from behind that byte
  pub scan_begun
      : (p : Phase) (d : Numeral) (b : ℕ) (r : Bytes) {q : Phase} → look (next p) b ≡ some q
      → scan l n kept (in_number q (extend q d b) o) r
      ≡ scan l n kept (in_number (longest p d (b ∷ r)).phase (longest p d (b ∷ r)).digits o) (longest p d (b ∷ r)).rest
  scan_begun p d b r e = sym (scan_on p d b r e) ∙ scan_longest p d (b ∷ r)

  -- ---- and behind it

  -- where it is no number: refusal 6 at its first byte, or 3 behind it
  pub scan_broken
      : (p : Phase) (d : Numeral) {s : Bytes} → Stops p s → complete p ≡ false
      → scan l n kept (in_number p d o) s ≡ elim (full l n o) [ true ↦ refused 6 kept | false ↦ refused 3 s ]
  unfolding scan judge move end_move number_end
  scan_broken p d at_end c = rw (c, scan, number_end)
  scan_broken p d (at_byte e) c = rw (e, scan, move) (rw (c, number_end))

  -- where it is: refusals 4 and 6 at its first byte, or the number is read
  pub scan_whole
      : (p : Phase) (d : Numeral) {s : Bytes} → Stops p s → complete p ≡ true
      → scan l n kept (in_number p d o) s
      ≡ elim (beyond d) [
        | true ↦ refused 4 kept
        | false ↦ elim (full l n o) [ true ↦ refused 6 kept | false ↦ scan l n kept (gap (put (Value.number (number_of d)) o)) s ]
      ]
  unfolding scan judge move end_move number_end
  scan_whole p d at_end c = rw (c, scan, number_end)
  scan_whole p d (at_byte e) c = rw (e, scan, move) (rw (c, number_end))

-- ---- a word

-- what a run that is to be a whole word spells
abbrev pub to_the_end : Run → Option Numeral
to_the_end run =
    elim run.rest [ [] ↦ elim (complete run.phase) [ true ↦ some run.digits | false ↦ none ] | b ∷ r ↦ none ]

pub spelled_longest : (p : Phase) (d : Numeral) (s : Bytes) → spelled p d s ≡ to_the_end (longest p d s)
unfolding spelled longest
spelled_longest p d [] = refl
spelled_longest p d (b ∷ r) = go (look (next p) b) refl (λ q. spelled_longest q (extend q d b) r)
  where
    go
        : (m : Option Phase) → look (next p) b ≡ m
        → ((q : Phase) → spelled q (extend q d b) r ≡ to_the_end (longest q (extend q d b) r))
        → spelled p d (b ∷ r) ≡ to_the_end (longest p d (b ∷ r))
    go none e more = rw (e, spelled, longest)
    go (some q) e more = rw (e, spelled, longest) (more q)

-- ---- what a number holds

-- a numeral that refusal 4 is not for means a number that can be written
pub not_beyond : (d : Numeral) → beyond d ≡ false → Bounded (number_of d)
unfolding beyond number_of
not_beyond d e = go (ltb most_coefficient d.coefficient) (ltb most_scale d.scale) refl refl e
  where
    go
        : (x y : Bool) → ltb most_coefficient d.coefficient ≡ x → ltb most_scale d.scale ≡ y → x || y || d.exponent ≡ false
        → Bounded (number_of d)
    go false false p q f = record { coefficient = ltb-false _ _ p; scale = ltb-false _ _ q }
    go false true p q f = absurd (true≢false f)
    go true y p q f = absurd (true≢false f)

-- ---- what is read

pub read_bounded : {doc : Bytes} {at : ℕ} {r : NumberRead} → ReadsNumber doc at r → r.beyond ≡ false → Bounded (number_in r)
read_bounded {doc} {at} read e = rw (read.meaning e) (not_beyond (run_at doc at).digits (sym read.over ∙ e))

module _ {doc : Bytes} {at : ℕ} {r : NumberRead} (read : ReadsNumber doc at r) (more : at < length doc) where
  run_here : run_at doc at ≡ longest begin no_digits (get_or doc at 0 ∷ drop (suc at) doc)
  run_here = ap (longest begin no_digits) (drop-cons doc at 0 more)

  left : length (run_at doc at).rest ≡ length doc - r.end
  left = ap length (sym read.rest) ∙ length-drop r.end doc

  -- an answer that ends where it began: no number begins there
  pub not_begun : r.end ≡ at → look (next begin) (get_or doc at 0) ≡ none
  not_begun e = go (look (next begin) (get_or doc at 0)) refl
    where
      go : (m : Option Phase) → look (next begin) (get_or doc at 0) ≡ m → look (next begin) (get_or doc at 0) ≡ none
      go none f = f
      go (some q) f =
          let on = longest_on begin no_digits (get_or doc at 0) (drop (suc at) doc) f in
          let same : length (run_at doc at).rest ≡ length (longest q (extend q no_digits (get_or doc at 0)) (drop (suc at) doc)).rest =
          ap (λ (run : Run). length run.rest) (run_here ∙ on)
          in
          absurd
          (omega (
            arith,
            left,
            same,
            longest_shorter q (extend q no_digits (get_or doc at 0)) (drop (suc at) doc),
            length-drop (suc at) doc,
          ))

  -- and any other: one does
  pub begun : at < r.end → (q : Phase) × (look (next begin) (get_or doc at 0) ≡ some q)
  begun h = go (look (next begin) (get_or doc at 0)) refl
    where
      go
          : (m : Option Phase) → look (next begin) (get_or doc at 0) ≡ m
          → (q : Phase) × (look (next begin) (get_or doc at 0) ≡ some q)
      go none f =
          let off = longest_off begin no_digits (get_or doc at 0) (drop (suc at) doc) f in
          let same : length (run_at doc at).rest ≡ suc (length (drop (suc at) doc)) =
          ap (λ (run : Run). length run.rest) (run_here ∙ off)
          in
          absurd (omega (arith, left, same, length-drop (suc at) doc, read.within))
      go (some q) f = (q, f)
