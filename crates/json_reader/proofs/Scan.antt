-- How reading goes between tokens and where a value begins, a byte at a time. Assumes nothing.
use Prim.Native.Nat.{ℕ, suc, ◌+◌, ◌≤◌, ◌<◌}
use mathlib.Core.Path.{◌≡◌, refl, sym, ap, ◌∙◌}
use mathlib.Core.Bool.{Bool, true, false, ◌||◌}
use mathlib.Core.List.{[], ◌∷◌}
use mathlib.Core.Option.{none, some}
use native.Mathlib.Numerals.{add-one}
use native.Mathlib.Decide.{dec_lt}
use native.Mathlib.Omega.{arith}
use borrow.Author.Tests.{lt-ltb, le-ltb, eq-eqb, ne_eqb, eqb-true, eqb-false}
use lib.Dec.{ltb, eqb}
use lib.ListN.{length, drop, get_or, drop_of_length-le, get_or-eq_default}
use lib.Seq.{drop-cons}
use Rattle.definitions.specs.declared.Limits.{Limits}
use Rattle.definitions.specs.Bytes.{Bytes, look, is, white}
use Rattle.definitions.specs.Outcome.{refused}
use Rattle.definitions.specs.Number.{Phase, begin, next, no_digits, extend}
use Rattle.definitions.specs.Value.{Value, no_items}
use Rattle.definitions.specs.Json.{Open, in_list, Gap, State, gap, in_number, spell, put, broken, value_rows}
use Rattle.definitions.specs.Json.{value_move, token_move, gap_move, gap_end, move, end_move, depth, full, judge, scan}
use Rattle.json_reader.specs.JsonParts.{OpenLimited}

-- ---- the byte at a place

module _ (doc : Bytes) (at : ℕ) where
  -- a byte stands there
  pub byte_inside : {b : ℕ} → get_or doc at 256 ≡ b → b < 256 → at < length doc
  byte_inside {b} e h = go (dec_lt at (length doc))
    where
      go : Dec (at < length doc) → at < length doc
      go (yes l) = l
      go (no l) = absurd (let z : ⊥ = omega (arith, e, get_or-eq_default doc 256 {n = at} (omega arith)) in z)

  pub byte_here : {b : ℕ} → get_or doc at 256 ≡ b → b < 256 → drop at doc ≡ b ∷ drop (at + 1) doc
  byte_here {b} e h =
      drop-cons doc at 256 (byte_inside e h)
      ∙ ap (λ (x : ℕ). x ∷ drop (suc at) doc) e
      ∙ ap (λ (k : ℕ). b ∷ drop k doc) (sym (add-one at))

  -- the end, or a byte
  pub data Here : Type 0 where
    at_end : drop at doc ≡ [] → Here
    at_byte : drop at doc ≡ get_or doc at 256 ∷ drop (at + 1) doc → Here

  pub here : Here
  here = go (dec_lt at (length doc))
    where
      go : Dec (at < length doc) → Here
      go (yes l) =
          at_byte (drop-cons doc at 256 l ∙ ap (λ (k : ℕ). get_or doc at 256 ∷ drop k doc) (sym (add-one at)))
      go (no l) = at_end (drop_of_length-le doc {i = at} (omega arith))

-- ---- between tokens

module _ (l : Limits) (n : ℕ) (kept : Bytes) where
  -- white space
  pub scan_white
      : (g : Gap) (b : ℕ) (r : Bytes) → white b ≡ true → scan l n kept (gap g) (b ∷ r) ≡ scan l n kept (gap g) r
  unfolding scan judge move gap_move
  scan_white g b r w = rw (w, gap_move)

  -- a byte that is none
  pub scan_token
      : (g : Gap) (b : ℕ) (r : Bytes) → white b ≡ false
      → scan l n kept (gap g) (b ∷ r) ≡ judge l n kept (b ∷ r) (token_move g b) (λ n' kept' q'. scan l n' kept' q' r)
  unfolding scan move gap_move
  scan_token g b r w = rw (w, gap_move)

  -- where nothing may stand that stands there
  pub scan_broken
      : (doc : Bytes) (at : ℕ) (g : Gap) → gap_end g ≡ broken → white (get_or doc at 256) ≡ false
      → token_move g (get_or doc at 256) ≡ broken
      → scan l n kept (gap g) (drop at doc) ≡ refused 3 (drop at doc)
  unfolding scan judge end_move
  scan_broken doc at g e w m = pick (here doc at)
    where
      pick : Here doc at → scan l n kept (gap g) (drop at doc) ≡ refused 3 (drop at doc)
      pick (at_end f) = rw f (rw e)
      pick (at_byte f) = rw f (scan_token g (get_or doc at 256) (drop (at + 1) doc) w ∙ rw m)

-- ---- where a value begins

module _ (l : Limits) (n : ℕ) (kept : Bytes) (o : Open) where
  -- a value that is no number begins, or is one too many or too deep
  pub value_begins
      : (b : ℕ) (r : Bytes) {q : State} → white b ≡ false → look (value_rows o) b ≡ some q → full l (suc n) o ≡ false
      → scan l n kept (gap (Gap.value o)) (b ∷ r) ≡ scan l (suc n) kept q r
  unfolding token_move value_move judge
  value_begins b r w e f = scan_token l n kept (Gap.value o) b r w ∙ rw (e, value_move) (rw (f, judge))

  pub value_full
      : (b : ℕ) (r : Bytes) {q : State} → white b ≡ false → look (value_rows o) b ≡ some q → full l (suc n) o ≡ true
      → scan l n kept (gap (Gap.value o)) (b ∷ r) ≡ refused 6 (b ∷ r)
  unfolding token_move value_move judge
  value_full b r w e f = scan_token l n kept (Gap.value o) b r w ∙ rw (e, value_move) (rw (f, judge))

  -- a number begins
  pub number_begins
      : (b : ℕ) (r : Bytes) {p : Phase} → white b ≡ false → look (value_rows o) b ≡ none → look (next begin) b ≡ some p
      → scan l n kept (gap (Gap.value o)) (b ∷ r) ≡ scan l (suc n) (b ∷ r) (in_number p (extend p no_digits b) o) r
  unfolding token_move value_move judge
  number_begins b r w e f = scan_token l n kept (Gap.value o) b r w ∙ rw (e, value_move) (rw f)

-- no value begins
pub no_value
    : (b : ℕ) (o : Open) → look (value_rows o) b ≡ none → look (next begin) b ≡ none → token_move (Gap.value o) b ≡ broken
unfolding token_move value_move
no_value b o e f = rw (e, value_move) (rw f)

-- behind the opening bracket of a list that has an element
pub first_value
    : (l : Limits) (n : ℕ) (kept doc : Bytes) (at : ℕ) (o : Open) → white (get_or doc at 256) ≡ false → (get_or doc at 256 ≡ 0x5D → ⊥)
    → scan l n kept (gap (Gap.first_item o)) (drop at doc) ≡ scan l n kept (gap (Gap.value (in_list no_items o))) (drop at doc)
unfolding scan judge end_move gap_end token_move is
first_value l n kept doc at o w h = pick (here doc at)
  where
    pick
        : Here doc at
        → scan l n kept (gap (Gap.first_item o)) (drop at doc) ≡ scan l n kept (gap (Gap.value (in_list no_items o))) (drop at doc)
    pick (at_end f) = rw f
    pick (at_byte f) =
        rw f
        (scan_token l n kept (Gap.first_item o) (get_or doc at 256) (drop (at + 1) doc) w
        ∙ rw (ne_eqb (get_or doc at 256) 0x5D h, token_move)
        (sym (scan_token l n kept (Gap.value (in_list no_items o)) (get_or doc at 256) (drop (at + 1) doc) w)))

-- ---- the limits

module _ {l : Limits} {o : Open} {values left : ℕ} (a : OpenLimited l o values left) (n : ℕ) where
  pub not_full : n < values → 0 < left → full l (suc n) o ≡ false
  unfolding full
  not_full h k =
      rw (le-ltb l.values (suc n) (omega (arith, a.most)), le-ltb l.nesting (suc (depth o)) (omega (arith, a.nests)))

  pub full_values : values ≤ n → full l (suc n) o ≡ true
  unfolding full
  full_values h = rw (lt-ltb l.values (suc n) (omega (arith, a.most)))

  full_nesting : left ≡ 0 → full l (suc n) o ≡ true
  unfolding full
  full_nesting h = pick (ltb l.values (suc n))
    where
      pick : (t : Bool) → t || ltb l.nesting (suc (depth o)) ≡ true
      pick true = refl
      pick false = lt-ltb l.nesting (suc (depth o)) (omega (arith, a.nests))

  -- below the limit of values the nesting decides
  pub full_left : n < values → eqb left 0 ≡ full l (suc n) o
  full_left h = pick (eqb left 0) refl
    where
      pick : (t : Bool) → eqb left 0 ≡ t → t ≡ full l (suc n) o
      pick true e = sym (full_nesting (eqb-true left 0 e))
      pick false e = sym (not_full h (let k : left ≡ 0 → ⊥ = eqb-false left 0 e in omega arith))

-- ---- literal names

module _ (l : Limits) (n : ℕ) (kept : Bytes) (v : Value) (o : Open) where
  -- a byte of the name
  pub spell_on
      : (c : ℕ) (cs r : Bytes) → scan l n kept (spell (c ∷ cs) v o) (c ∷ r) ≡ scan l n kept (spell cs v o) r
  unfolding scan judge move spell
  spell_on c cs r = rw (eq-eqb c c refl, move)

  -- another, or the end
  pub spell_off
      : (c : ℕ) (cs doc : Bytes) (at : ℕ) → (get_or doc at 256 ≡ c → ⊥)
      → scan l n kept (spell (c ∷ cs) v o) (drop at doc) ≡ refused 3 (drop at doc)
  unfolding scan judge move end_move spell
  spell_off c cs doc at h = pick (here doc at)
    where
      pick : Here doc at → scan l n kept (spell (c ∷ cs) v o) (drop at doc) ≡ refused 3 (drop at doc)
      pick (at_end f) = rw f
      pick (at_byte f) = rw f (rw (ne_eqb (get_or doc at 256) c h, move))

  -- the whole name
  pub spell_end : (r : Bytes) → scan l n kept (spell [] v o) r ≡ scan l n kept (gap (put v o)) r
  unfolding spell
  spell_end r = refl
