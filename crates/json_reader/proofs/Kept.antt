-- Between tokens nothing waits for its end, so reading from there on does not depend on where the last number or name began.
-- Assumes nothing.
use Prim.Native.Nat.{ℕ, suc}
use mathlib.Core.Path.{◌≡◌, refl, ap}
use mathlib.Core.Bool.{Bool, true, false}
use mathlib.Core.List.{List, [], ◌∷◌}
use mathlib.Core.Option.{Option, none, some}
use lib.Dec.{eqb}
use Rattle.definitions.specs.declared.Limits.{Limits}
use Rattle.definitions.specs.Bytes.{Bytes, Row, row, between, look, is, white}
use Rattle.definitions.specs.Outcome.{Outcome, refused}
use Rattle.definitions.specs.Text.{Inside, TextMove, wrong, more, closed, text_step}
use Rattle.definitions.specs.Number.{Phase, begin, next, no_digits, extend}
use Rattle.definitions.specs.Value.{Value, no_items}
use Rattle.definitions.specs.Json.{Open, in_list, Gap, as_value, State, gap, in_text, in_number, in_literal, spell, put, Move}
use Rattle.definitions.specs.Json.{broken, go, begin_value, begin_number, begin_name, end_text, value_rows, value_move, name_move}
use Rattle.definitions.specs.Json.{token_move, gap_move, close_move, text_move, move, gap_end, end_move, full, judge, scan}

-- no number and no name is being read
data Free : State → Type 0 where
  free_gap : (g : Gap) → Free (gap g)
  free_text : (o : Open) (i : Inside) (acc : Bytes) → Free (in_text (as_value o) i acc)
  free_literal : (c : ℕ) (cs : Bytes) (v : Value) (o : Open) → Free (in_literal c cs v o)

-- none is, or one begins here
data FreeMove : Move → Type 0 where
  free_broken : FreeMove broken
  free_go : {q : State} → Free q → FreeMove (go q)
  free_value : (o : Open) {q : State} → Free q → FreeMove (begin_value o q)
  free_number : (q : State) → FreeMove (begin_number q)
  free_name : (q : State) → FreeMove (begin_name q)
  free_end : (v : Value) → FreeMove (end_text v)

-- ---- moves

either : {m k : Move} (t : Bool) → FreeMove m → FreeMove k → FreeMove (elim t [ true ↦ m | false ↦ k ])
either true f g = f
either false f g = g

free_spell : (cs : Bytes) (v : Value) (o : Open) → Free (spell cs v o)
unfolding spell
free_spell [] v o = free_gap (put v o)
free_spell (c ∷ cs) v o = free_literal c cs v o

-- the states of a table's rows
data FreeRows : List (Row State) → Type 0 where
  no_rows : FreeRows []
  more_rows : (lo hi : ℕ) {q : State} {rows : List (Row State)} → Free q → FreeRows rows → FreeRows (row lo hi q ∷ rows)

abbrev FreeFound : Option State → Type 0
FreeFound none = Unit {0}
FreeFound (some q) = Free q

free_look : {rows : List (Row State)} (b : ℕ) → FreeRows rows → FreeFound (look rows b)
unfolding look
free_look b no_rows = tt
free_look b (more_rows lo hi {q} {rows} f fs) = pick (between lo hi b) (free_look b fs)
  where
    pick : (t : Bool) → FreeFound (look rows b) → FreeFound (elim t [ true ↦ some q | false ↦ look rows b ])
    pick true h = f
    pick false h = h

free_value_rows : (o : Open) → FreeRows (value_rows o)
unfolding value_rows
free_value_rows o =
    more_rows _ _ (free_text o Inside.chars [])
    (more_rows _ _ (free_gap (Gap.first_item o))
    (more_rows _ _ (free_gap (Gap.first_name o))
    (more_rows _ _ (free_spell _ _ o) (more_rows _ _ (free_spell _ _ o) (more_rows _ _ (free_spell _ _ o) no_rows)))))

free_value_move : (o : Open) (b : ℕ) → FreeMove (value_move o b)
unfolding value_move
free_value_move o b = pick (look (value_rows o) b) (look (next begin) b) (free_look b (free_value_rows o))
  where
    pick
        : (m : Option State) (k : Option Phase) → FreeFound m
        → FreeMove (elim m [
          | some q ↦ begin_value o q
          | none ↦ elim k [ some p ↦ begin_number (in_number p (extend p no_digits b) o) | none ↦ broken ]
        ])
    pick (some q) k f = free_value o f
    pick none (some p) f = free_number _
    pick none none f = free_broken

free_token : (g : Gap) (b : ℕ) → FreeMove (token_move g b)
unfolding token_move name_move
free_token (Gap.value o) b = free_value_move o b
free_token (Gap.first_item o) b = either (is "]" b) (free_go (free_gap _)) (free_value_move (in_list no_items o) b)
free_token (Gap.after_item vs o) b =
    either (is "," b) (free_go (free_gap _)) (either (is "]" b) (free_go (free_gap _)) free_broken)
free_token (Gap.first_name o) b =
    either (is "}" b) (free_go (free_gap _)) (either (is "\"" b) (free_name _) free_broken)
free_token (Gap.next_name ms o) b = either (is "\"" b) (free_name _) free_broken
free_token (Gap.colon ms n o) b = either (is ":" b) (free_go (free_gap _)) free_broken
free_token (Gap.after_member ms o) b =
    either (is "," b) (free_go (free_gap _)) (either (is "}" b) (free_go (free_gap _)) free_broken)
free_token (Gap.whole v) b = free_broken

free_move : {q : State} (b : ℕ) → Free q → FreeMove (move q b)
unfolding move gap_move text_move close_move
free_move b (free_gap g) = either (white b) (free_go (free_gap g)) (free_token g b)
free_move b (free_text o i acc) = pick (text_step i acc b)
  where
    pick : (m : TextMove) → FreeMove (text_move (as_value o) acc m)
    pick wrong = free_broken
    pick (more j a) = free_go (free_text o j a)
    pick closed = free_go (free_gap _)
free_move b (free_literal c cs v o) = either (eqb b c) (free_go (free_spell cs v o)) free_broken

free_end_move : {q : State} → Free q → FreeMove (end_move q)
unfolding end_move gap_end
free_end_move (free_gap (Gap.value o)) = free_broken
free_end_move (free_gap (Gap.first_item o)) = free_broken
free_end_move (free_gap (Gap.after_item vs o)) = free_broken
free_end_move (free_gap (Gap.first_name o)) = free_broken
free_end_move (free_gap (Gap.next_name ms o)) = free_broken
free_end_move (free_gap (Gap.colon ms n o)) = free_broken
free_end_move (free_gap (Gap.after_member ms o)) = free_broken
free_end_move (free_gap (Gap.whole v)) = free_end v
free_end_move (free_text o i acc) = free_broken
free_end_move (free_literal c cs v o) = free_broken

-- ---- reading

module _ (l : Limits) (kept kept' : Bytes) where
  judge_free
      : {m : Move} (n : ℕ) (s : Bytes) (on : ℕ → Bytes → State → Outcome Bytes Value) → FreeMove m
      → ((k : ℕ) (q : State) → Free q → on k kept q ≡ on k kept' q)
      → judge l n kept s m on ≡ judge l n kept' s m on
  unfolding judge
  judge_free n s on free_broken h = refl
  judge_free n s on (free_go {q} f) h = h n q f
  judge_free n s on (free_value o {q} f) h =
      ap (λ (x : Outcome Bytes Value). elim (full l (suc n) o) [ true ↦ refused 6 s | false ↦ x ]) (h (suc n) q f)
  judge_free n s on (free_number q) h = refl
  judge_free n s on (free_name q) h = refl
  judge_free n s on (free_end v) h = refl

  scan_free : (s : Bytes) (n : ℕ) {q : State} → Free q → scan l n kept q s ≡ scan l n kept' q s
  unfolding scan
  scan_free [] n f = judge_free n [] _ (free_end_move f) (λ k q g. refl)
  scan_free (b ∷ r) n f = judge_free n (b ∷ r) _ (free_move b f) (λ k q g. scan_free r k g)

  pub scan_kept : (n : ℕ) (g : Gap) (s : Bytes) → scan l n kept (gap g) s ≡ scan l n kept' (gap g) s
  scan_kept n g s = scan_free s n (free_gap g)
