-- A scan runs over white space, structural characters, strings and numbers: from the start of each it goes on behind it.
-- Assumes nothing.
use Rattle.std.specs.Prelude.{ℕ, ◌≡◌, true, false}
use Rattle.std.proofs.Math.Path.{refl, ap}
use Rattle.std.proofs.Common.{sym, ◌∙◌, subst}
use mathlib.Core.List.{[], ◌∷◌, ◌++◌, reverse, reverse-reverse, nil≢cons, head-eq_of_cons-eq}
use Rattle.std.proofs.Math.Option.{none, some, none-ne-some, some-injective}
use Rattle.definitions.specs.Bytes.{Bytes, between, look, is, white, white_table, found}
use Rattle.definitions.specs.Outcome.{Outcome, refused}
use Rattle.definitions.specs.Text.{Inside, text_step, char_step}
use Rattle.definitions.specs.Number.{Numeral, no_digits, number_of, Phase, begin, next, int_rows, e_rows, complete, extend}
use Rattle.definitions.specs.Value.{Value, Items, no_items, items_onto, Members, no_members, members_onto}
use Rattle.definitions.specs.Json.{Open, in_list, in_rec, Gap, Role, State, put, Move, spell, value_move, name_move}
use Rattle.definitions.specs.Json.{token_move, gap_move, close_move, text_move, number_end, move, gap_end, end_move}
use Rattle.laws.specs.Tree.{Trees, Named}
use Rattle.laws.specs.Rfc8259 as Rfc
use Rattle.laws.specs.Rfc8259.{ws_char, ws, ws_none, ws_more, structural, char_of}
use Rattle.laws.specs.Steps.{TextSteps, text_stay, text_then, NumberSteps, number_stay, number_then}
use Rattle.laws.proofs.StringTokens.{chars_steps}
use Rattle.laws.specs.Ranges.{eq-eqb}
use Rattle.laws.proofs.JsonBytes.{pick_true, pick_false, pick_none, pick_some, is_cases, white_cases, space_white, space_no_digit}
use Rattle.laws.proofs.JsonBytes.{ValueByte, quote, bracket, brace, letter_t, letter_f, letter_n, digit, nothing, value_byte}
use Rattle.laws.specs.JsonMoves.{Tests, judge_by, scan_by}

-- ---- where a number ends

-- what is left goes on with no number
pub data Stop : Bytes → Type 0 where
  stop_end : Stop []
  stop_byte : {b : ℕ} {r : Bytes} → ((p : Phase) → look (next p) b ≡ none) → Stop (b ∷ r)

phases
    : (P : Phase → Type 0) → P Phase.begin → P Phase.after_minus → P Phase.after_zero → P Phase.in_int → P Phase.after_point
    → P Phase.in_frac
    → P Phase.after_e → P Phase.after_sign → P Phase.in_exp → (p : Phase) → P p
phases P a b c d e f g h i Phase.begin = a
phases P a b c d e f g h i Phase.after_minus = b
phases P a b c d e f g h i Phase.after_zero = c
phases P a b c d e f g h i Phase.in_int = d
phases P a b c d e f g h i Phase.after_point = e
phases P a b c d e f g h i Phase.in_frac = f
phases P a b c d e f g h i Phase.after_e = g
phases P a b c d e f g h i Phase.after_sign = h
phases P a b c d e f g h i Phase.in_exp = i

-- white space and the structural characters behind a value go on with no number
pub data Stopping : ℕ → Type 0 where
  comma : Stopping 0x2C
  end_bracket : Stopping 0x5D
  end_brace : Stopping 0x7D

pub space_stops : {b : ℕ} → ws_char b → (p : Phase) → look (next p) b ≡ none
unfolding look next int_rows e_rows between
space_stops ws_char.space = phases (λ p. look (next p) 0x20 ≡ none) refl refl refl refl refl refl refl refl refl
space_stops ws_char.tab = phases (λ p. look (next p) 0x09 ≡ none) refl refl refl refl refl refl refl refl refl
space_stops ws_char.line_feed = phases (λ p. look (next p) 0x0A ≡ none) refl refl refl refl refl refl refl refl refl
space_stops ws_char.carriage_return = phases (λ p. look (next p) 0x0D ≡ none) refl refl refl refl refl refl refl refl refl

mark_stops : {b : ℕ} → Stopping b → (p : Phase) → look (next p) b ≡ none
unfolding look next int_rows e_rows between
mark_stops comma = phases (λ p. look (next p) 0x2C ≡ none) refl refl refl refl refl refl refl refl refl
mark_stops end_bracket = phases (λ p. look (next p) 0x5D ≡ none) refl refl refl refl refl refl refl refl refl
mark_stops end_brace = phases (λ p. look (next p) 0x7D ≡ none) refl refl refl refl refl refl refl refl refl

ws_stop : {s r : Bytes} → ws s r → Stop r → Stop s
ws_stop ws_none h = h
ws_stop (ws_more c w) h = stop_byte (space_stops c)

pub stop_none : {u : Bytes} → Stop u → (p : Phase) (b : ℕ) (w : Bytes) → u ≡ b ∷ w → look (next p) b ≡ none
stop_none stop_end p b w e = absurd (nil≢cons e)
stop_none (stop_byte h) p b w e = subst (λ (z : ℕ). look (next p) z ≡ none) (head-eq_of_cons-eq e) (h p)

pub end_stop : {s : Bytes} → ws s [] → Stop s
end_stop w = ws_stop w stop_end

pub mark_stop : {b : ℕ} {s r : Bytes} → Stopping b → structural b s r → Stop s
mark_stop m (char_of v w) = ws_stop v (stop_byte (mark_stops m))

pub values_stop : {s r : Bytes} {ts : Trees} → Rfc.more_values s ts r → Stop r → Stop s
values_stop Rfc.no_value h = h
values_stop (Rfc.next_value c v vs) h = mark_stop comma c

pub members_stop : {s r : Bytes} {ns : Named} → Rfc.more_members s ns r → Stop r → Stop s
members_stop Rfc.no_member h = h
members_stop (Rfc.next_member c v vs) h = mark_stop comma c

-- ---- where a value or a name may begin

-- in this gap a value may begin inside o
abbrev pub Takes : Gap → Open → Type 0
Takes g o = (b : ℕ) → is "]" b ≡ false → token_move g b ≡ value_move o b

pub takes_value : (o : Open) → Takes (Gap.value o) o
unfolding token_move
takes_value o b e = refl

pub takes_item : (o : Open) → Takes (Gap.first_item o) (in_list no_items o)
unfolding token_move
takes_item o b e = pick_false _ _ e

-- in this gap a name may begin behind these members
abbrev pub Names : Gap → Members → Open → Type 0
Names g ms o = token_move g 0x22 ≡ Move.begin_name (State.in_text (Role.as_name ms o) Inside.chars [])

pub names_first : (o : Open) → Names (Gap.first_name o) no_members o
unfolding token_move name_move is
names_first o = refl

pub names_next : (ms : Members) (o : Open) → Names (Gap.next_name ms o) ms o
unfolding token_move name_move is
names_next ms o = refl

-- a byte that is no white space and no closing bracket
pub takes_byte : (g : Gap) (o : Open) (b : ℕ) → Takes g o → white b ≡ false → is "]" b ≡ false → gap_move g b ≡ value_move o b
unfolding gap_move
takes_byte g o b t w e = pick_false _ _ w ∙ t b e

digit_byte
    : {o : Open} {b : ℕ} {m : Move} {p : Phase} → ValueByte o b m → look (next begin) b ≡ some p
    → m ≡ Move.begin_number (State.in_number p (extend p no_digits b) o)
unfolding look next int_rows between
digit_byte {p} quote e = absurd (none-ne-some p e)
digit_byte {p} bracket e = absurd (none-ne-some p e)
digit_byte {p} brace e = absurd (none-ne-some p e)
digit_byte {p} letter_t e = absurd (none-ne-some p e)
digit_byte {p} letter_f e = absurd (none-ne-some p e)
digit_byte {p} letter_n e = absurd (none-ne-some p e)
digit_byte {o} {b} {p} (digit {p = p'} f) e =
    ap (λ (z : Phase). Move.begin_number (State.in_number z (extend z no_digits b) o))
    (some-injective p' p (sym f ∙ e))
digit_byte {p} (nothing f) e = absurd (none-ne-some p (sym f ∙ e))

-- the first byte of a number
pub takes_digit
    : (g : Gap) (o : Open) (b : ℕ) {p : Phase} → Takes g o → look (next begin) b ≡ some p
    → gap_move g b ≡ Move.begin_number (State.in_number p (extend p no_digits b) o)
unfolding look next int_rows between
takes_digit g o b {p} t e =
    takes_byte g o b t (white_cases (λ z. z ≡ false) b (λ c. absurd (space_no_digit e c)) refl)
    (is_cases (λ z. z ≡ false) "]" b
    (λ f. absurd (none-ne-some p (subst (λ (z : ℕ). look (next begin) z ≡ some p) f e))) refl)
    ∙ digit_byte (value_byte o b) e

-- ---- the structural characters

-- a closing bracket, a comma, a closing brace, a colon
pub bracket_first : (o : Open) → gap_move (Gap.first_item o) 0x5D ≡ Move.go (State.gap (put (Value.list no_items) o))
unfolding gap_move token_move is white white_table found look between
bracket_first o = refl

pub bracket_after
    : (vs : Items) (o : Open)
    → gap_move (Gap.after_item vs o) 0x5D ≡ Move.go (State.gap (put (Value.list (items_onto vs no_items)) o))
unfolding gap_move token_move is white white_table found look between
bracket_after vs o = refl

pub comma_after
    : (vs : Items) (o : Open) → gap_move (Gap.after_item vs o) 0x2C ≡ Move.go (State.gap (Gap.value (in_list vs o)))
unfolding gap_move token_move is white white_table found look between
comma_after vs o = refl

pub brace_first : (o : Open) → gap_move (Gap.first_name o) 0x7D ≡ Move.go (State.gap (put (Value.rec no_members) o))
unfolding gap_move token_move is white white_table found look between
brace_first o = refl

pub brace_after
    : (ms : Members) (o : Open)
    → gap_move (Gap.after_member ms o) 0x7D ≡ Move.go (State.gap (put (Value.rec (members_onto ms no_members)) o))
unfolding gap_move token_move is white white_table found look between
brace_after ms o = refl

pub comma_member
    : (ms : Members) (o : Open) → gap_move (Gap.after_member ms o) 0x2C ≡ Move.go (State.gap (Gap.next_name ms o))
unfolding gap_move token_move is white white_table found look between
comma_member ms o = refl

pub colon_name
    : (ms : Members) (n : Bytes) (o : Open)
    → gap_move (Gap.colon ms n o) 0x3A ≡ Move.go (State.gap (Gap.value (in_rec ms n o)))
unfolding gap_move token_move is white white_table found look between
colon_name ms n o = refl

-- white space
pub space_move : (g : Gap) {b : ℕ} → ws_char b → gap_move g b ≡ Move.go (State.gap g)
unfolding gap_move
space_move g c = pick_true _ _ (space_white c)

-- behind the longest run of a complete number
pub number_ends
    : (p : Phase) (d : Numeral) (o : Open) (behind : Gap → Move) → complete p ≡ true
    → number_end p d o behind ≡ Move.end_number d o (behind (put (Value.number (number_of d)) o))
unfolding number_end
number_ends p d o behind c =
    pick_true (Move.end_number d o (behind (put (Value.number (number_of d)) o))) (Move.broken_number o) c

-- inside a number: a byte that goes on with it, and one that doesn't
pub number_next
    : {q : Phase} (p : Phase) (d : Numeral) (o : Open) (b : ℕ) → look (next p) b ≡ some q
    → move (State.in_number p d o) b ≡ Move.go (State.in_number q (extend q d b) o)
unfolding move
number_next p d o b e = pick_some _ (λ q. Move.go (State.in_number q (extend q d b) o)) e

pub number_behind
    : (p : Phase) (d : Numeral) (o : Open) (b : ℕ) → look (next p) b ≡ none → complete p ≡ true
    → move (State.in_number p d o) b ≡ Move.end_number d o (gap_move (put (Value.number (number_of d)) o) b)
unfolding move
number_behind p d o b e c =
    pick_none _ (λ q. Move.go (State.in_number q (extend q d b) o)) e ∙ number_ends p d o (λ g. gap_move g b) c

-- inside a literal name: the byte that must come
pub word_next : (c : ℕ) (cs : Bytes) (v : Value) (o : Open) → move (State.in_literal c cs v o) c ≡ Move.go (spell cs v o)
unfolding move
word_next c cs v o = pick_true _ _ (eq-eqb {m = c} {n = c} refl)

-- ---- runs

module _ (j : Tests) (n : ℕ) (kept : Bytes) where
  -- one byte
  pub move_run
      : {m : Move} (q : State) (b : ℕ) (s : Bytes) → move q b ≡ m
      → scan_by j n kept q (b ∷ s) ≡ judge_by j n kept (b ∷ s) m (λ n' kept' q'. scan_by j n' kept' q' s)
  unfolding scan_by
  move_run q b s e = ap (λ (m : Move). judge_by j n kept (b ∷ s) m (λ n' kept' q'. scan_by j n' kept' q' s)) e

  pub go_run
      : {q : State} (g : Gap) (b : ℕ) (s : Bytes) → gap_move g b ≡ Move.go q
      → scan_by j n kept (State.gap g) (b ∷ s) ≡ scan_by j n kept q s
  unfolding move judge_by
  go_run g b s e = move_run (State.gap g) b s e

  pub ws_run : {s r : Bytes} (g : Gap) → ws s r → scan_by j n kept (State.gap g) s ≡ scan_by j n kept (State.gap g) r
  ws_run g ws_none = refl
  ws_run g (ws_more {b} {s} c w) = go_run g b s (space_move g c) ∙ ws_run g w

  -- a structural character
  pub mark_run
      : {c : ℕ} {s r : Bytes} (g h : Gap) → structural c s r → gap_move g c ≡ Move.go (State.gap h)
      → scan_by j n kept (State.gap g) s ≡ scan_by j n kept (State.gap h) r
  mark_run {c} g h (char_of {t} v w) e = ws_run g v ∙ go_run g c t e ∙ ws_run h w

  -- inside a text
  pub text_run
      : {i k : Inside} {a c xs : Bytes} (r : Role) (y : Bytes) → TextSteps i a xs k c
      → scan_by j n kept (State.in_text r i a) (xs ++ y) ≡ scan_by j n kept (State.in_text r k c) y
  unfolding move judge_by text_move
  text_run r y text_stay = refl
  text_run r y (text_then {i} {a} {xs} {b} e f) =
      move_run (State.in_text r i a) b (xs ++ y) (ap (text_move r a) e) ∙ text_run r y f

  -- a text and its closing quote
  pub close_run
      : {s t r : Bytes} (w : Role) → Rfc.chars s t (0x22 ∷ r)
      → scan_by j n kept (State.in_text w Inside.chars []) s
      ≡ judge_by j n kept (0x22 ∷ r) (close_move w t) (λ n' kept' q'. scan_by j n' kept' q' r)
  unfolding move text_move text_step char_step is
  close_run {t} {r} w c =
      let (xs, e, f) = chars_steps c in
      ap (scan_by j n kept (State.in_text w Inside.chars [])) e ∙ text_run w (0x22 ∷ r) f
      ∙ move_run (State.in_text w Inside.chars (reverse t)) 0x22 r (ap (close_move w) (reverse-reverse t))

  -- inside a number
  pub number_run
      : {p q : Phase} {d f : Numeral} {xs : Bytes} (o : Open) (y : Bytes) → NumberSteps p d xs q f
      → scan_by j n kept (State.in_number p d o) (xs ++ y) ≡ scan_by j n kept (State.in_number q f o) y
  unfolding move judge_by
  number_run o y number_stay = refl
  number_run o y (number_then {p} {d} {xs} {b} e f) =
      move_run (State.in_number p d o) b (xs ++ y)
      (number_next p d o b e) ∙ number_run o y f

  -- what judging a complete number comes to
  abbrev pub Judged : Numeral → Open → Outcome Bytes Value → Outcome Bytes Value
  Judged d o a =
      elim (j.over d) as (λ z. Outcome Bytes Value) [
        | true ↦ refused 4 kept
        | false ↦ elim (j.crowded n o) as (λ z. Outcome Bytes Value) [ true ↦ refused 6 kept | false ↦ a ]
      ]

  -- behind a number that goes on with no byte that is left
  pub number_stops
      : (p : Phase) (d : Numeral) (o : Open) (u : Bytes) → complete p ≡ true
      → ((b : ℕ) (w : Bytes) → u ≡ b ∷ w → look (next p) b ≡ none)
      → scan_by j n kept (State.in_number p d o) u ≡ Judged d o
      (scan_by j n kept (State.gap (put (Value.number (number_of d)) o)) u)
  unfolding scan_by judge_by move end_move
  number_stops p d o [] c h =
      ap (λ (m : Move). judge_by j n kept [] m (λ n' kept' q'. refused 3 [])) (number_ends p d o gap_end c)
  number_stops p d o (b ∷ r) c h =
      move_run (State.in_number p d o) b r
      (number_behind p d o b (h b r refl) c)

-- from a name's opening quote to behind its closing one
pub name_run
    : {s m t : Bytes} (j : Tests) (n : ℕ) (kept : Bytes) (g : Gap) (ms : Members) (o : Open) → Rfc.string s m t → Names g ms o
    → scan_by j n kept (State.gap g) s ≡ elim
    (j.twice m ms) [ true ↦ refused 5 s | false ↦ scan_by j n s (State.gap (Gap.colon ms m o)) t ]
unfolding move judge_by gap_move close_move white white_table found look between
name_run j n kept g ms o (Rfc.quoted {s} c) k =
    move_run j n kept (State.gap g) 0x22 s k ∙ close_run j n (0x22 ∷ s) (Role.as_name ms o) c
