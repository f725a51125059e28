-- Reading a document: RFC 8259, one step a byte over a state that holds what is open. `move` knows the grammar alone;
-- `judge` knows the limits and gives each refusal its place. A refusal holds what is left of the text at its place.
-- Stricter than the RFC: no byte order mark, no lone surrogate escape, no name twice,
-- no number beyond refusal 4's limits, no more or deeper values than refusal 6 allows. Assumes nothing.
use Rattle.std.specs.Prelude.{ℕ, suc, Bool, true, false, List, [], ◌∷◌, reverse, eqb, drop}
use Rattle.std.proofs.Math.Option.{none, some}
use Rattle.definitions.specs.declared.Limits.{Limits}
use Rattle.definitions.specs.Limits.{over}
use Rattle.definitions.specs.Bytes.{Bytes, bytes, Row, one, look, is, white}
use Rattle.definitions.specs.Outcome.{Outcome, ok, refused, placed}
use Rattle.definitions.specs.Text.{Inside, chars, TextMove, wrong, more, closed, text_step}
use Rattle.definitions.specs.Number.{Numeral, no_digits, beyond, number_of, Phase, begin, next, complete, extend}
use Rattle.definitions.specs.Value.{Value, Items, no_items, item, items_onto, Members, no_members, member, members_onto, has_name}

-- "The literal names true, false and null are matched byte for byte."
unfoldable pub true_name : Bytes
true_name = bytes "true"

-- the fixed bytes of `false`
unfoldable pub false_name : Bytes
false_name = bytes "false"

-- the fixed bytes of `null`
unfoldable pub null_name : Bytes
null_name = bytes "null"

-- ---- where in a document a byte stands

-- what is open around a value
pub data Open : Type 0 where
  root : Open
  -- a list, with the elements before, latest first
  in_list : Items → Open → Open
  -- a record, with the members before, latest first, and the name of the value
  in_rec : Members → Bytes → Open → Open

-- between two tokens: what must come
pub data Gap : Type 0 where
  -- a value
  value : Open → Gap
  -- behind `[`: a value or `]`
  first_item : Open → Gap
  -- behind an element: a comma or `]`
  after_item : Items → Open → Gap
  -- behind `{`: a name or `}`
  first_name : Open → Gap
  -- behind a record's comma: a name
  next_name : Members → Open → Gap
  -- behind a name: a colon
  colon : Members → Bytes → Open → Gap
  -- behind a member: a comma or `}`
  after_member : Members → Open → Gap
  -- behind the document's value: the end
  whole : Value → Gap

-- what a text is: a value, or a name behind these members
pub data Role : Type 0 where
  as_value : Open → Role
  as_name : Members → Open → Role

-- between tokens, or inside one
pub data State : Type 0 where
  gap : Gap → State
  in_text : Role → Inside → Bytes → State
  in_number : Phase → Numeral → Open → State
  -- inside a literal name: the byte that must come, those behind it, and what the name means
  in_literal : ℕ → Bytes → Value → Open → State

-- what comes behind a value
unfoldable pub put : Value → Open → Gap
put v root = whole v
put v (in_list vs o) = after_item (item v vs) o
put v (in_rec ms n o) = after_member (member n v ms) o

-- ---- the grammar

-- what a byte, or the end of the text, does
pub data Move : Type 0 where
  -- no JSON text goes on so
  broken : Move
  -- the same, behind the start of a number that isn't complete
  broken_number : Open → Move
  go : State → Move
  -- a value other than a number begins
  begin_value : Open → State → Move
  begin_number : State → Move
  begin_name : State → Move
  -- a name is complete, behind these members
  end_name : Bytes → Members → State → Move
  -- a number was complete before this byte, which then does more
  end_number : Numeral → Open → Move → Move
  -- the text is a document
  end_text : Value → Move

-- inside a literal name of which these bytes are left
unfoldable pub spell : Bytes → Value → Open → State
spell [] v o = gap (put v o)
spell (c ∷ cs) v o = in_literal c cs v o

-- the bytes that begin a value, numbers aside
unfoldable pub value_rows : Open → List (Row State)
value_rows o =
    one "\"" (in_text (as_value o) chars [])
    ∷ one "[" (gap (first_item o))
    ∷ one "{" (gap (first_name o))
    ∷ one "t" (spell (drop 1 true_name) (Value.bool true) o)
    ∷ one "f" (spell (drop 1 false_name) (Value.bool false) o)
    ∷ one "n" (spell (drop 1 null_name) Value.null o)
    ∷ []

-- a byte where a value must begin
unfoldable pub value_move : Open → ℕ → Move
value_move o b =
    elim (look (value_rows o) b) [
      | some q ↦ begin_value o q
      | none ↦ elim (look (next begin) b) [ some p ↦ begin_number (in_number p (extend p no_digits b) o) | none ↦ broken ]
    ]

-- a byte where a name must begin
unfoldable pub name_move : Members → Open → ℕ → Move
name_move ms o b = elim (is "\"" b) [ true ↦ begin_name (in_text (as_name ms o) chars []) | false ↦ broken ]

-- a byte between tokens that isn't white space
unfoldable pub token_move : Gap → ℕ → Move
token_move (value o) b = value_move o b
token_move (first_item o) b =
    elim (is "]" b) [ true ↦ go (gap (put (Value.list no_items) o)) | false ↦ value_move (in_list no_items o) b ]
token_move (after_item vs o) b =
    elim (is "," b) [
      | true ↦ go (gap (value (in_list vs o)))
      | false ↦ elim (is "]" b) [ true ↦ go (gap (put (Value.list (items_onto vs no_items)) o)) | false ↦ broken ]
    ]
token_move (first_name o) b =
    elim (is "}" b) [ true ↦ go (gap (put (Value.rec no_members) o)) | false ↦ name_move no_members o b ]
token_move (next_name ms o) b = name_move ms o b
token_move (colon ms n o) b = elim (is ":" b) [ true ↦ go (gap (value (in_rec ms n o))) | false ↦ broken ]
token_move (after_member ms o) b =
    elim (is "," b) [
      | true ↦ go (gap (next_name ms o))
      | false ↦ elim (is "}" b) [ true ↦ go (gap (put (Value.rec (members_onto ms no_members)) o)) | false ↦ broken ]
    ]
token_move (whole v) b = broken

-- a byte between tokens
unfoldable pub gap_move : Gap → ℕ → Move
gap_move g b = elim (white b) [ true ↦ go (gap g) | false ↦ token_move g b ]

-- the closing quote of a text
unfoldable pub close_move : Role → Bytes → Move
close_move (as_value o) t = go (gap (put (Value.text t) o))
close_move (as_name ms o) t = end_name t ms (gap (colon ms t o))

-- a byte inside a text
unfoldable pub text_move : Role → Bytes → TextMove → Move
text_move r acc wrong = broken
text_move r acc (more i acc') = go (in_text r i acc')
text_move r acc closed = close_move r (reverse acc)

-- the longest run that begins a number ends here: if it is a number, the byte or the end does what it does behind a value
unfoldable pub number_end : Phase → Numeral → Open → (Gap → Move) → Move
number_end p d o behind =
    elim (complete p) [ true ↦ end_number d o (behind (put (Value.number (number_of d)) o)) | false ↦ broken_number o ]

-- what a byte does
unfoldable pub move : State → ℕ → Move
move (gap g) b = gap_move g b
move (in_text r i acc) b = text_move r acc (text_step i acc b)
move (in_number p d o) b =
    elim (look (next p) b) [
      | some q ↦ go (in_number q (extend q d b) o)
      | none ↦ number_end p d o (λ g. gap_move g b)
    ]
move (in_literal c cs v o) b = elim (eqb b c) [ true ↦ go (spell cs v o) | false ↦ broken ]

-- the end of the text, between tokens
unfoldable pub gap_end : Gap → Move
gap_end (value o) = broken
gap_end (first_item o) = broken
gap_end (after_item vs o) = broken
gap_end (first_name o) = broken
gap_end (next_name ms o) = broken
gap_end (colon ms n o) = broken
gap_end (after_member ms o) = broken
gap_end (whole v) = end_text v

-- what the end of the text does
unfoldable pub end_move : State → Move
end_move (gap g) = gap_end g
end_move (in_text r i acc) = broken
end_move (in_number p d o) = number_end p d o gap_end
end_move (in_literal c cs v o) = broken

-- ---- the limits

-- how many lists and records are open
unfoldable pub depth : Open → ℕ
depth root = 0
depth (in_list vs o) = suc (depth o)
depth (in_rec ms n o) = suc (depth o)

-- refusal 6: the n-th value, begun here, is one too many or too deep
unfoldable pub full : Limits → ℕ → Open → Bool
full l n o = over l n (suc (depth o))

-- refusals 3 to 6 for a move at s, where n values are begun and kept is where the number or name that is being read began.
-- "the smallest place, then the smaller number": a cause is judged at the first byte that decides it, and none that is
-- decided later has an earlier place. Otherwise reading goes on, with n, kept and the state as they then are
unfoldable pub judge : Limits → (n : ℕ) (kept s : Bytes) → Move → (ℕ → Bytes → State → Outcome Bytes Value) → Outcome Bytes Value
judge l n kept s broken on = refused 3 s
judge l n kept s (broken_number o) on = elim (full l n o) [ true ↦ refused 6 kept | false ↦ refused 3 s ]
judge l n kept s (go q) on = on n kept q
judge l n kept s (begin_value o q) on = elim (full l (suc n) o) [ true ↦ refused 6 s | false ↦ on (suc n) kept q ]
judge l n kept s (begin_number q) on = on (suc n) s q
judge l n kept s (begin_name q) on = on n s q
judge l n kept s (end_name t ms q) on = elim (has_name t ms) [ true ↦ refused 5 kept | false ↦ on n kept q ]
judge l n kept s (end_number d o m) on =
    elim (beyond d) [
      | true ↦ refused 4 kept
      | false ↦ elim (full l n o) [ true ↦ refused 6 kept | false ↦ judge l n kept s m on ]
    ]
judge l n kept s (end_text v) on = ok v

-- reading from a state on (`end_move` never goes on)
unfoldable pub scan : Limits → (n : ℕ) (kept : Bytes) → State → Bytes → Outcome Bytes Value
scan l n kept q [] = judge l n kept [] (end_move q) (λ n' kept' q'. refused 3 [])
scan l n kept q (b ∷ r) = judge l n kept (b ∷ r) (move q b) (λ n' kept' q'. scan l n' kept' q' r)

-- what reading a JSON document comes to, with refusals 3 to 6 at their places
unfoldable pub read_json : Limits → Bytes → Outcome ℕ Value
read_json l s = placed s (scan l 0 s (gap (value root)) s)
