-- The causes of each operation's refusals, a constructor for each row of document 01's table and for 18 of request Q-6, with number,
-- text, place and length; the order in which they are judged; and what it is to be refused with the first of them. Rows 3 to 6 are the
-- constructors of `Cause`, 7 and 8 those of `ShapeCause` and `ReaderCause`, 9 and 10 those of `Refuses`, 12 and 13 those of `Halts`.
-- Assumes nothing.
use Rattle.std.specs.Prelude.{ℕ, ◌<◌, ◌≡◌, true, false, ◌||◌, List, [], ◌∷◌, ltb, length}
use Rattle.definitions.specs.declared.Limits.{Limits}
use Rattle.definitions.specs.declared.Answer.{Answer}
use Rattle.definitions.specs.Limits.{in_range, over}
use Rattle.definitions.specs.Bytes.{Bytes}
use Rattle.definitions.specs.Outcome.{ok}
use Rattle.definitions.specs.Value.{Value, size, nesting}
use Rattle.definitions.specs.Json.{read_json}
use Rattle.definitions.specs.Plain.{plain}
use Rattle.definitions.specs.Shape.{Shape, forms, levels}
use Rattle.definitions.specs.Join.{join, shape_of}
use Rattle.definitions.specs.ShapeText.{read_shape, write_shape}
use Rattle.definitions.specs.Reader.{Result, read_reader}
use Rattle.definitions.specs.Operations.{slices_short}
use Rattle.laws.specs.Causes.{Cause, First}
use Rattle.laws.specs.FormCauses.{ShapeCause, ReaderCause}
use Rattle.laws.specs.CheckRules.{Checks, Refuses}
use Rattle.laws.specs.RunRules.{Runs, Halts}

-- ---- refusals, and which is judged before which

-- what is returned, behind the stage at which it is judged
pub record Refusal : Type 0 where
  pub stage : ℕ
  pub number : ℕ
  pub text : ℕ
  pub place : ℕ
  pub needed : ℕ

-- "Cause, in the order judged"; "Within one text 2 goes first ..; all of text 1's causes up to 8 go before any of text 2's."
-- The stages: the set of limits; the work slices; of text 1 its length, then what is in it; of text 2 the same; 9, 10, 12 and 13; 11 and 14; 15

-- request Q-6, 18: "a limit outside its range, before 1"; "zeros if they have no place"
abbrev pub at_limits : Refusal
at_limits = record { stage = 0; number = 18; text = 0; place = 0; needed = 0 }

-- row 1: "zeros"
abbrev pub at_slices : Refusal
at_slices = record { stage = 1; number = 1; text = 0; place = 0; needed = 0 }

-- row 2: "text"
abbrev pub over_long_1 : Refusal
over_long_1 = record { stage = 2; number = 2; text = 1; place = 0; needed = 0 }

abbrev pub over_long_2 : Refusal
over_long_2 = record { stage = 4; number = 2; text = 2; place = 0; needed = 0 }

-- rows 3 to 8: "text, place"
abbrev pub in_text_1 : (number place : ℕ) → Refusal
in_text_1 n p = record { stage = 3; number = n; text = 1; place = p; needed = 0 }

abbrev pub in_text_2 : (number place : ℕ) → Refusal
in_text_2 n p = record { stage = 5; number = n; text = 2; place = p; needed = 0 }

-- rows 9, 10, 12 and 13: "text, place of form"; the reader is text 1
abbrev pub at_form : (number place : ℕ) → Refusal
at_form n p = record { stage = 6; number = n; text = 1; place = p; needed = 0 }

-- rows 11 and 14: "zeros"; they "are judged for the whole result"
abbrev pub too_large : (number : ℕ) → Refusal
too_large n = record { stage = 7; number = n; text = 0; place = 0; needed = 0 }

-- row 15: "length needed"
abbrev pub no_room : (needed : ℕ) → Refusal
no_room k = record { stage = 8; number = 15; text = 0; place = 0; needed = k }

-- the answer of a refusal: "unused fields are 0 or false"
abbrev pub answer_of : Refusal → Answer
answer_of k = record { number = k.number; text = k.text; place = k.place; length = k.needed; steps = 0; yes = false }

-- one is judged before another, or within one text has "the smallest place, then the smaller number"
pub data Before (k j : Refusal) : Type 0 where
  earlier_stage : k.stage < j.stage → Before k j
  same_stage : k.stage ≡ j.stage → First k.number k.place j.number j.place → Before k j

-- an answer is a refusal with the first of the causes that stand, or none stands and its number is 0
pub data RefusedWithTheFirst (C : Refusal → Type 0) : Answer → Type 0 where
  by_cause
      : (k : Refusal) → C k → 0 < k.number → ((j : Refusal) → C j → Before k j) → RefusedWithTheFirst C (answer_of k)
  by_none : {a : Answer} → a.number ≡ 0 → ((k : Refusal) → C k → ⊥) → RefusedWithTheFirst C a

-- ---- the seven operations

-- "a shape to be written has over 512 shape forms, nesting over 32 or over 16,384 bytes"
abbrev pub ShapeOver : Limits → Shape → Type 0
ShapeOver l s = over l (forms s) (levels s) || ltb l.bytes (length (write_shape s)) ≡ true

-- "result over 512 values or nesting over 32"
abbrev pub ResultOver : Limits → Value → Type 0
ResultOver l v = over l (size v) (nesting v) ≡ true

module _ (published lent : List ℕ) (l : Limits) where
  -- "a limit outside its range"
  abbrev OutOfRange : Type 0
  OutOfRange = in_range l ≡ false

  -- "a work slice shorter than published"
  abbrev SlicesShort : Type 0
  SlicesShort = slices_short published lent ≡ true

  -- "a text over 16,384 bytes"
  abbrev OverLong : Bytes → Type 0
  OverLong s = l.bytes < length s

  pub data PlainCause (document output : Bytes) : Refusal → Type 0 where
    row_18 : OutOfRange → PlainCause document output at_limits
    row_1 : SlicesShort → PlainCause document output at_slices
    row_2 : OverLong document → PlainCause document output over_long_1
    rows_3_to_6 : {n p : ℕ} → Cause l document n p → PlainCause document output (in_text_1 n p)
    row_15
        : {v : Value} → read_json l document ≡ ok v → length output < length (plain v)
        → PlainCause document output (no_room (length (plain v)))

  pub data InferCause (first document output : Bytes) : Refusal → Type 0 where
    row_18 : OutOfRange → InferCause first document output at_limits
    row_1 : SlicesShort → InferCause first document output at_slices
    row_2_first : OverLong first → InferCause first document output over_long_1
    rows_7_and_8 : {n p : ℕ} → ShapeCause l first n p → InferCause first document output (in_text_1 n p)
    row_2_second : OverLong document → InferCause first document output over_long_2
    rows_3_to_6 : {n p : ℕ} → Cause l document n p → InferCause first document output (in_text_2 n p)
    row_11
        : {s : Shape} {v : Value} → read_shape l first ≡ ok s → read_json l document ≡ ok v → ShapeOver l (join s (shape_of v))
        → InferCause first document output (too_large 11)
    row_15
        : {s : Shape} {v : Value} → read_shape l first ≡ ok s → read_json l document ≡ ok v
        → length output < length (write_shape (join s (shape_of v)))
        → InferCause first document output (no_room (length (write_shape (join s (shape_of v)))))

  pub data JoinCause (first second output : Bytes) : Refusal → Type 0 where
    row_18 : OutOfRange → JoinCause first second output at_limits
    row_1 : SlicesShort → JoinCause first second output at_slices
    row_2_first : OverLong first → JoinCause first second output over_long_1
    rows_7_and_8_first : {n p : ℕ} → ShapeCause l first n p → JoinCause first second output (in_text_1 n p)
    row_2_second : OverLong second → JoinCause first second output over_long_2
    rows_7_and_8_second : {n p : ℕ} → ShapeCause l second n p → JoinCause first second output (in_text_2 n p)
    row_11
        : {s t : Shape} → read_shape l first ≡ ok s → read_shape l second ≡ ok t → ShapeOver l (join s t)
        → JoinCause first second output (too_large 11)
    row_15
        : {s t : Shape} → read_shape l first ≡ ok s → read_shape l second ≡ ok t → length output < length (write_shape (join s t))
        → JoinCause first second output (no_room (length (write_shape (join s t))))

  pub data BelowCause (first second : Bytes) : Refusal → Type 0 where
    row_18 : OutOfRange → BelowCause first second at_limits
    row_1 : SlicesShort → BelowCause first second at_slices
    row_2_first : OverLong first → BelowCause first second over_long_1
    rows_7_and_8_first : {n p : ℕ} → ShapeCause l first n p → BelowCause first second (in_text_1 n p)
    row_2_second : OverLong second → BelowCause first second over_long_2
    rows_7_and_8_second : {n p : ℕ} → ShapeCause l second n p → BelowCause first second (in_text_2 n p)

  pub data AdmitsCause (first document : Bytes) : Refusal → Type 0 where
    row_18 : OutOfRange → AdmitsCause first document at_limits
    row_1 : SlicesShort → AdmitsCause first document at_slices
    row_2_first : OverLong first → AdmitsCause first document over_long_1
    rows_7_and_8 : {n p : ℕ} → ShapeCause l first n p → AdmitsCause first document (in_text_1 n p)
    row_2_second : OverLong document → AdmitsCause first document over_long_2
    rows_3_to_6 : {n p : ℕ} → Cause l document n p → AdmitsCause first document (in_text_2 n p)

  pub data CheckCause (reader second output : Bytes) : Refusal → Type 0 where
    row_18 : OutOfRange → CheckCause reader second output at_limits
    row_1 : SlicesShort → CheckCause reader second output at_slices
    row_2_first : OverLong reader → CheckCause reader second output over_long_1
    rows_7_and_8_first : {n p : ℕ} → ReaderCause l reader n p → CheckCause reader second output (in_text_1 n p)
    row_2_second : OverLong second → CheckCause reader second output over_long_2
    rows_7_and_8_second : {n p : ℕ} → ShapeCause l second n p → CheckCause reader second output (in_text_2 n p)
    rows_9_and_10
        : {r : Result} {s : Shape} {n p : ℕ} → read_reader l reader ≡ ok r → read_shape l second ≡ ok s → Refuses (s ∷ []) r n p
        → CheckCause reader second output (at_form n p)
    row_11
        : {r : Result} {s u : Shape} → read_reader l reader ≡ ok r → read_shape l second ≡ ok s → Checks (s ∷ []) r u
        → ShapeOver l u → CheckCause reader second output (too_large 11)
    row_15
        : {r : Result} {s u : Shape} → read_reader l reader ≡ ok r → read_shape l second ≡ ok s → Checks (s ∷ []) r u
        → length output < length (write_shape u) → CheckCause reader second output (no_room (length (write_shape u)))

  pub data RunCause (reader document output : Bytes) : Refusal → Type 0 where
    row_18 : OutOfRange → RunCause reader document output at_limits
    row_1 : SlicesShort → RunCause reader document output at_slices
    row_2_first : OverLong reader → RunCause reader document output over_long_1
    rows_7_and_8 : {n p : ℕ} → ReaderCause l reader n p → RunCause reader document output (in_text_1 n p)
    row_2_second : OverLong document → RunCause reader document output over_long_2
    rows_3_to_6 : {n p : ℕ} → Cause l document n p → RunCause reader document output (in_text_2 n p)
    rows_12_and_13
        : {r : Result} {v : Value} {n p : ℕ} → read_reader l reader ≡ ok r → read_json l document ≡ ok v → Halts l (v ∷ []) 0 r n p
        → RunCause reader document output (at_form n p)
    row_14
        : {r : Result} {v w : Value} {m : ℕ} → read_reader l reader ≡ ok r → read_json l document ≡ ok v → Runs l (v ∷ []) 0 r w m
        → ResultOver l w → RunCause reader document output (too_large 14)
    row_15
        : {r : Result} {v w : Value} {m : ℕ} → read_reader l reader ≡ ok r → read_json l document ≡ ok v → Runs l (v ∷ []) 0 r w m
        → length output < length (plain w) → RunCause reader document output (no_room (length (plain w)))
