-- Demand 3, stated: lists of infer calls, what they reach, any other order of their samples, and what check and run then
-- come to. The calls are the operations of `definitions`. Assumes nothing.
use Rattle.std.specs.Prelude.{ℕ, ◌≤◌, ◌<◌, ◌≡◌, Bool, true, false, List, [], ◌∷◌, ◌++◌, map, eqb, length, take, drop}
use Rattle.definitions.specs.declared.Limits.{Limits}
use Rattle.definitions.specs.Limits.{in_range, over}
use Rattle.definitions.specs.Bytes.{Bytes, bytes}
use Rattle.definitions.specs.Outcome.{ok, refused}
use Rattle.definitions.specs.Value.{Value, size, nesting}
use Rattle.definitions.specs.Plain.{plain}
use Rattle.definitions.specs.Shape.{Shape, ascending}
use Rattle.definitions.specs.Order.{below}
use Rattle.definitions.specs.Join.{shape_of}
use Rattle.definitions.specs.Admits.{admits}
use Rattle.definitions.specs.ShapeText.{read_shape}
use Rattle.definitions.specs.Reader.{Result, read_reader}
use Rattle.definitions.specs.Running.{Ran, run_reader}
use Rattle.definitions.specs.Operations.{Done, Source, refusal, output_short, written, slices_short, infer_operation, check_operation, run_operation}
use Rattle.laws.specs.Distinct.{distinct}
use Rattle.laws.specs.Good.{GoodShape}

-- ---- lists

-- P holds of each element
pub data Each {A : Type 0} (P : A → Type 0) : List A → Type 0 where
  each_none : Each P []
  each_one : {x : A} {xs : List A} → P x → Each P xs → Each P (x ∷ xs)

-- the same elements in another order
pub data Reordered {A : Type 0} : List A → List A → Type 0 where
  no_element : Reordered [] []
  keep_first : {x : A} {xs ys : List A} → Reordered xs ys → Reordered (x ∷ xs) (x ∷ ys)
  swap_first : {x y : A} {xs : List A} → Reordered (x ∷ y ∷ xs) (y ∷ x ∷ xs)
  again : {xs ys zs : List A} → Reordered xs ys → Reordered ys zs → Reordered xs zs

-- ---- lists of infer calls

-- what an infer call is handed beside the shape text: the sample, the output buffer, the lengths of the work slices
pub record Call : Type 0 where
  pub sample : Bytes
  pub output : Bytes
  pub lent : List ℕ

-- "The first gets `(shape)` and a line feed"
unfoldable pub start : Bytes
start = bytes "(shape)\n"

module _ (source : Source) (published : List ℕ) (l : Limits) where
  -- the call on a shape text
  unfoldable pub infers : Call → Bytes → Done
  infers c t = infer_operation source published c.lent l t c.sample c.output

  -- "an accepted call (number 0)"
  unfoldable pub takes : Call → Bytes → Bool
  takes c t = eqb (infers c t).answer.number 0

  -- "an accepted call puts what it wrote in its place, a refused one leaves it"
  unfoldable pub left_by : Call → Bytes → Bytes
  left_by c t = elim (takes c t) [ true ↦ take (infers c t).answer.length (infers c t).output | false ↦ t ]

  -- "The text that the list leaves is the reached text"
  unfoldable pub reached : List Call → Bytes → Bytes
  reached [] t = t
  reached (c ∷ cs) t = reached cs (left_by c t)

  -- the accepted samples, in order
  unfoldable pub accepted : List Call → Bytes → List Bytes
  accepted [] t = []
  accepted (c ∷ cs) t =
      elim (takes c t) [ true ↦ c.sample ∷ accepted cs (left_by c t) | false ↦ accepted cs (left_by c t) ]

-- ---- what the demand says

-- a text that is read without refusal as a value
pub record Reads (source : Source) (l : Limits) (document : Bytes) (v : Value) : Type 0 where
  pub short_enough : length document ≤ l.bytes
  pub value : source l document ≡ ok v

-- "its buffers are long enough where none meets 1 and each output is no shorter than the reached text"
pub record LongEnough (published : List ℕ) (text : Bytes) (c : Call) : Type 0 where
  pub work : slices_short published c.lent ≡ false
  pub room : length text ≤ length c.output

-- how run ends on a value: it gives the plain JSON of a value that the result shape admits, or 1, 13, 14 or 15 under its
-- cause, and then the output is as it was. One of the five, since each has what the ones judged before it lack
pub data Ends (published lent : List ℕ) (l : Limits) (r : Result) (v : Value) (u : Shape) (output : Bytes) : Done → Type 0 where
  gives
      : (x : Ran Value) → slices_short published lent ≡ false → run_reader r l v ≡ ok x → admits u x.result ≡ true
      → over l (size x.result) (nesting x.result) ≡ false → length (plain x.result) ≤ length output
      → Ends published lent l r v u output
      (record {
        answer = written (length (plain x.result)) x.steps false;
        output = plain x.result ++ drop (length (plain x.result)) output;
      })
  short_work
      : slices_short published lent ≡ true → Ends published lent l r v u output (record { answer = refusal 1 0 0; output = output })
  out_of_steps
      : (p : ℕ) → slices_short published lent ≡ false → run_reader r l v ≡ refused 13 p
      → Ends published lent l r v u output (record { answer = refusal 13 1 p; output = output })
  too_large
      : (x : Ran Value) → slices_short published lent ≡ false → run_reader r l v ≡ ok x
      → over l (size x.result) (nesting x.result) ≡ true
      → Ends published lent l r v u output (record { answer = refusal 14 0 0; output = output })
  no_room
      : (x : Ran Value) → slices_short published lent ≡ false → run_reader r l v ≡ ok x
      → over l (size x.result) (nesting x.result) ≡ false → length output < length (plain x.result)
      → Ends published lent l r v u output (record { answer = output_short (length (plain x.result)); output = output })

-- a reader that passed: the result shape, which check wrote, and how run ends on every document that is read without
-- refusal and admitted by the shape reached, with any lent buffers
pub record Passes
    (source : Source) (for_check for_run : List ℕ) (l : Limits) (shape : Shape) (reader : Bytes) (lent : List ℕ) (check_output text : Bytes)
    : Type 0 where
  pub result : Shape
  pub wrote
      : read_shape
      l
      (take
      (check_operation for_check lent l reader text check_output).answer.length
      (check_operation for_check lent l reader text check_output).output)
      ≡ ok result
  pub form : Result
  pub reads : read_reader l reader ≡ ok form
  pub ends
      : (document output : Bytes) (lent_to_run : List ℕ) (v : Value) → Reads source l document v → admits shape v ≡ true
      → Ends for_run lent_to_run l form v result output (run_operation source for_run lent_to_run l reader document output)

-- what is asked of a source: its refusals have a number, and the names of what it accepts are distinct and UTF-8
pub record ProperSource (source : Source) : Type 0 where
  pub numbered : (l : Limits) (document : Bytes) (n p : ℕ) → source l document ≡ refused n p → 0 < n
  pub names_once : (l : Limits) (document : Bytes) (v : Value) → source l document ≡ ok v → distinct v ≡ true
  pub names_in_utf8 : (l : Limits) (document : Bytes) (v : Value) → source l document ≡ ok v → GoodShape (shape_of v)

-- a set of limits that no operation refuses
abbrev pub InRange : Limits → Type 0
InRange l = in_range l ≡ true

-- "Demand 3 is a single claim about the list and what follows it": of a list of infer calls with any samples and any lent
-- buffers, where for-infer, for-check and for-run are the published lengths of the work slices
pub record Demand3 (source : Source) (for_infer for_check for_run : List ℕ) (l : Limits) (calls : List Call) : Type 0 where
  -- the shape reached
  pub shape : Shape
  pub well_formed : ascending shape ≡ true
  pub reads_as : read_shape l (reached source for_infer l calls start) ≡ ok shape
  pub short_enough : length (reached source for_infer l calls start) ≤ l.bytes
  -- "the shape reached admits every accepted sample"
  pub admits_each
      : Each (λ d. (v : Value) × Reads source l d v × (admits shape v ≡ true)) (accepted source for_infer l calls start)
  -- "and lies below every other shape that admits them all", whatever its size
  pub lies_below
      : (u : Shape) → ascending u ≡ true
      → Each (λ d. (v : Value) → Reads source l d v → admits u v ≡ true) (accepted source for_infer l calls start)
      → below shape u ≡ true
  -- "In any other order, given long enough buffers, these samples are all accepted too and reach the same bytes."
  pub other_order
      : (others : List Call) → Reordered (accepted source for_infer l calls start) (map (λ c. c.sample) others)
      → Each (LongEnough for_infer (reached source for_infer l calls start)) others
      → (accepted source for_infer l others start ≡ map (λ c. c.sample) others)
      × (reached source for_infer l others start ≡ reached source for_infer l calls start)
  -- "Whichever reader passes the check against the shape reached, and whichever document that shape admits, the reader
  -- never gets stuck on it": what check wrote is the result shape
  pub never_stuck
      : (reader check_output : Bytes) (lent : List ℕ)
      → (check_operation for_check lent l reader (reached source for_infer l calls start) check_output).answer.number ≡ 0
      → Passes source for_check for_run l shape reader lent check_output (reached source for_infer l calls start)
