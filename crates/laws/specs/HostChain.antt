-- Demand 3 over C calls, stated as the host makes them: it reads the number returned and the length in the answer's third word,
-- and hands on that many bytes of the output. The calls are those of `definitions`. Assumes nothing.
use Rattle.std.specs.Prelude.{ℕ, ◌≤◌, ◌<◌, ◌≡◌, Bool, true, false, List, [], ◌∷◌, ◌++◌, map, eqb, length, take, drop}
use Rattle.definitions.specs.declared.Limits.{Limits}
use Rattle.definitions.specs.declared.Answer.{Answer}
use Rattle.definitions.specs.Limits.{over}
use Rattle.definitions.specs.Bytes.{Bytes}
use Rattle.definitions.specs.Outcome.{ok, refused}
use Rattle.definitions.specs.Value.{Value, size, nesting}
use Rattle.definitions.specs.Plain.{plain}
use Rattle.definitions.specs.Shape.{Shape, ascending}
use Rattle.definitions.specs.Order.{below}
use Rattle.definitions.specs.Admits.{admits}
use Rattle.definitions.specs.ShapeText.{read_shape}
use Rattle.definitions.specs.Reader.{Result, read_reader}
use Rattle.definitions.specs.Running.{Ran, run_reader}
use Rattle.definitions.specs.Operations.{Source, refusal, output_short, written}
use Rattle.definitions.specs.Calls.{Called, answer_words, infer_call, check_call, run_call}
use Rattle.laws.specs.Chain.{Each, Reordered, Reads, start}
use Rattle.laws.specs.AnswerWords.{word_at}

-- ---- what the host does

-- what an infer call is handed beside the shape text: buffers of any lengths
pub record InferCall : Type 0 where
  pub sample : Bytes
  pub output : Bytes
  pub answer : Bytes

-- "Success is number 0: length bytes are written at the front of the output": what the host reads there
unfoldable pub handed_on : Called → Bytes
handed_on r = take (word_at 2 r.answer) r.output

module _ (source : Source) (l : Limits) where
  -- the call on a shape text
  unfoldable pub calls : InferCall → Bytes → Called
  calls c t = infer_call source l t c.sample c.output c.answer

  -- "an accepted call (number 0)": the number that it returned
  unfoldable pub accepts : InferCall → Bytes → Bool
  accepts c t = eqb (calls c t).number 0

  -- "an accepted call puts what it wrote in its place, a refused one leaves it"
  unfoldable pub kept_text : InferCall → Bytes → Bytes
  kept_text c t = elim (accepts c t) [ true ↦ handed_on (calls c t) | false ↦ t ]

  -- "The text that the list leaves is the reached text"
  unfoldable pub reached_text : List InferCall → Bytes → Bytes
  reached_text [] t = t
  reached_text (c ∷ cs) t = reached_text cs (kept_text c t)

  -- the accepted samples, in order
  unfoldable pub accepted_samples : List InferCall → Bytes → List Bytes
  accepted_samples [] t = []
  accepted_samples (c ∷ cs) t =
      elim (accepts c t) [ true ↦ c.sample ∷ accepted_samples cs (kept_text c t) | false ↦ accepted_samples cs (kept_text c t) ]

-- ---- what the demand says

-- "its buffers are long enough where none meets 1 and each output is no shorter than the reached text"
pub record LongBuffers (text : Bytes) (c : InferCall) : Type 0 where
  pub words : 40 ≤ length c.answer
  pub room : length text ≤ length c.output

-- an answer put into a buffer of 40 bytes or more, whose bytes past the fortieth are kept
abbrev pub put : Answer → Bytes → Bytes
put a answer = answer_words a ++ drop 40 answer

-- how a run call ends on a value: number, answer and output, each way under its cause
pub data CallEnds (l : Limits) (r : Result) (v : Value) (u : Shape) (output answer : Bytes) : Called → Type 0 where
  -- "run gives 0 and the plain JSON of a value that the result shape admits"
  gives
      : (x : Ran Value) → 40 ≤ length answer → run_reader r l v ≡ ok x → admits u x.result ≡ true
      → over l (size x.result) (nesting x.result) ≡ false → length (plain x.result) ≤ length output
      → CallEnds l r v u output answer
      (record {
        number = 0;
        answer = put (written (length (plain x.result)) x.steps false) answer;
        output = plain x.result ++ drop (length (plain x.result)) output;
      })
  -- "an answer buffer; one under 40 bytes is 1 and stays unwritten"
  short_answer : length answer < 40 → CallEnds l r v u output answer (record { number = 1; answer = answer; output = output })
  -- "run: step 65,537"
  out_of_steps
      : (p : ℕ) → 40 ≤ length answer → run_reader r l v ≡ refused 13 p
      → CallEnds l r v u output answer (record { number = 13; answer = put (refusal 13 1 p) answer; output = output })
  -- "run: result over 512 values or nesting over 32"
  too_large
      : (x : Ran Value) → 40 ≤ length answer → run_reader r l v ≡ ok x → over l (size x.result) (nesting x.result) ≡ true
      → CallEnds l r v u output answer (record { number = 14; answer = put (refusal 14 0 0) answer; output = output })
  -- "output shorter than needed"
  no_room
      : (x : Ran Value) → 40 ≤ length answer → run_reader r l v ≡ ok x → over l (size x.result) (nesting x.result) ≡ false
      → length output < length (plain x.result)
      → CallEnds l r v u output answer
      (record { number = 15; answer = put (output_short (length (plain x.result))) answer; output = output })

-- a reader that passed in this check call: what the call wrote is its result shape; and how every run call of the reader ends, with
-- any buffers, on every document that is read without refusal and admitted by the shape reached
pub record PassesCall (source : Source) (l : Limits) (shape : Shape) (reader : Bytes) (checked : Called) : Type 0 where
  pub result : Shape
  pub wrote : read_shape l (handed_on checked) ≡ ok result
  pub form : Result
  pub reads : read_reader l reader ≡ ok form
  pub ends
      : (document output answer : Bytes) (v : Value) → Reads source l document v → admits shape v ≡ true
      → CallEnds l form v result output answer (run_call source l reader document output answer)

-- "Demand 3 is a single claim about the list and what follows it": of a list of infer calls with any samples and any buffers
pub record Demand3OverCalls (source : Source) (l : Limits) (list : List InferCall) : Type 0 where
  -- the shape reached
  pub shape : Shape
  pub well_formed : ascending shape ≡ true
  pub reads_as : read_shape l (reached_text source l list start) ≡ ok shape
  pub short_enough : length (reached_text source l list start) ≤ l.bytes
  -- "the shape reached admits every accepted sample"
  pub admits_each
      : Each (λ d. (v : Value) × Reads source l d v × (admits shape v ≡ true)) (accepted_samples source l list start)
  -- "and lies below every other shape that admits them all", whatever its size
  pub lies_below
      : (u : Shape) → ascending u ≡ true
      → Each (λ d. (v : Value) → Reads source l d v → admits u v ≡ true) (accepted_samples source l list start)
      → below shape u ≡ true
  -- "In any other order, given long enough buffers, these samples are all accepted too and reach the same bytes."
  pub other_order
      : (others : List InferCall) → Reordered (accepted_samples source l list start) (map (λ c. c.sample) others)
      → Each (LongBuffers (reached_text source l list start)) others
      → (accepted_samples source l others start ≡ map (λ c. c.sample) others)
      × (reached_text source l others start ≡ reached_text source l list start)
  -- "Whichever reader passes the check against the shape reached, and whichever document that shape admits, the reader never
  -- gets stuck on it": "A reader passes where check of it against the reached text gives 0"
  pub never_stuck
      : (reader output answer : Bytes) → (check_call l reader (reached_text source l list start) output answer).number ≡ 0
      → PassesCall source l shape reader (check_call l reader (reached_text source l list start) output answer)
