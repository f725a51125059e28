-- The promises of `definitions`, each tied to its demand (document 00). Everything that a reader has to believe of the
-- theorems stands here and in what these statements name: `definitions`, the grammars (Rfc3629, Rfc8259, TokenGrammar, FormGrammar), the
-- causes (Causes, FormCauses, OperationCauses), the rules of checking and running (CheckRules, RunRules), trees and what fits (Tree), values of the
-- paper (Distinct, Good, Readers), the chain of calls (Chain, AnswerWords, HostChain), what `field` was (OldField, OldOperations), fractions of zeros
-- (ZeroDigits) and how a check ends behind a further sample (NewSamples). They hold for every set of limits where no range is named. Theorems proves
-- them. Assumes nothing.
use Rattle.std.specs.Prelude.{ℕ, ◌*◌, ◌^◌, ◌≤◌, ◌<◌, ◌≡◌, ◌⊎◌, ◌↔◌, Bool, true, false, List, [], ◌∷◌, ◌++◌, ltb, length, take, drop}
use Rattle.definitions.specs.declared.Limits.{Limits}
use Rattle.definitions.specs.declared.Answer.{Answer}
use Rattle.definitions.specs.Limits.{standard, in_range}
use Rattle.definitions.specs.Bytes.{Bytes, bytes}
use Rattle.definitions.specs.Outcome.{ok, refused}
use Rattle.definitions.specs.Number.{Number, is_int}
use Rattle.definitions.specs.Value.{Value, size, nesting}
use Rattle.definitions.specs.Json.{read_json}
use Rattle.definitions.specs.Plain.{plain}
use Rattle.definitions.specs.Shape.{Kind, int_only, Shape, has, ascending, forms, levels, only_null, only_numeric}
use Rattle.definitions.specs.Order.{below}
use Rattle.definitions.specs.Join.{join, shape_of}
use Rattle.definitions.specs.Admits.{admits}
use Rattle.definitions.specs.Tokens.{Placed, tokens}
use Rattle.definitions.specs.ShapeText.{read_shape, write_shape}
use Rattle.definitions.specs.Reader.{Place, to_int, Result, read_reader}
use Rattle.definitions.specs.Checking.{check_reader}
use Rattle.definitions.specs.Running.{Ran, field_value, run_reader}
use Rattle.definitions.specs.Operations.{Done, Source, Judged, refusal, slices_short, prelude, TextOut, finish, say, plain_operation, infer_operation}
use Rattle.definitions.specs.Operations.{join_operation, below_operation, admits_operation, check_operation, run_operation}
use Rattle.definitions.specs.Calls.{Called, answer_words, answered, call, quiet, buffer_published, buffer_lent, plain_call, infer_call, join_call}
use Rattle.definitions.specs.Calls.{below_call, admits_call, check_call, run_call}
use Rattle.laws.specs.Distinct.{distinct}
use Rattle.laws.specs.Tree.{Tree, meaning, Fits}
use Rattle.laws.specs.Rfc8259.{ws, frac, JSONText}
use Rattle.laws.specs.ZeroDigits.{ZeroFrac}
use Rattle.laws.specs.Causes.{Cause, RefusedFirst}
use Rattle.laws.specs.TokenGrammar.{TokensOf}
use Rattle.laws.specs.FormCauses.{ShapeCause, ReaderCause}
use Rattle.laws.specs.FormGrammar.{ShapeForm, ReaderWithin}
use Rattle.laws.specs.Good.{GoodValue, GoodShape}
use Rattle.laws.specs.Readers.{scoped, proper, Safe}
use Rattle.laws.specs.CheckRules.{Checks, Refuses}
use Rattle.laws.specs.RunRules.{PlaceRuns, Runs, Stuck, OutOfSteps}
use Rattle.laws.specs.Chain.{Call, start, reached, ProperSource, InRange, Demand3}
use Rattle.laws.specs.Larger.{Larger, ReadsOn}
use Rattle.laws.specs.OperationCauses.{RefusedWithTheFirst, PlainCause, InferCause, JoinCause, BelowCause, AdmitsCause}
use Rattle.laws.specs.OperationCauses.{CheckCause, RunCause}
use Rattle.laws.specs.AnswerWords.{InWord, WordsOf}
use Rattle.laws.specs.HostChain.{InferCall, handed_on, reached_text, CallEnds, Demand3OverCalls}
use Rattle.laws.specs.OldField.{old_check_reader, NullNotWanted, old_run_reader, StuckOnNull}
use Rattle.laws.specs.OldOperations.{old_check_operation, old_run_operation, old_check_call, old_run_call, MeetsNullChecked, MeetsNull}
use Rattle.laws.specs.OldOperations.{UnlessMet, UnlessMetCalled}
use Rattle.laws.specs.NewSamples.{SaysBelow, CallsBelow, NumberAbove}

-- ---- documents: demand 2, "Documents are read as RFC 8259 and RFC 3629 define them"

-- a document is accepted with a value exactly where the RFC's grammar derives a tree from it that means the value and
-- keeps the paper's limits but 2, which is judged before
abbrev pub DocumentsByTheRfc : Type 0
DocumentsByTheRfc =
    (l : Limits) (s : Bytes) (v : Value)
    → (read_json l s ≡ ok v) ↔ ((x : Tree) × JSONText s x × Fits l x × (meaning x ≡ v))

-- demand 1, "under its stated cause": the cause of a refusal stands at its place
abbrev pub DocumentsRefusedForCause : Type 0
DocumentsRefusedForCause = (l : Limits) (s : Bytes) (n p : ℕ) → read_json l s ≡ refused n p → Cause l s n p

-- demand 1, "and under no other": where a cause stands the document is refused, and every cause stands at the place of the
-- refusal given or later, there with a number no smaller
abbrev pub DocumentsRefusedForTheLeast : Type 0
DocumentsRefusedForTheLeast = (l : Limits) (s : Bytes) (m q : ℕ) → Cause l s m q → RefusedFirst (read_json l s) m q

-- ---- shape texts and readers: demand 2, "shapes likewise"

-- the tokens of a text, with their places, are just those that the paper defines
abbrev pub TokensByTheGrammar : Type 0
TokensByTheGrammar = (s : Bytes) (ts : List Placed) → (tokens s ≡ ts) ↔ TokensOf 0 s ts

-- a shape text is accepted exactly where it is a right text within the limits
abbrev pub ShapesByTheGrammar : Type 0
ShapesByTheGrammar =
    (l : Limits) (s : Bytes) (t : Shape)
    → (read_shape l s ≡ ok t) ↔ (ShapeForm (tokens s) t [] × (forms t ≤ l.values) × (levels t ≤ l.nesting))

-- demand 1, of shape texts
abbrev pub ShapesRefusedForCause : Type 0
ShapesRefusedForCause = (l : Limits) (s : Bytes) (n p : ℕ) → read_shape l s ≡ refused n p → ShapeCause l s n p

abbrev pub ShapesRefusedForTheLeast : Type 0
ShapesRefusedForTheLeast = (l : Limits) (s : Bytes) (m q : ℕ) → ShapeCause l s m q → RefusedFirst (read_shape l s) m q

-- a reader is accepted exactly where it is a right text within the limits, one form or no token; the document is its one binding
abbrev pub ReadersByTheGrammar : Type 0
ReadersByTheGrammar = (l : Limits) (s : Bytes) (r : Result) → (read_reader l s ≡ ok r) ↔ ReaderWithin l (tokens s) r

-- demand 1, of readers
abbrev pub ReadersRefusedForCause : Type 0
ReadersRefusedForCause = (l : Limits) (s : Bytes) (n p : ℕ) → read_reader l s ≡ refused n p → ReaderCause l s n p

abbrev pub ReadersRefusedForTheLeast : Type 0
ReadersRefusedForTheLeast = (l : Limits) (s : Bytes) (m q : ℕ) → ReaderCause l s m q → RefusedFirst (read_reader l s) m q

-- ---- round trips: demand 2, "written so that, if short enough to read, they read back as the same value; shapes likewise"

-- plain JSON of a document that was read reads back as the same value, and is never longer
abbrev pub DocumentsReadBack : Type 0
DocumentsReadBack =
    (l : Limits) (s : Bytes) (v : Value) → read_json l s ≡ ok v → (read_json l (plain v) ≡ ok v) × (length (plain v) ≤ length s)

-- so does what a run gives, within the limits of 14
abbrev pub ResultsReadBack : Type 0
ResultsReadBack =
    (l : Limits) → InRange l → (text s : Bytes) (r : Result) (v : Value) (x : Ran Value) → read_reader l text ≡ ok r
    → read_json l s ≡ ok v → run_reader r l v ≡ ok x → size x.result ≤ l.values → nesting x.result ≤ l.nesting
    → read_json l (plain x.result) ≡ ok x.result

-- so does every value of the paper with distinct names, and every shape of the paper, within the limits
abbrev pub ValuesReadBack : Type 0
ValuesReadBack =
    (l : Limits) (v : Value) → GoodValue v → distinct v ≡ true → size v ≤ l.values → nesting v ≤ l.nesting
    → read_json l (plain v) ≡ ok v

abbrev pub ShapesReadBack : Type 0
ShapesReadBack =
    (l : Limits) (s : Shape) → GoodShape s → ascending s ≡ true → forms s ≤ l.values → levels s ≤ l.nesting
    → read_shape l (write_shape s) ≡ ok s

-- what was read as a shape is a shape of the paper, and its text reads back
abbrev pub ReadShapesReadBack : Type 0
ReadShapesReadBack =
    (l : Limits) (s : Bytes) (t : Shape) → read_shape l s ≡ ok t
    → (ascending t ≡ true) × GoodShape t × (read_shape l (write_shape t) ≡ ok t)

-- the bytes that an operation wrote
abbrev pub wrote : Done → Bytes
wrote d = take d.answer.length d.output

-- what infer, join and check write reads back as the shape that the definitions compute
pub record WrittenShapesReadBack : Type 0 where
  pub by_infer
      : (source : Source) → ProperSource source → (published lent : List ℕ) (l : Limits) (shape document output : Bytes)
      → (infer_operation source published lent l shape document output).answer.number ≡ 0
      → (s : Shape) × (v : Value) × (read_shape l shape ≡ ok s) × (source l document ≡ ok v)
      × (read_shape l (wrote (infer_operation source published lent l shape document output)) ≡ ok (join s (shape_of v)))
  pub by_join
      : (published lent : List ℕ) (l : Limits) (first second output : Bytes)
      → (join_operation published lent l first second output).answer.number ≡ 0
      → (s : Shape) × (t : Shape) × (read_shape l first ≡ ok s) × (read_shape l second ≡ ok t)
      × (read_shape l (wrote (join_operation published lent l first second output)) ≡ ok (join s t))
  pub by_check
      : (published lent : List ℕ) (l : Limits) (reader shape output : Bytes)
      → (check_operation published lent l reader shape output).answer.number ≡ 0
      → (r : Result) × (s : Shape) × (u : Shape) × (read_reader l reader ≡ ok r) × (read_shape l shape ≡ ok s)
      × (check_reader r s ≡ ok u) × (read_shape l (wrote (check_operation published lent l reader shape output)) ≡ ok u)

-- what plain writes reads back as the document's value, what run writes as the value that it gave, in the steps answered
pub record WrittenDocumentsReadBack : Type 0 where
  pub by_plain
      : (published lent : List ℕ) (l : Limits) (document output : Bytes)
      → (plain_operation read_json published lent l document output).answer.number ≡ 0
      → (v : Value) × (read_json l document ≡ ok v)
      × (read_json l (wrote (plain_operation read_json published lent l document output)) ≡ ok v)
  pub by_run
      : (published lent : List ℕ) (l : Limits) → InRange l → (reader document output : Bytes)
      → (run_operation read_json published lent l reader document output).answer.number ≡ 0
      → (r : Result) × (v : Value) × (x : Ran Value) × (read_reader l reader ≡ ok r) × (read_json l document ≡ ok v) × (run_reader r l v ≡ ok x)
      × ((run_operation read_json published lent l reader document output).answer.steps ≡ x.steps)
      × (read_json l (wrote (run_operation read_json published lent l reader document output)) ≡ ok x.result)

-- ---- demand 1, "no refusal changes a byte of the output buffer"

-- whatever was judged: every operation that writes ends in `finish`
abbrev pub RefusalsKeepTheOutput : Type 0
RefusalsKeepTheOutput =
    (output : Bytes) (j : Judged TextOut) → ((finish output j).answer.number ≡ 0 → ⊥) → (finish output j).output ≡ output

-- and so every C call that writes
pub record CallsKeepTheOutput : Type 0 where
  pub by_plain
      : (l : Limits) (source : Source) (document output buffer : Bytes) → ((plain_call source l document output buffer).number ≡ 0 → ⊥)
      → (plain_call source l document output buffer).output ≡ output
  pub by_infer
      : (l : Limits) (source : Source) (shape document output buffer : Bytes)
      → ((infer_call source l shape document output buffer).number ≡ 0 → ⊥)
      → (infer_call source l shape document output buffer).output ≡ output
  pub by_join
      : (l : Limits) (first second output buffer : Bytes) → ((join_call l first second output buffer).number ≡ 0 → ⊥)
      → (join_call l first second output buffer).output ≡ output
  pub by_check
      : (l : Limits) (reader shape output buffer : Bytes) → ((check_call l reader shape output buffer).number ≡ 0 → ⊥)
      → (check_call l reader shape output buffer).output ≡ output
  pub by_run
      : (l : Limits) (source : Source) (reader document output buffer : Bytes)
      → ((run_call source l reader document output buffer).number ≡ 0 → ⊥)
      → (run_call source l reader document output buffer).output ≡ output

-- ---- demand 1, "each is given by its number and place under its stated cause, and under no other", of all numbers

-- each operation is refused with the first of its causes, or none stands and it succeeds; a C call is the operation with the answer
-- buffer's 40 bytes for work slices
pub record RefusedWithTheFirstCause : Type 0 where
  pub by_plain
      : (published lent : List ℕ) (l : Limits) (document output : Bytes)
      → RefusedWithTheFirst
      (PlainCause published lent l document output)
      (plain_operation read_json published lent l document output).answer
  pub by_infer
      : (published lent : List ℕ) (l : Limits) (shape document output : Bytes)
      → RefusedWithTheFirst
      (InferCause published lent l shape document output)
      (infer_operation read_json published lent l shape document output).answer
  pub by_join
      : (published lent : List ℕ) (l : Limits) (first second output : Bytes)
      → RefusedWithTheFirst (JoinCause published lent l first second output) (join_operation published lent l first second output).answer
  pub by_below
      : (published lent : List ℕ) (l : Limits) (first second : Bytes)
      → RefusedWithTheFirst (BelowCause published lent l first second) (below_operation published lent l first second)
  pub by_admits
      : (published lent : List ℕ) (l : Limits) (shape document : Bytes)
      → RefusedWithTheFirst (AdmitsCause published lent l shape document) (admits_operation read_json published lent l shape document)
  pub by_check
      : (published lent : List ℕ) (l : Limits) (reader shape output : Bytes)
      → RefusedWithTheFirst (CheckCause published lent l reader shape output) (check_operation published lent l reader shape output).answer
  pub by_run
      : (published lent : List ℕ) (l : Limits) (reader document output : Bytes)
      → RefusedWithTheFirst
      (RunCause published lent l reader document output)
      (run_operation read_json published lent l reader document output).answer

-- ---- order and join: demand 2, "inferring, ordering .. give just the answers that document 01 defines", and what demand 3
-- stands on

-- on the shapes of the paper `below` is a partial order
pub record PartialOrder : Type 0 where
  pub reflexive : (s : Shape) → ascending s ≡ true → below s s ≡ true
  pub transitive
      : (s t u : Shape) → ascending s ≡ true → ascending t ≡ true → ascending u ≡ true → below s t ≡ true → below t u ≡ true
      → below s u ≡ true
  pub antisymmetric
      : (s t : Shape) → ascending s ≡ true → ascending t ≡ true → below s t ≡ true → below t s ≡ true → s ≡ t

-- and `join` gives the least upper bound, again a shape of the paper
pub record LeastUpperBound : Type 0 where
  pub well_formed : (s t : Shape) → ascending s ≡ true → ascending t ≡ true → ascending (join s t) ≡ true
  pub above_left : (s t : Shape) → ascending s ≡ true → ascending t ≡ true → below s (join s t) ≡ true
  pub above_right : (s t : Shape) → ascending s ≡ true → ascending t ≡ true → below t (join s t) ≡ true
  pub least
      : (s t u : Shape) → ascending s ≡ true → ascending t ≡ true → ascending u ≡ true → below s u ≡ true → below t u ≡ true
      → below (join s t) u ≡ true

-- a shape admits a value with distinct names exactly where the value's shape is below it
abbrev pub AdmitsIsBelow : Type 0
AdmitsIsBelow =
    (s : Shape) (v : Value) → distinct v ≡ true → ascending s ≡ true
    → (admits s v ≡ true) ↔ (below (shape_of v) s ≡ true)

-- forms, nesting and written bytes grow along the order, so that refusal 11 depends on no order of samples
pub record SizesGrow : Type 0 where
  pub in_forms : (s t : Shape) → ascending s ≡ true → ascending t ≡ true → below s t ≡ true → forms s ≤ forms t
  pub in_nesting : (s t : Shape) → ascending s ≡ true → ascending t ≡ true → below s t ≡ true → levels s ≤ levels t
  pub in_bytes
      : (s t : Shape) → ascending s ≡ true → ascending t ≡ true → below s t ≡ true
      → length (write_shape s) ≤ length (write_shape t)

-- ---- checking: demand 2, "checking .. give just the answers that document 01 defines", and demand 1 of 9 and 10

-- checking gives a shape exactly where the paper's rules do, and is refused exactly where they refuse, with their number at
-- their place
pub record CheckingByTheRules : Type 0 where
  pub gives : (r : Result) (s t : Shape) → (check_reader r s ≡ ok t) ↔ Checks (s ∷ []) r t
  pub refuses : (r : Result) (s : Shape) (n p : ℕ) → (check_reader r s ≡ refused n p) ↔ Refuses (s ∷ []) r n p
  pub numbers : (r : Result) (s : Shape) (n p : ℕ) → check_reader r s ≡ refused n p → (n ≡ 9) ⊎ (n ≡ 10)

-- ---- running: demand 2, "running give just the answers that document 01 defines, steps counted", and demand 1 of 12 and 13

-- running gives a value in so many steps exactly where the paper's rules do, is stuck exactly where they are, and runs out of
-- steps exactly where they do; it knows no other refusal
pub record RunningByTheRules : Type 0 where
  pub gives
      : (r : Result) (l : Limits) (v : Value) (x : Ran Value)
      → (run_reader r l v ≡ ok x) ↔ Runs l (v ∷ []) 0 r x.result x.steps
  pub stuck : (r : Result) (l : Limits) (v : Value) (p : ℕ) → (run_reader r l v ≡ refused 12 p) ↔ Stuck l (v ∷ []) 0 r p
  pub out_of_steps
      : (r : Result) (l : Limits) (v : Value) (p : ℕ) → (run_reader r l v ≡ refused 13 p) ↔ OutOfSteps l (v ∷ []) 0 r p
  pub numbers : (r : Result) (l : Limits) (v : Value) (n p : ℕ) → run_reader r l v ≡ refused n p → (n ≡ 12) ⊎ (n ≡ 13)
  pub within_the_limit : (r : Result) (l : Limits) (v : Value) (x : Ran Value) → run_reader r l v ≡ ok x → x.steps ≤ l.steps

-- of the limits running knows the steps alone: a value is given, in as many steps, under every limit that has them; what is stuck stays so
-- under every limit that is no smaller; and 13 means that there were too few
pub record OnlyTheStepsRunOut : Type 0 where
  pub given_again
      : (r : Result) (l m : Limits) (v : Value) (x : Ran Value) → run_reader r l v ≡ ok x → x.steps ≤ m.steps → run_reader r m v ≡ ok x
  pub stuck_again
      : (r : Result) (l m : Limits) (v : Value) (p : ℕ) → run_reader r l v ≡ refused 12 p → l.steps ≤ m.steps
      → run_reader r m v ≡ refused 12 p
  pub too_few
      : (r : Result) (l m : Limits) (v : Value) (p : ℕ) (x : Ran Value) → run_reader r l v ≡ refused 13 p → run_reader r m v ≡ ok x
      → l.steps < x.steps

-- ---- soundness: demand 3, "the reader never gets stuck on it: it gives a value that its own result shape admits, or
-- meets the step .. limit"

abbrev pub CheckedReadersAreSafe : Type 0
CheckedReadersAreSafe =
    (r : Result) (l : Limits) (s : Shape) (v : Value) (u : Shape) → ascending s ≡ true → distinct v ≡ true → scoped 1 r ≡ true
    → proper r ≡ true → check_reader r s ≡ ok u → admits s v ≡ true → Safe u (run_reader r l v)

-- ---- demand 3, whole

-- for every source of documents that keeps to what is asked of one, every set of limits in range and every list of calls
abbrev pub Demand3From : Source → Type 0
Demand3From source =
    (for_infer for_check for_run : List ℕ) (l : Limits) → InRange l → (calls : List Call)
    → Demand3 source for_infer for_check for_run l calls

abbrev pub Demand3FromEverySource : Type 0
Demand3FromEverySource = (source : Source) → ProperSource source → Demand3From source

-- and so for JSON documents
abbrev pub Demand3ForDocuments : Type 0
Demand3ForDocuments = Demand3From read_json

-- ---- demand 3 over C calls

-- a call is its operation behind the prelude, whatever is judged of its texts: at limits out of range it is 18, and the output is kept;
-- under 40 bytes of answer buffer it is 1 and nothing is written; else the number is returned, and text, place, length, steps and yes are
-- put into the buffer
pub record CallsAreOperations : Type 0 where
  pub writes_out
      : (l : Limits) (buffer output : Bytes) (j : Judged TextOut) → in_range l ≡ false
      → call buffer (finish output (prelude l buffer_published (buffer_lent buffer) j))
      ≡ record { number = 18; answer = answered buffer (refusal 18 0 0); output = output }
  pub writes_short
      : (l : Limits) (buffer output : Bytes) (j : Judged TextOut) → in_range l ≡ true → length buffer < 40
      → call buffer (finish output (prelude l buffer_published (buffer_lent buffer) j)) ≡ record { number = 1; answer = buffer; output = output }
  pub writes_long
      : (l : Limits) (buffer output : Bytes) (j : Judged TextOut) → in_range l ≡ true → 40 ≤ length buffer
      → call buffer (finish output (prelude l buffer_published (buffer_lent buffer) j))
      ≡ record {
        number = (finish output j).answer.number;
        answer = answer_words (finish output j).answer ++ drop 40 buffer;
        output = (finish output j).output;
      }
  pub says_out
      : (l : Limits) (buffer : Bytes) (j : Judged Bool) → in_range l ≡ false
      → call buffer (quiet (say (prelude l buffer_published (buffer_lent buffer) j)))
      ≡ record { number = 18; answer = answered buffer (refusal 18 0 0); output = [] }
  pub says_short
      : (l : Limits) (buffer : Bytes) (j : Judged Bool) → in_range l ≡ true → length buffer < 40
      → call buffer (quiet (say (prelude l buffer_published (buffer_lent buffer) j))) ≡ record { number = 1; answer = buffer; output = [] }
  pub says_long
      : (l : Limits) (buffer : Bytes) (j : Judged Bool) → in_range l ≡ true → 40 ≤ length buffer
      → call buffer (quiet (say (prelude l buffer_published (buffer_lent buffer) j)))
      ≡ record { number = (say j).number; answer = answer_words (say j) ++ drop 40 buffer; output = [] }

-- what a call put into a buffer of 40 bytes or more is read from it, where the numbers fit into words
abbrev pub AnswersReadBack : Type 0
AnswersReadBack =
    (buffer : Bytes) (a : Answer) → 40 ≤ length buffer → InWord a.text → InWord a.place → InWord a.length → InWord a.steps
    → WordsOf (answered buffer a) a

-- for every source that keeps to what is asked of one, every set of limits in range and every list of infer calls as a host makes them
abbrev pub Demand3OfCallsFromEverySource : Type 0
Demand3OfCallsFromEverySource =
    (source : Source) → ProperSource source → (l : Limits) → InRange l → (list : List InferCall) → Demand3OverCalls source l list

-- and so for JSON documents
abbrev pub Demand3OfCalls : Type 0
Demand3OfCalls = (l : Limits) → InRange l → (list : List InferCall) → Demand3OverCalls read_json l list

-- what the host then reads behind a run call that returned 0 is the plain JSON of the value, in every output that a word can count
abbrev pub ResultsHandedOn : Type 0
ResultsHandedOn =
    (l : Limits) (r : Result) (v : Value) (u : Shape) (output answer : Bytes) (c : Called) → CallEnds l r v u output answer c
    → c.number ≡ 0 → InWord (length output)
    → (x : Ran Value) × (run_reader r l v ≡ ok x) × (admits u x.result ≡ true) × (handed_on c ≡ plain x.result)

-- the paper's own limits are in range
abbrev pub StandardInRange : Type 0
StandardInRange = InRange standard

-- ---- request Q-6: one set beside another

-- an operation that succeeds at a set comes to the same at every larger one in range, with slices as long as published for that
pub record OperationsGoOn (source : Source) : Type 0 where
  pub by_plain
      : (l m : Limits) → Larger l m → InRange m → (published lent for_larger lent_to_it : List ℕ) → slices_short for_larger lent_to_it ≡ false
      → (document output : Bytes) → (plain_operation source published lent l document output).answer.number ≡ 0
      → plain_operation source for_larger lent_to_it m document output ≡ plain_operation source published lent l document output
  pub by_infer
      : (l m : Limits) → Larger l m → InRange m → (published lent for_larger lent_to_it : List ℕ) → slices_short for_larger lent_to_it ≡ false
      → (shape document output : Bytes) → (infer_operation source published lent l shape document output).answer.number ≡ 0
      → infer_operation source for_larger lent_to_it m shape document output ≡ infer_operation source published lent l shape document output
  pub by_join
      : (l m : Limits) → Larger l m → InRange m → (published lent for_larger lent_to_it : List ℕ) → slices_short for_larger lent_to_it ≡ false
      → (first second output : Bytes) → (join_operation published lent l first second output).answer.number ≡ 0
      → join_operation for_larger lent_to_it m first second output ≡ join_operation published lent l first second output
  pub by_below
      : (l m : Limits) → Larger l m → InRange m → (published lent for_larger lent_to_it : List ℕ) → slices_short for_larger lent_to_it ≡ false
      → (first second : Bytes) → (below_operation published lent l first second).number ≡ 0
      → below_operation for_larger lent_to_it m first second ≡ below_operation published lent l first second
  pub by_admits
      : (l m : Limits) → Larger l m → InRange m → (published lent for_larger lent_to_it : List ℕ) → slices_short for_larger lent_to_it ≡ false
      → (shape document : Bytes) → (admits_operation source published lent l shape document).number ≡ 0
      → admits_operation source for_larger lent_to_it m shape document ≡ admits_operation source published lent l shape document
  pub by_check
      : (l m : Limits) → Larger l m → InRange m → (published lent for_larger lent_to_it : List ℕ) → slices_short for_larger lent_to_it ≡ false
      → (reader shape output : Bytes) → (check_operation published lent l reader shape output).answer.number ≡ 0
      → check_operation for_larger lent_to_it m reader shape output ≡ check_operation published lent l reader shape output
  pub by_run
      : (l m : Limits) → Larger l m → InRange m → (published lent for_larger lent_to_it : List ℕ) → slices_short for_larger lent_to_it ≡ false
      → (reader document output : Bytes) → (run_operation source published lent l reader document output).answer.number ≡ 0
      → run_operation source for_larger lent_to_it m reader document output ≡ run_operation source published lent l reader document output

-- and so does a C call, with the buffers that it had
pub record CallsGoOn (source : Source) : Type 0 where
  pub by_plain
      : (l m : Limits) → Larger l m → InRange m → (document output buffer : Bytes) → (plain_call source l document output buffer).number ≡ 0
      → plain_call source m document output buffer ≡ plain_call source l document output buffer
  pub by_infer
      : (l m : Limits) → Larger l m → InRange m → (shape document output buffer : Bytes)
      → (infer_call source l shape document output buffer).number ≡ 0
      → infer_call source m shape document output buffer ≡ infer_call source l shape document output buffer
  pub by_join
      : (l m : Limits) → Larger l m → InRange m → (first second output buffer : Bytes) → (join_call l first second output buffer).number ≡ 0
      → join_call m first second output buffer ≡ join_call l first second output buffer
  pub by_below
      : (l m : Limits) → Larger l m → InRange m → (first second buffer : Bytes) → (below_call l first second buffer).number ≡ 0
      → below_call m first second buffer ≡ below_call l first second buffer
  pub by_admits
      : (l m : Limits) → Larger l m → InRange m → (shape document buffer : Bytes) → (admits_call source l shape document buffer).number ≡ 0
      → admits_call source m shape document buffer ≡ admits_call source l shape document buffer
  pub by_check
      : (l m : Limits) → Larger l m → InRange m → (reader shape output buffer : Bytes) → (check_call l reader shape output buffer).number ≡ 0
      → check_call m reader shape output buffer ≡ check_call l reader shape output buffer
  pub by_run
      : (l m : Limits) → Larger l m → InRange m → (reader document output buffer : Bytes)
      → (run_call source l reader document output buffer).number ≡ 0
      → run_call source m reader document output buffer ≡ run_call source l reader document output buffer

-- over every source that reads on at larger sets, and so over JSON
abbrev pub LargerSetsGoOnFromEverySource : Type 0
LargerSetsGoOnFromEverySource = (source : Source) → ProperSource source → ReadsOn source → OperationsGoOn source × CallsGoOn source

abbrev pub LargerSetsGoOn : Type 0
LargerSetsGoOn = OperationsGoOn read_json × CallsGoOn read_json

-- ---- request Q-7: an empty reader

-- "An empty text, or one of white space only, shall mean `(none)`: it gives null in one step, its shape is null, and its place is 0.", and
-- so every operation and every C call with such a reader, within the text limit, comes to what it does with `(none)`, at any limits
pub record BlankReadersMeanNone : Type 0 where
  -- these are the texts without a token
  pub tokenless : (s : Bytes) → (tokens s ≡ []) ↔ ws s []
  pub read_as : (l : Limits) (s : Bytes) → ws s [] → read_reader l s ≡ ok (Result.literal 0 Value.null)
  pub gives : (l : Limits) (v : Value) → 1 ≤ l.steps → run_reader (Result.literal 0 Value.null) l v ≡ ok (record { result = Value.null; steps = 1 })
  pub shaped : (s : Shape) → check_reader (Result.literal 0 Value.null) s ≡ ok only_null
  pub by_check
      : (l : Limits) (reader : Bytes) → ws reader [] → length reader ≤ l.bytes → (published lent : List ℕ) (shape output : Bytes)
      → check_operation published lent l reader shape output ≡ check_operation published lent l (bytes "(none)") shape output
  pub by_run
      : (l : Limits) (reader : Bytes) → ws reader [] → length reader ≤ l.bytes → (source : Source) (published lent : List ℕ) (document output : Bytes)
      → run_operation source published lent l reader document output ≡ run_operation source published lent l (bytes "(none)") document output
  pub by_check_call
      : (l : Limits) (reader : Bytes) → ws reader [] → length reader ≤ l.bytes → (shape output buffer : Bytes)
      → check_call l reader shape output buffer ≡ check_call l (bytes "(none)") shape output buffer
  pub by_run_call
      : (l : Limits) (reader : Bytes) → ws reader [] → length reader ≤ l.bytes → (source : Source) (document output buffer : Bytes)
      → run_call source l reader document output buffer ≡ run_call source l (bytes "(none)") document output buffer

-- ---- request Q-2: reading through null

-- "Every reader that passed before passes with the same result shape, and each run that ended gives its old bytes. A run that stuck here on null
-- goes on". Before is document 01's `field` (OldField): by it the outcome of a check is what it was, unless a `field` met a place with null and
-- refused it with 9, and that of a run what it was, unless a `field` met null and was stuck; and so every operation and every C call, whole
pub record ReadsThroughNull : Type 0 where
  pub passes : (r : Result) (s t : Shape) → old_check_reader r s ≡ ok t → check_reader r s ≡ ok t
  pub checked : (r : Result) (s : Shape) → (check_reader r s ≡ old_check_reader r s) ⊎ ((p : ℕ) × NullNotWanted r s p)
  pub was_unwanted : (r : Result) (s : Shape) (p : ℕ) → NullNotWanted r s p → old_check_reader r s ≡ refused 9 p
  -- with its old steps too
  pub ends : (r : Result) (l : Limits) (v : Value) (x : Ran Value) → old_run_reader r l v ≡ ok x → run_reader r l v ≡ ok x
  pub ran : (r : Result) (l : Limits) (v : Value) → (run_reader r l v ≡ old_run_reader r l v) ⊎ ((p : ℕ) × StuckOnNull r l v p)
  pub was_stuck : (r : Result) (l : Limits) (v : Value) (p : ℕ) → StuckOnNull r l v p → old_run_reader r l v ≡ refused 12 p
  -- "On null it reads null."
  pub on_null : (at : ℕ) (n : Bytes) → field_value at n Value.null ≡ ok Value.null
  pub by_check
      : (l : Limits) (reader shape output : Bytes) (published lent : List ℕ)
      → UnlessMet 9 (MeetsNullChecked l reader shape) output (old_check_operation published lent l reader shape output)
      (check_operation published lent l reader shape output)
  pub by_run
      : (source : Source) (l : Limits) (reader document output : Bytes) (published lent : List ℕ)
      → UnlessMet 12 (MeetsNull source l reader document) output (old_run_operation source published lent l reader document output)
      (run_operation source published lent l reader document output)
  pub by_check_call
      : (l : Limits) (reader shape output buffer : Bytes)
      → UnlessMetCalled 9 (MeetsNullChecked l reader shape) output buffer (old_check_call l reader shape output buffer)
      (check_call l reader shape output buffer)
  pub by_run_call
      : (source : Source) (l : Limits) (reader document output buffer : Bytes)
      → UnlessMetCalled 12 (MeetsNull source l reader document) output buffer (old_run_call source l reader document output buffer)
      (run_call source l reader document output buffer)

-- ---- request Q-5: whole watts written 12.0

-- "a number whose fraction digits are all zero is an int. This goes for shapes, admitting, `when int` and the int conversion, which writes it
-- without fraction." Digits are those that RFC 8259's grammar derives; that `when int` goes by it too says RunningByTheRules
pub record ZeroFractionsAreInts : Type 0 where
  pub by_digits
      : (m : Bool) (c d n : ℕ) (s r : Bytes) → frac c s d n r
      → (is_int (record { negative = m; coefficient = d; scale = n }) ≡ true) ↔ ZeroFrac n s r
  pub shaped : (x : Number) → is_int x ≡ true → shape_of (Value.number x) ≡ only_numeric int_only
  pub admitted : (s : Shape) (x : Number) → is_int x ≡ true → admits s (Value.number x) ≡ has Kind.int s
  -- the int conversion gives the number that its place came to, at scale 0
  pub converted
      : (at : ℕ) (p : Place) (l : Limits) (v : Value) (x : Ran Value) → run_reader (Result.convert at to_int p) l v ≡ ok x
      → (y : Number) × (c : ℕ) × PlaceRuns l (v ∷ []) 1 p (Value.number y) x.steps × (is_int y ≡ true)
      × (c * 10 ^ y.scale ≡ y.coefficient) × (x.result ≡ Value.number (record { negative = y.negative; coefficient = c; scale = 0 }))
  -- which int admits, and which reads back
  pub admitted_by_int
      : (at : ℕ) (p : Place) (l : Limits) (v : Value) (x : Ran Value) → run_reader (Result.convert at to_int p) l v ≡ ok x
      → admits (only_numeric int_only) x.result ≡ true
  pub reads_back
      : (l : Limits) → InRange l → (text s : Bytes) (at : ℕ) (p : Place) (v : Value) (x : Ran Value)
      → read_reader l text ≡ ok (Result.convert at to_int p) → read_json l s ≡ ok v → run_reader (Result.convert at to_int p) l v ≡ ok x
      → read_json l (plain x.result) ≡ ok x.result

-- ---- request Q-13: what a new sample does to old readers

-- "if one shape is below another and a reader passes against both, its result shape against the lower is below the other"; one that passes
-- against the lower and not against the higher is refused there with 9, and never with 10. And so of two shape texts, where `below` says yes of
-- them, as the operations and the C calls tell it, with any one set of limits for all of them
pub record ReadersWiden : Type 0 where
  pub widened
      : (r : Result) (s t u w : Shape) → ascending s ≡ true → ascending t ≡ true → below s t ≡ true → check_reader r s ≡ ok u
      → check_reader r t ≡ ok w → below u w ≡ true
  pub lost
      : (r : Result) (s t u : Shape) (n p : ℕ) → ascending s ≡ true → ascending t ≡ true → below s t ≡ true → check_reader r s ≡ ok u
      → check_reader r t ≡ refused n p → n ≡ 9
  -- what the first check wrote is below what the second wrote
  pub by_check
      : (l : Limits) (first second reader output output' : Bytes) (for_below lent_to_below for_check lent lent' : List ℕ)
      → SaysBelow for_below lent_to_below l first second → (check_operation for_check lent l reader first output).answer.number ≡ 0
      → (check_operation for_check lent' l reader second output').answer.number ≡ 0
      → (published again : List ℕ) → slices_short published again ≡ false
      → SaysBelow published again l (wrote (check_operation for_check lent l reader first output))
      (wrote (check_operation for_check lent' l reader second output'))
  pub lost_by_check
      : (l : Limits) (first second reader output output' : Bytes) (for_below lent_to_below for_check lent lent' : List ℕ)
      → SaysBelow for_below lent_to_below l first second → (check_operation for_check lent l reader first output).answer.number ≡ 0
      → NumberAbove (slices_short for_check lent') l output' (check_operation for_check lent' l reader second output').answer.number
  pub by_check_call
      : (l : Limits) (first second reader output output' told answer answer' : Bytes) → CallsBelow l first second told
      → (check_call l reader first output answer).number ≡ 0 → (check_call l reader second output' answer').number ≡ 0
      → (buffer : Bytes) → 40 ≤ length buffer
      → CallsBelow l (handed_on (check_call l reader first output answer)) (handed_on (check_call l reader second output' answer')) buffer
  pub lost_by_check_call
      : (l : Limits) (first second reader output output' told answer answer' : Bytes) → CallsBelow l first second told
      → (check_call l reader first output answer).number ≡ 0
      → NumberAbove (ltb (length answer') 40) l output' (check_call l reader second output' answer').number

-- "So a further sample may widen a passing reader's result and never narrows it.": the same of the texts that a list of infer calls and the list
-- with further calls behind it reach, with any samples and any lent buffers
pub record SamplesWiden (source : Source) : Type 0 where
  pub by_check
      : (for_infer for_check : List ℕ) (l : Limits) (calls further : List Call) (reader output output' : Bytes) (lent lent' : List ℕ)
      → (check_operation for_check lent l reader (reached source for_infer l calls start) output).answer.number ≡ 0
      → (check_operation for_check lent' l reader (reached source for_infer l (calls ++ further) start) output').answer.number ≡ 0
      → (published again : List ℕ) → slices_short published again ≡ false
      → SaysBelow published again l (wrote (check_operation for_check lent l reader (reached source for_infer l calls start) output))
      (wrote (check_operation for_check lent' l reader (reached source for_infer l (calls ++ further) start) output'))
  pub lost_by_check
      : (for_infer for_check : List ℕ) (l : Limits) (calls further : List Call) (reader output output' : Bytes) (lent lent' : List ℕ)
      → (check_operation for_check lent l reader (reached source for_infer l calls start) output).answer.number ≡ 0
      → NumberAbove (slices_short for_check lent') l output'
      (check_operation for_check lent' l reader (reached source for_infer l (calls ++ further) start) output').answer.number
  pub by_check_call
      : (l : Limits) (list further : List InferCall) (reader output output' answer answer' : Bytes)
      → (check_call l reader (reached_text source l list start) output answer).number ≡ 0
      → (check_call l reader (reached_text source l (list ++ further) start) output' answer').number ≡ 0
      → (buffer : Bytes) → 40 ≤ length buffer
      → CallsBelow l (handed_on (check_call l reader (reached_text source l list start) output answer))
      (handed_on (check_call l reader (reached_text source l (list ++ further) start) output' answer')) buffer
  pub lost_by_check_call
      : (l : Limits) (list further : List InferCall) (reader output output' answer answer' : Bytes)
      → (check_call l reader (reached_text source l list start) output answer).number ≡ 0
      → NumberAbove (ltb (length answer') 40) l output'
      (check_call l reader (reached_text source l (list ++ further) start) output' answer').number

-- from every source that keeps to what is asked of one, and so from JSON documents
abbrev pub NewSamplesWidenFromEverySource : Type 0
NewSamplesWidenFromEverySource = (source : Source) → ProperSource source → SamplesWiden source

abbrev pub NewSamplesWiden : Type 0
NewSamplesWiden = SamplesWiden read_json
