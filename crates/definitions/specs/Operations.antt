-- The seven operations: refusals in the order judged, the answer's six fields, and the output afterwards. What is judged of
-- the texts stands once for each (`infer_judged`); the operation on lent slices and the C call put their prelude before it.
-- They are stated over a source, which says what a document is: JSON by `read_json`. The lengths of the work slices come as
-- published and as lent, in the same order; nothing else depends on a work slice. Assumes nothing.
use Rattle.std.specs.Prelude.{ℕ, Bool, true, false, ◌||◌, List, [], ◌∷◌, ◌++◌, ltb, length, drop}
use Rattle.definitions.specs.declared.Limits.{Limits}
use Rattle.definitions.specs.declared.Answer.{Answer}
use Rattle.definitions.specs.declared.Format.{Format}
use Rattle.definitions.specs.declared.Format.TheVariants.{Json}
use Rattle.definitions.specs.Limits.{in_range, over}
use Rattle.definitions.specs.Bytes.{Bytes}
use Rattle.definitions.specs.Outcome.{Outcome, ok, refused}
use Rattle.definitions.specs.Value.{Value, size, nesting}
use Rattle.definitions.specs.Json.{read_json}
use Rattle.definitions.specs.Plain.{plain}
use Rattle.definitions.specs.Shape.{Shape, forms, levels}
use Rattle.definitions.specs.Order.{below}
use Rattle.definitions.specs.Join.{join, shape_of}
use Rattle.definitions.specs.Admits.{admits}
use Rattle.definitions.specs.ShapeText.{read_shape, write_shape}
use Rattle.definitions.specs.Reader.{read_reader}
use Rattle.definitions.specs.Checking.{check_reader}
use Rattle.definitions.specs.Running.{Ran, run_reader}

-- ---- answers: "unused fields are 0 or false"

-- a refusal with number, text and place
unfoldable pub refusal : (number text place : ℕ) → Answer
refusal n k p = record { number = n; text = k; place = p; length = 0; steps = 0; yes = false }

-- refusal 15: "length needed"
unfoldable pub output_short : (needed : ℕ) → Answer
output_short needed = record { number = 15; text = 0; place = 0; length = needed; steps = 0; yes = false }

-- "Success is number 0: length bytes are written at the front of the output"
unfoldable pub written : (length steps : ℕ) → (yes : Bool) → Answer
written k n y = record { number = 0; text = 0; place = 0; length = k; steps = n; yes = y }

-- what `below` and `admits` say
unfoldable pub said : Bool → Answer
said y = record { number = 0; text = 0; place = 0; length = 0; steps = 0; yes = y }

-- the answer, and the output's bytes afterwards
pub record Done : Type 0 where
  pub answer : Answer
  pub output : Bytes

-- ---- judging, cause by cause

-- what passed so far, or the answer of the first cause that holds
pub data Judged (A : Type 0) : Type 0 where
  passed : A → Judged A
  stopped : Answer → Judged A

infixl 20 ◌>>=◌
unfoldable pub ◌>>=◌ : {A B : Type 0} → Judged A → (A → Judged B) → Judged B
passed a >>= f = f a
stopped r >>= f = stopped r

-- ---- the texts

-- how a text is read: 3 to 8
abbrev pub Reading : Type 0 → Type 0
Reading A = Limits → Bytes → Outcome ℕ A

-- what a document is: how its text is read
abbrev pub Source : Type 0
Source = Reading Value

-- the source of each format
unfoldable pub source : Format → Source
source Json = read_json

-- a refusal in text k
unfoldable pub in_text : {A : Type 0} → ℕ → Outcome ℕ A → Judged A
in_text k (ok a) = passed a
in_text k (refused n p) = stopped (refusal n k p)

-- text k: "Within one text 2 goes first", then 3 to 8 as it is read
unfoldable pub judge_text : {A : Type 0} → ℕ → Limits → Reading A → Bytes → Judged A
judge_text k l read s =
    elim (ltb l.bytes (length s)) [ true ↦ stopped (refusal 2 k 0) | false ↦ in_text k (read l s) ]

-- "all of text 1's causes up to 8 go before any of text 2's"
unfoldable pub judge_both : {A B : Type 0} → Limits → Reading A → Bytes → Reading B → Bytes → Judged (A × B)
judge_both l read s read' t = judge_text 1 l read s >>= λ a. judge_text 2 l read' t >>= λ b. passed (a, b)

-- ---- what is judged before the texts

-- some lent work slice is shorter than published
unfoldable pub slices_short : (published lent : List ℕ) → Bool
slices_short [] lent = false
slices_short (m ∷ ms) [] = true
slices_short (m ∷ ms) (n ∷ ns) = ltb n m || slices_short ms ns

-- refusal 1: "a work slice shorter than published"
unfoldable pub judge_work : (published lent : List ℕ) → Judged (Unit {0})
judge_work published lent = elim (slices_short published lent) [ true ↦ stopped (refusal 1 0 0) | false ↦ passed tt ]

-- refusal 18: "a limit outside its range, before 1"; of the whole set, whichever the operation reads
unfoldable pub judge_limits : Limits → Judged (Unit {0})
judge_limits l = elim (in_range l) [ true ↦ passed tt | false ↦ stopped (refusal 18 0 0) ]

-- the prelude, and then what is judged of the texts. One place for what goes before a text: 18 and 1
unfoldable pub prelude : {A : Type 0} → Limits → (published lent : List ℕ) → Judged A → Judged A
prelude l published lent judged = judge_limits l >>= λ r. judge_work published lent >>= λ w. judged

-- ---- what is to be written

-- what an operation has to write, the steps that it counted, and whether it says yes beside (of request Q-3; false without it)
pub record TextOut : Type 0 where
  pub bytes : Bytes
  pub steps : ℕ
  pub told : Bool

-- a text to be written in so many steps
abbrev pub to_write : Bytes → (steps : ℕ) → TextOut
to_write b n = record { bytes = b; steps = n; told = false }

-- refusal 11: "a shape to be written has over 512 shape forms, nesting over 32 or over 16,384 bytes"
unfoldable pub shape_out : Limits → Shape → Judged TextOut
shape_out l s =
    elim (over l (forms s) (levels s) || ltb l.bytes (length (write_shape s))) [
      | true ↦ stopped (refusal 11 0 0)
      | false ↦ passed (to_write (write_shape s) 0)
    ]

-- refusal 14: "run: result over 512 values or nesting over 32"
unfoldable pub result_out : Limits → Ran Value → Judged TextOut
result_out l x =
    elim (over l (size x.result) (nesting x.result)) [
      | true ↦ stopped (refusal 14 0 0)
      | false ↦ passed (to_write (plain x.result) x.steps)
    ]

-- ---- the end of an operation

-- refusal 15, or the bytes at the front of the output; "the rest keeps its bytes"
unfoldable pub deliver : Bytes → TextOut → Done
deliver output t =
    elim (ltb (length output) (length t.bytes)) [
      | true ↦ record { answer = output_short (length t.bytes); output = output }
      | false ↦
          record {
            answer = written (length t.bytes) t.steps t.told;
            output = t.bytes ++ drop (length t.bytes) output;
          }
    ]

-- a refusal keeps the output
unfoldable pub finish : Bytes → Judged TextOut → Done
finish output (passed t) = deliver output t
finish output (stopped r) = record { answer = r; output = output }

-- `below` and `admits` have no output
unfoldable pub say : Judged Bool → Answer
say (passed y) = said y
say (stopped r) = r

-- ---- the seven operations, behind their prelude: "11 and 14 are judged for the whole result"

-- plain (document)
unfoldable pub plain_judged : Source → Limits → (document : Bytes) → Judged TextOut
plain_judged source l document = judge_text 1 l source document >>= λ v. passed (to_write (plain v) 0)

-- infer (shape, document: join with the document's shape)
unfoldable pub infer_judged : Source → Limits → (shape document : Bytes) → Judged TextOut
infer_judged source l shape document = judge_both l read_shape shape source document >>= λ (s, v). shape_out l (join s (shape_of v))

-- join (two shapes)
unfoldable pub join_judged : Limits → (first second : Bytes) → Judged TextOut
join_judged l first second = judge_both l read_shape first read_shape second >>= λ (s, t). shape_out l (join s t)

-- below (two shapes: the first below the second)
unfoldable pub below_judged : Limits → (first second : Bytes) → Judged Bool
below_judged l first second = judge_both l read_shape first read_shape second >>= λ (s, t). passed (below s t)

-- admits (shape, document)
unfoldable pub admits_judged : Source → Limits → (shape document : Bytes) → Judged Bool
admits_judged source l shape document = judge_both l read_shape shape source document >>= λ (s, v). passed (admits s v)

-- check (reader, shape: writes the result shape)
unfoldable pub check_judged : Limits → (reader shape : Bytes) → Judged TextOut
check_judged l reader shape =
    judge_both l read_reader reader read_shape shape >>= λ (r, s). in_text 1 (check_reader r s) >>= λ t. shape_out l t

-- run (reader, document: writes plain JSON)
unfoldable pub run_judged : Source → Limits → (reader document : Bytes) → Judged TextOut
run_judged source l reader document =
    judge_both l read_reader reader source document >>= λ (r, v). in_text 1 (run_reader r l v) >>= λ x. result_out l x

-- ---- the seven operations on lent work slices

unfoldable pub plain_operation : Source → (published lent : List ℕ) → Limits → (document output : Bytes) → Done
plain_operation source published lent l document output = finish output (prelude l published lent (plain_judged source l document))

unfoldable pub infer_operation : Source → (published lent : List ℕ) → Limits → (shape document output : Bytes) → Done
infer_operation source published lent l shape document output =
    finish output (prelude l published lent (infer_judged source l shape document))

unfoldable pub join_operation : (published lent : List ℕ) → Limits → (first second output : Bytes) → Done
join_operation published lent l first second output = finish output (prelude l published lent (join_judged l first second))

unfoldable pub below_operation : (published lent : List ℕ) → Limits → (first second : Bytes) → Answer
below_operation published lent l first second = say (prelude l published lent (below_judged l first second))

unfoldable pub admits_operation : Source → (published lent : List ℕ) → Limits → (shape document : Bytes) → Answer
admits_operation source published lent l shape document = say (prelude l published lent (admits_judged source l shape document))

unfoldable pub check_operation : (published lent : List ℕ) → Limits → (reader shape output : Bytes) → Done
check_operation published lent l reader shape output = finish output (prelude l published lent (check_judged l reader shape))

unfoldable pub run_operation : Source → (published lent : List ℕ) → Limits → (reader document output : Bytes) → Done
run_operation source published lent l reader document output =
    finish output (prelude l published lent (run_judged source l reader document))
