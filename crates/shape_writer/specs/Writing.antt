-- What a writer of shapes asks and answers. Assumes nothing.
use Rattle.std.specs.Prelude.{ℕ, ◌+◌, ◌^◌, ◌≤◌, ◌<◌, ◌≡◌, Bool, Option, Some, None, List, ◌++◌, ltb, length}
use Rattle.definitions.specs.declared.Limits.{Limits}
use Rattle.definitions.specs.declared.Answer.{Answer}
use Rattle.definitions.specs.Bytes.{Bytes, bytes}
use Rattle.definitions.specs.Shape.{Shape, Fields, levels}
use Rattle.definitions.specs.ShapeText.{write, write_fields, write_shape}
use Rattle.definitions.specs.Operations.{passed, stopped, refusal, to_write, shape_out, finish}
use Rattle.text.specs.Writes.{Writes}
use Rattle.plain.specs.Parts.{HoldsText}
use Rattle.shapes.specs.Shapes.{has_bit, Stands}
use Rattle.shapes.specs.Held.{HoldsShape, HoldsFields}
use Rattle.shape_writer.specs.Layout.{word_of, label_text}

-- ---- what a writer asks and answers

-- a shape stands there, and the place behind its form is below an end
pub record Printable (shapes pool : List ℕ) (row at around below : ℕ) : Type 0 where
  pub shape : Shape
  pub holds : HoldsShape shapes pool row shape
  pub room : at + length (write shape around) < below
  pub deep : around + 1 < 2 ^ 64

-- the form of the shape that stands there is written from a place on
abbrev pub WritesForm : (shapes pool : List ℕ) (row around : ℕ) (out out' : Bytes) (at r : ℕ) → Type 0
WritesForm shapes pool row around out out' at r =
    (s : Shape) → HoldsShape shapes pool row s → Writes out out' at (write s around) r

-- the length of its form
abbrev pub LengthOfForm : (shapes pool : List ℕ) (row around r : ℕ) → Type 0
LengthOfForm shapes pool row around r = (s : Shape) → HoldsShape shapes pool row s → r ≡ length (write s around)

pub record PrintableFields (shapes pool : List ℕ) (row end at around below : ℕ) : Type 0 where
  pub fields : Fields
  pub holds : HoldsFields shapes pool row end fields
  pub room : at + length (write_fields fields around ++ bytes ")") < below

-- the members that stand there, and the bracket that closes their shape
abbrev pub WritesFields : (shapes pool : List ℕ) (row end around : ℕ) (out out' : Bytes) (at r : ℕ) → Type 0
WritesFields shapes pool row end around out out' at r =
    (fs : Fields) → HoldsFields shapes pool row end fs → Writes out out' at (write_fields fs around ++ bytes ")") r

-- their length
abbrev pub LengthOfFields : (shapes pool : List ℕ) (row end around r : ℕ) → Type 0
LengthOfFields shapes pool row end around r =
    (fs : Fields) → HoldsFields shapes pool row end fs → r ≡ length (write_fields fs around ++ bytes ")")

-- ---- words

-- the word of a kind is written where a set of kinds has it
pub record WritesWord (kinds kind : ℕ) (word out out' : Bytes) (at r : ℕ) : Type 0 where
  pub written : Writes out out' at (word_of (has_bit kinds kind) word) r

-- how long the word of a kind is, n bytes where a set of kinds has it
pub record LengthOfWord (kinds kind n r : ℕ) : Type 0 where
  pub measured : (word : Bytes) → length word ≡ n → r ≡ length (word_of (has_bit kinds kind) word)

-- ---- names

pub record PrintableLabel (pool : List ℕ) (k at around below : ℕ) : Type 0 where
  pub text : Bytes
  pub holds : HoldsText pool k text
  pub room : at + length (label_text text around) < below

abbrev pub WritesLabel : (pool : List ℕ) (k around : ℕ) (out out' : Bytes) (at r : ℕ) → Type 0
WritesLabel pool k around out out' at r = (t : Bytes) → HoldsText pool k t → Writes out out' at (label_text t around) r

abbrev pub LengthOfLabel : (pool : List ℕ) (k around r : ℕ) → Type 0
LengthOfLabel pool k around r = (t : Bytes) → HoldsText pool k t → r ≡ length (label_text t around)

-- ---- the end of an operation

-- some shape stands at a row
pub record Standing (shapes : List ℕ) (row : ℕ) : Type 0 where
  pub used : List ℕ
  pub name : ℕ
  pub shape : Shape
  pub stands : Stands shapes used row name shape

-- whether the shape that stands there is nested deeper than so many levels
abbrev pub TellsDeeper : (shapes : List ℕ) (row left : ℕ) (r : Bool) → Type 0
TellsDeeper shapes row left r = (p : List ℕ) (m : ℕ) (s : Shape) → Stands shapes p row m s → r ≡ ltb left (levels s)

-- some shape stands at the first row of a table that is not too long for its text to be measured
pub record Deliverable (shapes pool : List ℕ) : Type 0 where
  pub shape : Shape
  pub holds : HoldsShape shapes pool 0 shape
  pub small : length shapes ≤ 65536

-- what judging refusal 11 comes to: nothing where it refuses, else how long the text is
abbrev pub Measures : (shapes pool : List ℕ) → Limits → Option ℕ → Type 0
Measures shapes pool l None = (s : Shape) → HoldsShape shapes pool 0 s → shape_out l s ≡ stopped (refusal 11 0 0)
Measures shapes pool l (Some n) =
    (s : Shape) → HoldsShape shapes pool 0 s
    → (shape_out l s ≡ passed (to_write (write_shape s) 0)) × (n ≡ length (write_shape s))

-- the answer of an operation that writes the shape that stands at the first row
abbrev pub DeliversAnswer : (shapes pool : List ℕ) → Limits → Bytes → Answer → Type 0
DeliversAnswer shapes pool l out r = (s : Shape) → HoldsShape shapes pool 0 s → r ≡ (finish out (shape_out l s)).answer

-- and its output
abbrev pub DeliversOutput : (shapes pool : List ℕ) → Limits → Bytes → Bytes → Type 0
DeliversOutput shapes pool l out out' = (s : Shape) → HoldsShape shapes pool 0 s → out' ≡ (finish out (shape_out l s)).output
