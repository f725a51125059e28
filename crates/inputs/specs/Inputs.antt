-- What reading the texts of an operation asks and answers. Assumes nothing.
use Rattle.std.specs.Prelude.{ℕ, ◌+◌, ◌*◌, ◌≤◌, ◌<◌, ◌≡◌, true, false, List, [], ◌∷◌, length, take, Ok, Err}
use Rattle.std.specs.Prelude as std
use Rattle.definitions.specs.declared.Limits.{Limits}
use Rattle.definitions.specs.Bytes.{Bytes}
use Rattle.definitions.specs.Value.{Value}
use Rattle.definitions.specs.Shape.{Shape, ascending, forms, levels}
use Rattle.definitions.specs.ShapeText.{read_shape}
use Rattle.definitions.specs.Reader.{Result, read_reader}
use Rattle.definitions.specs.Operations.{Reading, passed, stopped, refusal, judge_text, judge_both, slices_short}
use Rattle.definitions.specs.WorkSlices.{shape_words, name_words, value_words, text_words, reader_words, reader_texts}
use Rattle.definitions.specs.WorkSlices.{for_shape_document, for_two_shapes}
use Rattle.laws.specs.FormGrammar.{result_forms, result_levels}
use Rattle.laws.specs.Readers.{proper}
use Rattle.laws.specs.Good.{GoodReader}
use Rattle.shapes.specs.Shapes.{ShapeRows}
use Rattle.forms.specs.Forms.{FormRows}
use Rattle.reading.specs.declared.Extent.{Extent}
use Rattle.reading.specs.declared.Refusal.{Refusal}
use Rattle.reading.specs.Refusals.{number_of}
use Rattle.documents.specs.Documents.{ValueTable}
use Rattle.slices.specs.Small.{Small}
use Rattle.inputs.specs.declared.Texts.{Texts}
use Rattle.inputs.specs.declared.TextRefusal.{TextRefusal}

-- ---- a shape

-- the first words of a table hold a shape, its names in the first `top` words of the pool
pub record ShapeTable (l : Limits) (shapes pool : List ℕ) (words top : ℕ) (s : Shape) : Type 0 where
  pub rows : ShapeRows (take top pool) 0 s (take words shapes)
  pub counted : words ≡ 2 * forms s
  pub ascends : ascending s ≡ true
  pub nests : levels s ≤ l.nesting
  pub within : top ≤ length pool
  pub small : top < 65536

-- the tables have room for this text, if it is short enough to be read, behind the first `top` words of the pool
pub record ShapeRoom (text : Bytes) (shapes pool : List ℕ) (top : ℕ) (l : Limits) : Type 0 where
  pub rows : shape_words l (length text) ≤ length shapes
  pub names : top + name_words l (length text) ≤ length pool
  pub low : top ≤ 16384
  pub small : Small l

-- the text is a shape, which the tables hold; what the pool p had before `top` is kept in p'
pub record ShapePasses (l : Limits) (text : Bytes) (p shapes' p' : List ℕ) (top words top' : ℕ) : Type 0 where
  pub shape : Shape
  pub judged : (k : ℕ) → judge_text k l read_shape text ≡ passed shape
  pub table : ShapeTable l shapes' p' words top' shape
  pub grows : top ≤ top'
  pub front : take top p' ≡ take top p

abbrev pub ShapeOutcome : Limits → Bytes → (p shapes' p' : List ℕ) (top : ℕ) → std.Result Extent Refusal → Type 0
ShapeOutcome l text p shapes' p' top (Ok e) = ShapePasses l text p shapes' p' top e.words e.top
ShapeOutcome l text p shapes' p' top (Err r) =
    (k : ℕ) → judge_text k l read_shape text ≡ stopped (refusal (number_of r.cause) k r.place)

pub record JudgesShape (l : Limits) (text : Bytes) (p shapes' p' : List ℕ) (top : ℕ) (r : std.Result Extent Refusal)
    : Type 0 where
  pub answer : ShapeOutcome l text p shapes' p' top r
  pub kept : length p' ≡ length p

-- ---- the first text of two: its names take no more words than one text's can

pub record JudgesFirst (l : Limits) (text : Bytes) (p shapes' p' : List ℕ) (r : std.Result Extent Refusal) : Type 0 where
  pub answer : ShapeOutcome l text p shapes' p' 0 r
  pub low : (e : Extent) → r ≡ Ok e → e.top ≤ name_words l (length text)

-- ---- a reader, which is always the first text

-- the first words of a table hold a reader, its names and texts in the first `top` words of the pool
pub record ReaderTable (l : Limits) (forms pool : List ℕ) (words top : ℕ) (r : Result) : Type 0 where
  pub rows : FormRows (take top pool) 1 0 r (take words forms)
  pub counted : words ≡ 3 * result_forms r
  pub few : result_forms r ≤ l.values
  pub nests : result_levels r ≤ l.nesting
  pub names_once : proper r ≡ true
  pub good : GoodReader r
  pub within : top ≤ length pool
  pub small : top < 65536

-- the tables have room for this text, if it is short enough to be read
pub record ReaderRoom (text : Bytes) (forms pool : List ℕ) (l : Limits) : Type 0 where
  pub rows : reader_words l (length text) ≤ length forms
  pub texts : reader_texts l (length text) ≤ length pool
  pub small : Small l

-- the text is a reader, which the tables hold; it takes no more of the pool than a reader can
pub record ReaderPasses (l : Limits) (text : Bytes) (forms' p' : List ℕ) (words top : ℕ) : Type 0 where
  pub reader : Result
  pub judged : (k : ℕ) → judge_text k l read_reader text ≡ passed reader
  pub table : ReaderTable l forms' p' words top reader
  pub low : top ≤ reader_texts l (length text)

abbrev pub ReaderOutcome : Limits → Bytes → (forms' p' : List ℕ) → std.Result Extent Refusal → Type 0
ReaderOutcome l text forms' p' (Ok e) = ReaderPasses l text forms' p' e.words e.top
ReaderOutcome l text forms' p' (Err r) =
    (k : ℕ) → judge_text k l read_reader text ≡ stopped (refusal (number_of r.cause) k r.place)

pub record JudgesReader (l : Limits) (text : Bytes) (forms' p' : List ℕ) (r : std.Result Extent Refusal) : Type 0 where
  pub answer : ReaderOutcome l text forms' p' r

-- ---- both

-- both texts passed, and the tables hold what they mean
pub record BothPass
    {A B : Type 0} (l : Limits) (read : Reading A) (s : Bytes) (read' : Reading B) (t : Bytes) (Held : A → B → Type 0) : Type 0 where
  pub first : A
  pub second : B
  pub judged : judge_both l read s read' t ≡ passed (first, second)
  pub held : Held first second

abbrev pub BothOutcome
    : {A B : Type 0} → Limits → Reading A → Bytes → Reading B → Bytes → (ℕ → ℕ → ℕ → A → B → Type 0)
    → std.Result Texts TextRefusal → Type 0
BothOutcome l read s read' t Held (Ok x) = BothPass l read s read' t (Held x.first x.second x.top)
BothOutcome l read s read' t Held (Err r) =
    judge_both l read s read' t ≡ stopped (refusal (number_of r.refusal.cause) r.text r.refusal.place)

pub record JudgesBoth
    {A B : Type 0} (l : Limits) (read : Reading A) (s : Bytes) (read' : Reading B) (t : Bytes)
    (Held : ℕ → ℕ → ℕ → A → B → Type 0) (r : std.Result Texts TextRefusal) : Type 0 where
  pub answer : BothOutcome l read s read' t Held r

-- ---- a shape and a document

pub record ShapeDocumentSlices (shape document : Bytes) (shapes nodes pool : List ℕ) (l : Limits) : Type 0 where
  pub long
      : slices_short (for_shape_document l (length shape) (length document)) (length shapes ∷ length nodes ∷ length pool ∷ [])
      ≡ false
  pub small : Small l

pub record ShapeDocumentHeld (l : Limits) (shapes nodes pool : List ℕ) (a b top : ℕ) (s : Shape) (v : Value) : Type 0 where
  pub shape : ShapeTable l shapes pool a top s
  pub value : ValueTable nodes pool b top v

-- ---- two shapes

pub record TwoShapesSlices (one two : Bytes) (shapes others pool : List ℕ) (l : Limits) : Type 0 where
  pub long
      : slices_short (for_two_shapes l (length one) (length two)) (length shapes ∷ length others ∷ length pool ∷ []) ≡ false
  pub small : Small l

pub record TwoShapesHeld (l : Limits) (shapes others pool : List ℕ) (a b top : ℕ) (s t : Shape) : Type 0 where
  pub one : ShapeTable l shapes pool a top s
  pub other : ShapeTable l others pool b top t

-- ---- a reader and a shape

pub record ReaderShapeSlices (reader shape : Bytes) (forms shapes pool : List ℕ) (l : Limits) : Type 0 where
  pub rows : reader_words l (length reader) ≤ length forms
  pub shape_rows : shape_words l (length shape) ≤ length shapes
  pub texts : reader_texts l (length reader) + name_words l (length shape) ≤ length pool
  pub small : Small l

pub record ReaderShapeHeld (l : Limits) (forms shapes pool : List ℕ) (a b top : ℕ) (r : Result) (s : Shape) : Type 0 where
  pub reader : ReaderTable l forms pool a top r
  pub shape : ShapeTable l shapes pool b top s

-- ---- a reader and a document

pub record ReaderDocumentSlices (reader document : Bytes) (forms nodes pool : List ℕ) (l : Limits) : Type 0 where
  pub rows : reader_words l (length reader) ≤ length forms
  pub value_rows : value_words l (length document) ≤ length nodes
  pub texts : reader_texts l (length reader) + text_words l (length document) ≤ length pool
  pub small : Small l

pub record ReaderDocumentHeld (l : Limits) (forms nodes pool : List ℕ) (a b top : ℕ) (r : Result) (v : Value) : Type 0 where
  pub reader : ReaderTable l forms pool a top r
  pub value : ValueTable nodes pool b top v
