-- What `read_shape` answers: what the definitions come to, with the shape in a shape table. Assumes nothing.
use Rattle.std.specs.Prelude.{ℕ, ◌+◌, ◌*◌, ◌≤◌, ◌<◌, ◌≡◌, List, length, take, Result, Ok, Err}
use Rattle.definitions.specs.declared.Limits.{Limits}
use Rattle.definitions.specs.Bytes.{Bytes}
use Rattle.definitions.specs.Outcome.{ok}
use Rattle.definitions.specs.Shape.{Shape, forms}
use Rattle.definitions.specs.ShapeText.{read_shape}
use Rattle.shapes.specs.Shapes.{ShapeRows}
use Rattle.reading.specs.declared.Extent.{Extent}
use Rattle.reading.specs.declared.Refusal.{Refusal}
use Rattle.reading.specs.Refusals.{refused_as}

-- the tables have room for a shape text of so many shapes, and their words for what is said of it
pub record Tables (text : Bytes) (shapes pool : List ℕ) (top values : ℕ) : Type 0 where
  -- two words a shape
  pub rows : 2 * values ≤ length shapes
  -- the names behind word `top`: a word border may cost seven bytes a name, which its quotes and the word `member` pay for.
  -- A text whose first byte is a quote is decoded too, before it is refused; the quote itself is not
  pub texts : 8 * top + length text ≤ 8 * length pool + 1
  pub short : length text ≤ 65536
  pub few : values ≤ 32768
  -- a reference has 16 bits for a text's first word
  pub small : 8 * top + length text < 524288

-- the text is a shape, which the first words of the table hold, with names between words `top` and `top'` of the pool p' that was p
pub record ShapeHeld (l : Limits) (text : Bytes) (shapes p p' : List ℕ) (top words top' : ℕ) : Type 0 where
  pub form : Shape
  pub read : read_shape l text ≡ ok form
  pub held : ShapeRows (take top' p') 0 form (take words shapes)
  pub counted : words ≡ 2 * forms form
  pub grows : top ≤ top'
  pub within : top' ≤ length p'
  pub small : top' < 65536
  -- the texts before are kept
  pub front : take top p' ≡ take top p

abbrev pub ShapeAnswer : Limits → Bytes → (shapes p p' : List ℕ) → ℕ → Result Extent Refusal → Type 0
ShapeAnswer l text shapes p p' top (Ok e) = ShapeHeld l text shapes p p' top e.words e.top
ShapeAnswer l text shapes p p' top (Err r) = read_shape l text ≡ refused_as r

-- the answer r, and the tables that were shapes and pool
pub record ReadsShape
    (l : Limits) (text : Bytes) (shapes pool shapes' pool' : List ℕ) (top : ℕ) (r : Result Extent Refusal) : Type 0 where
  pub answer : ShapeAnswer l text shapes' pool pool' top r
  pub shapes_kept : length shapes' ≡ length shapes
  pub pool_kept : length pool' ≡ length pool
