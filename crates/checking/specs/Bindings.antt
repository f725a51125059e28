-- What is bound while a reader is checked: one word a binding, the row of a shape in the shapes table and the kinds that are left of it;
-- null may be among them where the table has none, behind a `field` that read through null.
-- Assumes nothing.
use Rattle.std.specs.Prelude.{ℕ, ◌*◌, ◌+◌, ◌/◌, ◌%◌, ◌≤◌, ◌<◌, ◌≡◌, true, List, length, get_or, take}
use Rattle.definitions.specs.Shape.{Shape, list_of, rec_of, Fields, nothing, element_of, record_of, ascending, levels}
use Rattle.definitions.specs.Checking.{element_shape}
use Rattle.shapes.specs.Shapes.{kind_bits, Stands}
use Rattle.forms.specs.Forms.{slot}

-- s has these kinds, and what they leave of the shape whose rows stand at a row: with list its element, with rec its members
pub record Bound (shapes p : List ℕ) (deep row kinds : ℕ) (s : Shape) : Type 0 where
  pub name : ℕ
  pub base : Shape
  pub stands : Stands shapes p row name base
  pub left : kind_bits s ≡ kinds
  pub element : (a : Shape) → element_of s ≡ list_of a → element_of base ≡ list_of a
  pub members : (fs : Fields) → record_of s ≡ rec_of fs → record_of base ≡ rec_of fs
  pub ascends : ascending base ≡ true
  pub nests : levels base ≤ deep

-- the word of a binding
abbrev pub binding : (row kinds : ℕ) → ℕ
binding row kinds = kinds + 128 * row

-- the shapes of d bindings, innermost first, stand in the first d words
pub record Bindings (shapes p bindings : List ℕ) (deep d : ℕ) (env : List Shape) : Type 0 where
  pub many : length env ≡ d
  pub within : d ≤ length bindings
  pub holds
      : (n : ℕ) → n < d
      → Bound shapes p deep (get_or bindings (slot d n) 0 / 128) (get_or bindings (slot d n) 0 % 128) (get_or env n nothing)

-- the bindings below d are kept
pub record Kept (bindings bindings' : List ℕ) (d : ℕ) : Type 0 where
  pub front : take d bindings' ≡ take d bindings
  pub same : length bindings' ≡ length bindings

-- t is bound as binding d, and those below it are kept
pub record Binds (shapes p bindings bindings' : List ℕ) (deep d : ℕ) (t : Shape) : Type 0 where
  pub kept : Kept bindings bindings' d
  pub bound : Bound shapes p deep (get_or bindings' d 0 / 128) (get_or bindings' d 0 % 128) t

-- a shape stands at a row, with these kinds left of it
pub record SomeBound (shapes : List ℕ) (row kinds : ℕ) : Type 0 where
  pub p : List ℕ
  pub deep : ℕ
  pub shape : Shape
  pub bound : Bound shapes p deep row kinds shape

-- the element of each such shape is bound
abbrev pub BindsElement : (shapes bindings bindings' : List ℕ) (d row kinds : ℕ) → Type 0
BindsElement shapes bindings bindings' d row kinds =
    (p : List ℕ) (deep : ℕ) (s : Shape) → Bound shapes p deep row kinds s
    → Binds shapes p bindings bindings' deep d (element_shape (element_of s))
