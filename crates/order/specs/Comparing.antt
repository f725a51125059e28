-- What comparing two shapes asks and answers: of shapes that two tables hold, the names of both in one pool. Assumes nothing.
use Rattle.std.specs.Prelude.{ℕ, ◌+◌, ◌/◌, ◌%◌, ◌≤◌, ◌≡◌, Bool, true, ◌||◌, List, get_or}
use Rattle.definitions.specs.Bytes.{found}
use Rattle.definitions.specs.Shape.{Shape, Fields, find, element_of, record_of, levels, levels_fields}
use Rattle.definitions.specs.Order.{kinds_in, lacked_have_null, below, below_element, below_record, below_fields}
use Rattle.pool.specs.Pool.{text_in}
use Rattle.shapes.specs.Shapes.{has_bit}
use Rattle.shapes.specs.Held.{HoldsShape, HoldsFields}

-- ---- what is asked

-- two shapes, the first nested no deeper than what is left
pub record ShapesAsked (first : List ℕ) (a : ℕ) (second : List ℕ) (b : ℕ) (pool : List ℕ) (left : ℕ) : Type 0 where
  pub shape : Shape
  pub held : HoldsShape first pool a shape
  pub other : Shape
  pub holds : HoldsShape second pool b other
  pub deep : levels shape ≤ left

-- and the first one's kinds are all in the second
pub record PartsAsked (first : List ℕ) (a : ℕ) (second : List ℕ) (b : ℕ) (pool : List ℕ) (left : ℕ) : Type 0 where
  pub asked : ShapesAsked first a second b pool left
  pub kinds : kinds_in asked.shape asked.other ≡ true

-- the members of two shapes
pub record ListedAsked (first : List ℕ) (from to : ℕ) (second : List ℕ) (at end : ℕ) (pool : List ℕ) : Type 0 where
  pub fields : Fields
  pub held : HoldsFields first pool from to fields
  pub others : Fields
  pub holds : HoldsFields second pool at end others

pub record FieldsAsked (first : List ℕ) (from to : ℕ) (second : List ℕ) (at end : ℕ) (pool : List ℕ) (left : ℕ) : Type 0 where
  pub asked : ListedAsked first from to second at end pool
  pub deep : levels_fields asked.fields ≤ left

-- ---- what is answered

abbrev pub ShapesTold : (first : List ℕ) (a : ℕ) (second : List ℕ) (b : ℕ) (pool : List ℕ) → Bool → Type 0
ShapesTold first a second b pool r =
    (s : Shape) → HoldsShape first pool a s → (t : Shape) → HoldsShape second pool b t → r ≡ below s t

abbrev pub ElementTold : (first : List ℕ) (a : ℕ) (second : List ℕ) (b : ℕ) (pool : List ℕ) → Bool → Type 0
ElementTold first a second b pool r =
    (s : Shape) → HoldsShape first pool a s → (t : Shape) → HoldsShape second pool b t → kinds_in s t ≡ true
    → r ≡ below_element (element_of s) (element_of t)

abbrev pub RecordTold : (first : List ℕ) (a : ℕ) (second : List ℕ) (b : ℕ) (pool : List ℕ) → Bool → Type 0
RecordTold first a second b pool r =
    (s : Shape) → HoldsShape first pool a s → (t : Shape) → HoldsShape second pool b t → kinds_in s t ≡ true
    → r ≡ below_record (record_of s) (record_of t)

abbrev pub FieldsTold : (first : List ℕ) (from to : ℕ) (second : List ℕ) (at end : ℕ) (pool : List ℕ) → Bool → Type 0
FieldsTold first from to second at end pool r =
    (fs : Fields) → HoldsFields first pool from to fs → (gs : Fields) → HoldsFields second pool at end gs → r ≡ below_fields fs gs

abbrev pub NullsTold : (first : List ℕ) (from to : ℕ) (second : List ℕ) (at end : ℕ) (pool : List ℕ) → Bool → Type 0
NullsTold first from to second at end pool r =
    (fs : Fields) → HoldsFields first pool from to fs → (gs : Fields) → HoldsFields second pool at end gs → r ≡ lacked_have_null fs gs

-- ---- names

-- whether a member of the second shape is one of the first's or has null
abbrev pub Lacks : (first : List ℕ) (from to : ℕ) (second : List ℕ) (row : ℕ) (pool : List ℕ) → Bool → Type 0
Lacks first from to second row pool r =
    (fs : Fields) → HoldsFields first pool from to fs
    → r
    ≡ (found (find (text_in pool (get_or second (row + 1) 0 % 65536) (get_or second (row + 1) 0 / 65536)) fs)
    || has_bit (get_or second row 0 % 128) 1)
