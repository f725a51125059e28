-- Looking a member of a shape up by its name. Assumes nothing.
use Rattle.std.specs.Prelude.{ℕ, ◌+◌, ◌/◌, ◌%◌, ◌<◌, ◌≡◌, true, List, length, take, Option, Some, None}
use Rattle.std.proofs.Math.Option.{none, some}
use Rattle.definitions.specs.Bytes.{Bytes, same}
use Rattle.definitions.specs.Shape.{Shape, Fields, no_fields, field, find}
use Rattle.pool.specs.Pool.{text_in}
use Rattle.shapes.specs.Shapes.{Stands, FieldsStand}

-- the members fs stand in the table from a row up to an end, their names in p, the used part of the pool: a reference has
-- 16 bits for a name's first word
pub record Listed (shapes pool : List ℕ) (row end : ℕ) (p : List ℕ) (fs : Fields) : Type 0 where
  pub stand : FieldsStand shapes p row end fs
  pub front : take (length p) pool ≡ p
  pub small : length p < 65536

-- some members do
pub record SomeListed (shapes pool : List ℕ) (row end : ℕ) : Type 0 where
  pub used : List ℕ
  pub fields : Fields
  pub listed : Listed shapes pool row end used fields

-- some of the members are the last ones of them all
pub data Last : (fs back : Fields) → Type 0 where
  all_of : {fs : Fields} → Last fs fs
  behind_first : {n : Bytes} {s : Shape} {fs back : Fields} → Last fs back → Last (field n s fs) back

-- the member of name t stands at a row, before the end of all: the first of the last ones, which stand from there on
pub record Found_at (shapes p : List ℕ) (end : ℕ) (t : Bytes) (fs : Fields) (row : ℕ) : Type 0 where
  pub name : ℕ
  pub shape : Shape
  pub found : find t fs ≡ some shape
  pub stands : Stands shapes p row name shape
  pub before : row < end
  pub label : Bytes
  pub others : Fields
  pub alike : same t label ≡ true
  pub last : Last fs (field label shape others)
  pub stand : FieldsStand shapes p row end (field label shape others)

-- what the answer to a search for the name t tells of the members fs
abbrev pub Tells : (shapes p : List ℕ) (end : ℕ) (t : Bytes) (fs : Fields) → Option ℕ → Type 0
Tells shapes p end t fs (Some row) = Found_at shapes p end t fs row
Tells shapes p end t fs None = find t fs ≡ none

-- the member among those listed that has the name at a reference
abbrev pub Names : (shapes : List ℕ) (from end : ℕ) (pool : List ℕ) (k : ℕ) → Option ℕ → Type 0
Names shapes from end pool k r =
    (p : List ℕ) (fs : Fields) → Listed shapes pool from end p fs → Tells shapes p end (text_in pool (k % 65536) (k / 65536)) fs r

-- ---- how many

-- some members stand in the table from a row up to an end
pub record SomeStand (shapes : List ℕ) (row end : ℕ) : Type 0 where
  pub used : List ℕ
  pub fields : Fields
  pub stand : FieldsStand shapes used row end fields

-- how many members there are
unfoldable pub field_count : Fields → ℕ
field_count no_fields = 0
field_count (field n s fs) = field_count fs + 1
