-- What a shape table and a pool hold, whatever part of the pool is used. Assumes nothing.
use Rattle.std.specs.Prelude.{ℕ, ◌<◌, ◌≡◌, List, length, take}
use Rattle.definitions.specs.Shape.{Shape, Fields}
use Rattle.shapes.specs.Shapes.{Stands}
use Rattle.shapes.specs.Members.{Listed}

-- the shape s stands in the table from a row on, the names of its members in the pool
pub record HoldsShape (shapes pool : List ℕ) (row : ℕ) (s : Shape) : Type 0 where
  pub used : List ℕ
  pub name : ℕ
  pub stands : Stands shapes used row name s
  -- a reference has 16 bits for a name's first word
  pub front : take (length used) pool ≡ used
  pub small : length used < 65536

-- the members fs stand there from a row up to an end
pub record HoldsFields (shapes pool : List ℕ) (row end : ℕ) (fs : Fields) : Type 0 where
  pub used : List ℕ
  pub listed : Listed shapes pool row end used fs
