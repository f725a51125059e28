-- Words of a table replaced by others in place: what stands behind them moves along. Assumes nothing.
use Rattle.std.specs.Prelude.{ℕ, ◌+◌, ◌*◌, ◌≤◌, ◌<◌, ◌≡◌, List, ◌++◌, length, take, drop}
use Rattle.definitions.specs.Shape.{Shape, forms}
use Rattle.shapes.specs.Shapes.{ShapeRows}
use Rattle.std.specs.Prelude.{Option, Some, None}

-- the first words, as many as are used, moved up by a gap; what stands in the gap is free
pub record Opened (part part' : List ℕ) (used gap : ℕ) : Type 0 where
  pub moved : drop gap part' ≡ take used part ++ drop (used + gap) part
  pub same : length part' ≡ length part

-- the old words from a row on are replaced by these rows, so many more; behind what is used all is free
pub record Replaced (shapes shapes' : List ℕ) (used words row old : ℕ) (rows : List ℕ) : Type 0 where
  pub held : take (used + words) shapes' ≡ take row shapes ++ (rows ++ drop (row + old) (take used shapes))
  pub grown : length rows ≡ old + words
  pub within : used + words ≤ length shapes
  pub same : length shapes' ≡ length shapes

-- the same, where the rows are of a kind
pub record Put (shapes shapes' : List ℕ) (used words row old : ℕ) (Rows : List ℕ → Type 0) : Type 0 where
  pub rows : List ℕ
  pub encoded : Rows rows
  pub replaced : Replaced shapes shapes' used words row old rows

-- the table can't hold as many words in the place of the old ones; what it holds now is free
pub record Over (shapes shapes' : List ℕ) (used old new : ℕ) : Type 0 where
  pub over : length shapes + old < used + new
  pub same : length shapes' ≡ length shapes

-- what an answer means where rows of a kind, so many words, are to stand in the place of the old words from a row on
abbrev pub Puts : (shapes shapes' : List ℕ) (used row old new : ℕ) (Rows : List ℕ → Type 0) → Option ℕ → Type 0
Puts shapes shapes' used row old new Rows (Some words) = Put shapes shapes' used words row old Rows
Puts shapes shapes' used row old new Rows None = Over shapes shapes' used old new

-- the shape s at a row, under the name word m, becomes u
abbrev pub Becomes : (shapes shapes' p : List ℕ) (used row m : ℕ) (s u : Shape) → Option ℕ → Type 0
Becomes shapes shapes' p used row m s u = Puts shapes shapes' used row (2 * forms s) (2 * forms u) (ShapeRows p m u)
