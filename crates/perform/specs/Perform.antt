-- What the operations ask of work slices for a document or where a table grows, and what a table that grew holds. Assumes nothing.
use Rattle.std.specs.Prelude.{Option, Some, None, ℕ, ◌≤◌, ◌<◌, ◌≡◌, false, List, [], ◌∷◌, length}
use Rattle.definitions.specs.declared.Limits.{Limits}
use Rattle.definitions.specs.Bytes.{Bytes}
use Rattle.definitions.specs.Shape.{Shape, forms}
use Rattle.definitions.specs.Operations.{slices_short}
use Rattle.definitions.specs.WorkSlices.{for_document, for_grown_document, for_grown_shapes, for_reader_shape, for_reader_document}
use Rattle.shapes.specs.Held.{HoldsShape}
use Rattle.slices.specs.Small.{Small}

pub record DocumentSlices (document : Bytes) (nodes pool : List ℕ) (l : Limits) : Type 0 where
  pub long : slices_short (for_document l (length document)) (length nodes ∷ length pool ∷ []) ≡ false
  pub small : Small l

pub record GrownDocumentSlices (shape document : Bytes) (shapes nodes pool : List ℕ) (l : Limits) : Type 0 where
  pub long
      : slices_short (for_grown_document l (length shape) (length document)) (length shapes ∷ length nodes ∷ length pool ∷ [])
      ≡ false
  pub small : Small l

pub record GrownShapesSlices (one two : Bytes) (shapes others pool : List ℕ) (l : Limits) : Type 0 where
  pub long
      : slices_short (for_grown_shapes l (length one) (length two)) (length shapes ∷ length others ∷ length pool ∷ []) ≡ false
  pub small : Small l

pub record CheckSlices (reader shape : Bytes) (forms shapes results bindings pool : List ℕ) (l : Limits) : Type 0 where
  pub long
      : slices_short (for_reader_shape l (length reader) (length shape))
      (length forms ∷ length shapes ∷ length results ∷ length bindings ∷ length pool ∷ [])
      ≡ false
  pub small : Small l

pub record RunSlices (reader document : Bytes) (forms nodes results bindings pool : List ℕ) (l : Limits) : Type 0 where
  pub long
      : slices_short (for_reader_document l (length reader) (length document))
      (length forms ∷ length nodes ∷ length results ∷ length bindings ∷ length pool ∷ [])
      ≡ false
  pub small : Small l

-- a table that grew holds this shape; one that was full had no room for so many forms
abbrev pub GrowsTo : Shape → Option ℕ → (shapes pool : List ℕ) → Limits → Type 0
GrowsTo u (Some words) shapes pool l = HoldsShape shapes pool 0 u
GrowsTo u None shapes pool l = l.values < forms u

pub record SomeGrown (grown : Option ℕ) (shapes pool : List ℕ) (l : Limits) : Type 0 where
  pub shape : Shape
  pub grows : GrowsTo shape grown shapes pool l
  pub small : length shapes ≤ 65536
