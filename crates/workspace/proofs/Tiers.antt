-- The work slices of the C calls are long enough: those that pass a test of their lengths, and the longest for all texts.
-- Assumes nothing.
use Prim.Native.Nat.{ℕ, ◌+◌, ◌≤◌}
use native.Mathlib.Omega.{arith}
use native.Mathlib.Nat.{add-le-add}
use mathlib.Core.Path.{◌≡◌}
use mathlib.Core.Bool.{false}
use mathlib.Core.List.{List, [], ◌∷◌}
use lib.ListN.{length}
use Rattle.definitions.specs.declared.Limits.{Limits}
use Rattle.definitions.specs.Bytes.{Bytes}
use Rattle.definitions.specs.Operations.{slices_short}
use Rattle.definitions.specs.WorkSlices.{form_words, shape_words, name_words, value_words, text_words}
use Rattle.definitions.specs.WorkSlices.{reader_words, reader_texts, bound_words, result_words}
use Rattle.definitions.specs.WorkSlices.{for_document, for_shape_document, for_grown_document, for_two_shapes, for_grown_shapes}
use Rattle.definitions.specs.WorkSlices.{for_reader_shape, for_reader_document}
use Rattle.slices.specs.Small.{Small}
use Rattle.slices.specs.Long.{two_long, three_long, five_long, texts_bound, readers_bound}
use Rattle.inputs.specs.Inputs.{ShapeDocumentSlices, TwoShapesSlices}
use Rattle.perform.specs.Perform.{DocumentSlices, GrownDocumentSlices, GrownShapesSlices, CheckSlices, RunSlices}

-- ---- what any text asks for at most

module _ (l : Limits) (small : Small l) (n : ℕ) where
  forms_most : form_words l ≤ 1024
  forms_most = omega (arith, small.values)

  shapes_most : shape_words l n ≤ 1024
  shapes_most = omega (arith, small.values)

  names_most : name_words l n ≤ 2048
  names_most = omega (arith, small.bytes)

  values_most : value_words l n ≤ 1536
  values_most = omega (arith, small.values)

  reader_most : reader_words l n ≤ 1536
  reader_most = omega (arith, small.values)

  results_most : result_words l ≤ 1536
  results_most = omega (arith, small.values)

  bound_most : bound_words l ≤ 32
  bound_most = small.nesting

  pub most_document : slices_short (for_document l n) (1536 ∷ 2559 ∷ []) ≡ false
  most_document = two_long (value_words l n) (text_words l n) 1536 2559 values_most (texts_bound l small n)

module _ (l : Limits) (small : Small l) (n m : ℕ) where
  pub most_shape_document : slices_short (for_shape_document l n m) (1024 ∷ 1536 ∷ 4607 ∷ []) ≡ false
  most_shape_document =
      three_long (shape_words l n) (value_words l m) (name_words l n + text_words l m) 1024 1536 4607 (shapes_most l small n)
      (values_most l small m) (add-le-add (names_most l small n) (texts_bound l small m))

  pub most_grown_document : slices_short (for_grown_document l n m) (1024 ∷ 1536 ∷ 4607 ∷ []) ≡ false
  most_grown_document =
      three_long (form_words l) (value_words l m) (name_words l n + text_words l m) 1024 1536 4607 (forms_most l small n)
      (values_most l small m) (add-le-add (names_most l small n) (texts_bound l small m))

  pub most_two_shapes : slices_short (for_two_shapes l n m) (1024 ∷ 1024 ∷ 4096 ∷ []) ≡ false
  most_two_shapes =
      three_long (shape_words l n) (shape_words l m) (name_words l n + name_words l m) 1024 1024 4096 (shapes_most l small n)
      (shapes_most l small m) (add-le-add (names_most l small n) (names_most l small m))

  pub most_grown_shapes : slices_short (for_grown_shapes l n m) (1024 ∷ 1024 ∷ 4096 ∷ []) ≡ false
  most_grown_shapes =
      three_long (form_words l) (shape_words l m) (name_words l n + name_words l m) 1024 1024 4096 (forms_most l small n)
      (shapes_most l small m) (add-le-add (names_most l small n) (names_most l small m))

  pub most_reader_shape : slices_short (for_reader_shape l n m) (1536 ∷ 1024 ∷ 1024 ∷ 32 ∷ 4416 ∷ []) ≡ false
  most_reader_shape =
      five_long (reader_words l n) (shape_words l m) (form_words l) (bound_words l) (reader_texts l n + name_words l m) 1536 1024 1024 32 4416
      (reader_most l small n) (shapes_most l small m) (forms_most l small n) (bound_most l small n)
      (add-le-add (readers_bound l small n) (names_most l small m))

  pub most_reader_document : slices_short (for_reader_document l n m) (1536 ∷ 1536 ∷ 1536 ∷ 32 ∷ 4927 ∷ []) ≡ false
  most_reader_document =
      five_long (reader_words l n) (value_words l m) (result_words l) (bound_words l) (reader_texts l n + text_words l m) 1536 1536 1536 32 4927
      (reader_most l small n) (values_most l small m) (results_most l small n) (bound_most l small n)
      (add-le-add (readers_bound l small n) (texts_bound l small m))

-- ---- slices of tested lengths, and the longest

module _ (l : Limits) (small : Small l) (document : Bytes) (nodes pool : List ℕ) where
  pub held_document
      : {a b : ℕ} → length nodes ≡ a → length pool ≡ b → slices_short (for_document l (length document)) (a ∷ b ∷ []) ≡ false
      → DocumentSlices document nodes pool l
  held_document e f h = record { long = rw (e, f) h; small = small }

  pub longest_document : length nodes ≡ 1536 → length pool ≡ 2559 → DocumentSlices document nodes pool l
  longest_document e f = held_document e f (most_document l small (length document))

module _ (l : Limits) (small : Small l) (shape document : Bytes) (shapes nodes pool : List ℕ) where
  module _ {a b c : ℕ} (e : length shapes ≡ a) (f : length nodes ≡ b) (g : length pool ≡ c) where
    pub held_both
        : slices_short (for_shape_document l (length shape) (length document)) (a ∷ b ∷ c ∷ []) ≡ false
        → ShapeDocumentSlices shape document shapes nodes pool l
    held_both h = record { long = rw (e, f, g) h; small = small }

    pub held_grown
        : slices_short (for_grown_document l (length shape) (length document)) (a ∷ b ∷ c ∷ []) ≡ false
        → GrownDocumentSlices shape document shapes nodes pool l
    held_grown h = record { long = rw (e, f, g) h; small = small }

  module _ (e : length shapes ≡ 1024) (f : length nodes ≡ 1536) (g : length pool ≡ 4607) where
    pub longest_both : ShapeDocumentSlices shape document shapes nodes pool l
    longest_both = held_both e f g (most_shape_document l small (length shape) (length document))

    pub longest_grown : GrownDocumentSlices shape document shapes nodes pool l
    longest_grown = held_grown e f g (most_grown_document l small (length shape) (length document))

module _ (l : Limits) (small : Small l) (one two : Bytes) (shapes others pool : List ℕ) where
  module _ {a b c : ℕ} (e : length shapes ≡ a) (f : length others ≡ b) (g : length pool ≡ c) where
    pub held_pair
        : slices_short (for_two_shapes l (length one) (length two)) (a ∷ b ∷ c ∷ []) ≡ false → TwoShapesSlices one two shapes others pool l
    held_pair h = record { long = rw (e, f, g) h; small = small }

    pub held_grown_pair
        : slices_short (for_grown_shapes l (length one) (length two)) (a ∷ b ∷ c ∷ []) ≡ false
        → GrownShapesSlices one two shapes others pool l
    held_grown_pair h = record { long = rw (e, f, g) h; small = small }

  module _ (e : length shapes ≡ 1024) (f : length others ≡ 1024) (g : length pool ≡ 4096) where
    pub longest_pair : TwoShapesSlices one two shapes others pool l
    longest_pair = held_pair e f g (most_two_shapes l small (length one) (length two))

    pub longest_grown_pair : GrownShapesSlices one two shapes others pool l
    longest_grown_pair = held_grown_pair e f g (most_grown_shapes l small (length one) (length two))

module _ (l : Limits) (small : Small l) (reader shape : Bytes) (forms shapes results bindings pool : List ℕ) where
  pub held_check
      : {a b c d k : ℕ} → length forms ≡ a → length shapes ≡ b → length results ≡ c → length bindings ≡ d → length pool ≡ k
      → slices_short (for_reader_shape l (length reader) (length shape)) (a ∷ b ∷ c ∷ d ∷ k ∷ []) ≡ false
      → CheckSlices reader shape forms shapes results bindings pool l
  held_check e f g i j h = record { long = rw (e, f, g, i, j) h; small = small }

  pub longest_check
      : length forms ≡ 1536 → length shapes ≡ 1024 → length results ≡ 1024 → length bindings ≡ 32 → length pool ≡ 4416
      → CheckSlices reader shape forms shapes results bindings pool l
  longest_check e f g i j = held_check e f g i j (most_reader_shape l small (length reader) (length shape))

module _ (l : Limits) (small : Small l) (reader document : Bytes) (forms nodes results bindings pool : List ℕ) where
  pub held_run
      : {a b c d k : ℕ} → length forms ≡ a → length nodes ≡ b → length results ≡ c → length bindings ≡ d → length pool ≡ k
      → slices_short (for_reader_document l (length reader) (length document)) (a ∷ b ∷ c ∷ d ∷ k ∷ []) ≡ false
      → RunSlices reader document forms nodes results bindings pool l
  held_run e f g i j h = record { long = rw (e, f, g, i, j) h; small = small }

  pub longest_run
      : length forms ≡ 1536 → length nodes ≡ 1536 → length results ≡ 1536 → length bindings ≡ 32 → length pool ≡ 4927
      → RunSlices reader document forms nodes results bindings pool l
  longest_run e f g i j = held_run e f g i j (most_reader_document l small (length reader) (length document))
