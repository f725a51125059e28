-- Behind the prelude the limits are in range, and lent work slices long enough for every text; of a longer table only as much is
-- handed on as may be taken. Assumes nothing.
use Rattle.std.specs.Prelude.{Result, Ok}
use Rattle.reading.specs.declared.Cause.{Cause}
use Prim.Native.Nat.{ℕ, ◌+◌, ◌*◌, ◌≤◌}
use native.Mathlib.Omega.{arith}
use mathlib.Core.Path.{◌≡◌}
use mathlib.Core.Bool.{false}
use mathlib.Core.List.{List, [], ◌∷◌}
use lib.ListN.{length, take}
use lib.Seq.{length-take-le}
use Rattle.definitions.specs.declared.Limits.{Limits}
use Rattle.definitions.specs.Bytes.{Bytes}
use Rattle.definitions.specs.Operations.{slices_short}
use Rattle.definitions.specs.WorkSlices.{form_words, shape_words, name_words, value_words, text_words, plain_slices, infer_slices, join_slices}
use Rattle.definitions.specs.WorkSlices.{for_grown_document, for_grown_shapes}
use Rattle.definitions.specs.WorkSlices.{reader_words, reader_texts, bound_words, result_words, check_slices, run_slices}
use Rattle.slices.specs.Small.{Small, range_small}
use Rattle.slices.specs.Long.{three_long, long_three, long_for_document, long_for_grown_document, long_for_grown_shapes}
use Rattle.slices.specs.Long.{shapes_most, values_most, read_in_grown_document, read_in_grown_shapes}
use Rattle.slices.specs.Long.{five_long, long_five, long_for_reader_shape, long_for_reader_document}
use Rattle.slices.specs.Prelude.{Before, none_before}
use Rattle.inputs.specs.Inputs.{ShapeDocumentSlices, TwoShapesSlices}
use Rattle.perform.specs.Perform.{DocumentSlices, GrownDocumentSlices, GrownShapesSlices, CheckSlices, RunSlices}

-- n is the number of what goes before the texts
module _ {l : Limits} {n : Result (Unit {0}) Cause} (z : n ≡ Ok tt) where
  pub small_at : {published lent : List ℕ} → Before l published lent n → Small l
  small_at b = range_small (none_before b z).0

  long_at : {published lent : List ℕ} → Before l published lent n → slices_short published lent ≡ false
  long_at b = (none_before b z).1

  module _ (nodes pool : List ℕ) (b : Before l (plain_slices l) (length nodes ∷ length pool ∷ []) n) where
    pub for_one : (document : Bytes) → DocumentSlices document nodes pool l
    for_one document =
        record { long = long_for_document l (length nodes) (length pool) (length document) (long_at b); small = small_at b }

  module _ (shapes nodes pool : List ℕ) (b : Before l (infer_slices l) (length shapes ∷ length nodes ∷ length pool ∷ []) n) where
    -- the first words of the table
    pub enough : 2 * l.values ≤ length shapes
    enough =
        (long_three (form_words l) (value_words l l.bytes) (name_words l l.bytes + text_words l l.bytes) (length shapes)
        (length nodes) (length pool) (long_at b)).0

    module _ (shape document : Bytes) where
      grown
          : slices_short (for_grown_document l (length shape) (length document)) (length shapes ∷ length nodes ∷ length pool ∷ []) ≡ false
      grown = long_for_grown_document l (length shapes) (length nodes) (length pool) (length shape) (length document) (long_at b)

      pub for_both : ShapeDocumentSlices shape document shapes nodes pool l
      for_both =
          record {
            long = read_in_grown_document l (length shapes) (length nodes) (length pool) (length shape) (length document) grown;
            small = small_at b;
          }

      pub for_cut : GrownDocumentSlices shape document (take (2 * l.values) shapes) nodes pool l
      for_cut =
          let (h, g, f) =
          long_three (form_words l) (value_words l (length document)) (name_words l (length shape) + text_words l (length document))
          (length shapes) (length nodes) (length pool) grown in
          record {
            long =
                three_long (form_words l) (value_words l (length document)) (name_words l (length shape) + text_words l (length document))
                (length (take (2 * l.values) shapes)) (length nodes) (length pool) (omega (arith, length-take-le (2 * l.values) shapes enough)) g f;
            small = small_at b;
          }

  module _ (shapes others pool : List ℕ) (b : Before l (join_slices l) (length shapes ∷ length others ∷ length pool ∷ []) n) where
    pub enough_pair : 2 * l.values ≤ length shapes
    enough_pair =
        (long_three (form_words l) (shape_words l l.bytes) (name_words l l.bytes + name_words l l.bytes) (length shapes)
        (length others) (length pool) (long_at b)).0

    module _ (one two : Bytes) where
      grown_pair : slices_short (for_grown_shapes l (length one) (length two)) (length shapes ∷ length others ∷ length pool ∷ []) ≡ false
      grown_pair = long_for_grown_shapes l (length shapes) (length others) (length pool) (length one) (length two) (long_at b)

      pub for_pair : TwoShapesSlices one two shapes others pool l
      for_pair =
          record {
            long = read_in_grown_shapes l (length shapes) (length others) (length pool) (length one) (length two) grown_pair;
            small = small_at b;
          }

      pub for_cut_pair : GrownShapesSlices one two (take (2 * l.values) shapes) others pool l
      for_cut_pair =
          let (h, g, f) =
          long_three (form_words l) (shape_words l (length two)) (name_words l (length one) + name_words l (length two)) (length shapes)
          (length others) (length pool) grown_pair in
          record {
            long =
                three_long (form_words l) (shape_words l (length two)) (name_words l (length one) + name_words l (length two))
                (length (take (2 * l.values) shapes)) (length others) (length pool) (omega (arith, length-take-le (2 * l.values) shapes enough_pair))
                g f;
            small = small_at b;
          }

  -- of the table of what is read, k words: as much as the longest text takes
  module _ (forms shapes results bindings pool : List ℕ)
      (b : Before l (check_slices l) (length forms ∷ length shapes ∷ length results ∷ length bindings ∷ length pool ∷ []) n)
      {k : ℕ} (q : k ≡ shape_words l l.bytes) where
    pub enough_checked : (k ≤ length shapes) × (2 * l.values ≤ length results)
    enough_checked =
        let (h, g, f, i, j) =
        long_five (reader_words l l.bytes) (shape_words l l.bytes) (form_words l) (bound_words l)
        (reader_texts l l.bytes + name_words l l.bytes) (length forms) (length shapes) (length results) (length bindings) (length pool)
        (long_at b) in
        (rw q g, f)

    module _ (reader shape : Bytes) where
      pub for_cut_check : CheckSlices reader shape forms (take k shapes) (take (2 * l.values) results) bindings pool l
      for_cut_check =
          let (h, g, f, i, j) =
          long_five (reader_words l (length reader)) (shape_words l (length shape)) (form_words l) (bound_words l)
          (reader_texts l (length reader) + name_words l (length shape)) (length forms) (length shapes) (length results) (length bindings)
          (length pool)
          (long_for_reader_shape l (length forms) (length shapes) (length results) (length bindings) (length pool) (length reader)
          (length shape) (long_at b)) in
          record {
            long =
                five_long (reader_words l (length reader)) (shape_words l (length shape)) (form_words l) (bound_words l)
                (reader_texts l (length reader) + name_words l (length shape)) (length forms) (length (take k shapes))
                (length (take (2 * l.values) results)) (length bindings) (length pool) h
                (omega (arith, length-take-le k shapes enough_checked.0, q, shapes_most l (length shape)))
                (omega (arith, length-take-le (2 * l.values) results enough_checked.1)) i j;
            small = small_at b;
          }

  module _ (forms nodes results bindings pool : List ℕ)
      (b : Before l (run_slices l) (length forms ∷ length nodes ∷ length results ∷ length bindings ∷ length pool ∷ []) n)
      {k : ℕ} (q : k ≡ value_words l l.bytes) where
    pub enough_read : (k ≤ length nodes) × (3 * l.values ≤ length results)
    enough_read =
        let (h, g, f, i, j) =
        long_five (reader_words l l.bytes) (value_words l l.bytes) (result_words l) (bound_words l)
        (reader_texts l l.bytes + text_words l l.bytes) (length forms) (length nodes) (length results) (length bindings) (length pool)
        (long_at b) in
        (rw q g, f)

    module _ (reader document : Bytes) where
      pub for_cut_run : RunSlices reader document forms (take k nodes) (take (3 * l.values) results) bindings pool l
      for_cut_run =
          let (h, g, f, i, j) =
          long_five (reader_words l (length reader)) (value_words l (length document)) (result_words l) (bound_words l)
          (reader_texts l (length reader) + text_words l (length document)) (length forms) (length nodes) (length results) (length bindings)
          (length pool)
          (long_for_reader_document l (length forms) (length nodes) (length results) (length bindings) (length pool) (length reader)
          (length document) (long_at b)) in
          record {
            long =
                five_long (reader_words l (length reader)) (value_words l (length document)) (result_words l) (bound_words l)
                (reader_texts l (length reader) + text_words l (length document)) (length forms) (length (take k nodes))
                (length (take (3 * l.values) results)) (length bindings) (length pool) h
                (omega (arith, length-take-le k nodes enough_read.0, q, values_most l (length document)))
                (omega (arith, length-take-le (3 * l.values) results enough_read.1)) i j;
            small = small_at b;
          }
