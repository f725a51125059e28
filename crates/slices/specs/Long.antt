-- Work slices that are long enough: in parts, and for shorter texts than those that they are published for. Assumes nothing.
use Rattle.std.specs.Prelude.{ℕ, ◌+◌, ◌-◌, ◌*◌, ◌/◌, ◌≤◌, min, ◌≡◌, ◌||◌, [], ◌∷◌, ltb}
use Rattle.std.proofs.Common.{le_trans, add-le-add, arith}
use Rattle.std.proofs.Math.Path.{refl}
use Rattle.std.proofs.Math.Bool.{false}
use Rattle.definitions.specs.declared.Limits.{Limits}
use Rattle.definitions.specs.Operations.{slices_short}
use Rattle.definitions.specs.WorkSlices.{form_words, shape_words, name_words, most_values, value_words, text_words, for_document}
use Rattle.definitions.specs.WorkSlices.{for_shape_document, for_grown_document, for_two_shapes, for_grown_shapes, plain_slices, infer_slices}
use Rattle.definitions.specs.WorkSlices.{join_slices, most_reader_forms, reader_words, reader_texts, bound_words, result_words, for_reader_shape}
use Rattle.definitions.specs.WorkSlices.{for_reader_document, check_slices, run_slices}
use Rattle.laws.specs.Tests.{ltb_le, le-ltb}
use Rattle.laws.specs.Bools.{or_false_left, or_false_right}
use Rattle.slices.specs.Small.{Small}

-- ---- in parts

module _ (a b x y : ℕ) where
  pub two_long : a ≤ x → b ≤ y → slices_short (a ∷ b ∷ []) (x ∷ y ∷ []) ≡ false
  unfolding slices_short
  two_long h g = rw (le-ltb _ _ h, le-ltb _ _ g) refl

  pub long_two : slices_short (a ∷ b ∷ []) (x ∷ y ∷ []) ≡ false → (a ≤ x) × (b ≤ y)
  unfolding slices_short
  long_two e =
      let f = or_false_right (ltb x a) (ltb y b || false) e in
      (ltb_le _ _ (or_false_left (ltb x a) (ltb y b || false) e), ltb_le _ _ (or_false_left (ltb y b) false f))

module _ (a b c x y z : ℕ) where
  pub three_long : a ≤ x → b ≤ y → c ≤ z → slices_short (a ∷ b ∷ c ∷ []) (x ∷ y ∷ z ∷ []) ≡ false
  unfolding slices_short
  three_long h g f = rw (le-ltb _ _ h, le-ltb _ _ g, le-ltb _ _ f) refl

  pub long_three : slices_short (a ∷ b ∷ c ∷ []) (x ∷ y ∷ z ∷ []) ≡ false → (a ≤ x) × (b ≤ y) × (c ≤ z)
  unfolding slices_short
  long_three e =
      let (h, g) = long_two b c y z (or_false_right (ltb x a) (slices_short (b ∷ c ∷ []) (y ∷ z ∷ [])) e) in
      (ltb_le _ _ (or_false_left (ltb x a) (slices_short (b ∷ c ∷ []) (y ∷ z ∷ [])) e), h, g)

module _ (a b c d e v w x y z : ℕ) where
  pub five_long
      : a ≤ v → b ≤ w → c ≤ x → d ≤ y → e ≤ z → slices_short (a ∷ b ∷ c ∷ d ∷ e ∷ []) (v ∷ w ∷ x ∷ y ∷ z ∷ []) ≡ false
  unfolding slices_short
  five_long h g f i j = rw (le-ltb _ _ h, le-ltb _ _ g) (three_long c d e x y z f i j)

  pub long_five
      : slices_short (a ∷ b ∷ c ∷ d ∷ e ∷ []) (v ∷ w ∷ x ∷ y ∷ z ∷ []) ≡ false
      → (a ≤ v) × (b ≤ w) × (c ≤ x) × (d ≤ y) × (e ≤ z)
  unfolding slices_short
  long_five q =
      let q' = or_false_right (ltb v a) (slices_short (b ∷ c ∷ d ∷ e ∷ []) (w ∷ x ∷ y ∷ z ∷ [])) q in
      let (f, i, j) = long_three c d e x y z (or_false_right (ltb w b) (slices_short (c ∷ d ∷ e ∷ []) (x ∷ y ∷ z ∷ [])) q') in (
        ltb_le _ _ (or_false_left (ltb v a) (slices_short (b ∷ c ∷ d ∷ e ∷ []) (w ∷ x ∷ y ∷ z ∷ [])) q),
        ltb_le _ _ (or_false_left (ltb w b) (slices_short (c ∷ d ∷ e ∷ []) (x ∷ y ∷ z ∷ [])) q'),
        f,
        i,
        j,
      )

-- ---- what any text asks of the pool at most

module _ (l : Limits) (small : Small l) (n : ℕ) where
  pub texts_bound : text_words l n ≤ 2559
  texts_bound = at _ (most_values l n) (omega (arith, small.bytes, small.values))
    where
      at : (b v : ℕ) → b + 8 * v ≤ 20480 → (b + 8 * v - 2) / 8 ≤ 2559
      at b v h = omega arith

  pub readers_bound : reader_texts l n ≤ 2368
  readers_bound = at _ (most_reader_forms l n) (omega (arith, small.bytes, small.values))
    where
      at : (b v : ℕ) → b + 5 * v ≤ 18944 → (b + 5 * v + 6) / 8 ≤ 2368
      at b v h = omega arith

-- ---- what is published is enough for every text

-- the longest text asks for most
pub shapes_most : (l : Limits) (n : ℕ) → shape_words l n ≤ shape_words l l.bytes
shapes_most l n = omega arith

pub shapes_within : (l : Limits) (n : ℕ) → shape_words l n ≤ form_words l
shapes_within l n = omega arith

names_most : (l : Limits) (n : ℕ) → name_words l n ≤ name_words l l.bytes
names_most l n = omega arith

forms_most : (l : Limits) (n : ℕ) → reader_words l n ≤ reader_words l l.bytes
forms_most l n = omega arith

readers_most : (l : Limits) (n : ℕ) → reader_texts l n ≤ reader_texts l l.bytes
readers_most l n =
    at (min l.bytes n) (min l.bytes l.bytes) (most_reader_forms l n) (most_reader_forms l l.bytes) (omega arith) (omega arith)
  where
    at : (b b' v v' : ℕ) → b ≤ b' → v ≤ v' → (b + 5 * v + 6) / 8 ≤ (b' + 5 * v' + 6) / 8
    at b b' v v' g h = omega arith

pub values_most : (l : Limits) (n : ℕ) → value_words l n ≤ value_words l l.bytes
values_most l n = omega arith

texts_most : (l : Limits) (n : ℕ) → text_words l n ≤ text_words l l.bytes
texts_most l n = at (min l.bytes n) (min l.bytes l.bytes) (most_values l n) (most_values l l.bytes) (omega arith) (omega arith)
  where
    at : (b b' v v' : ℕ) → b ≤ b' → v ≤ v' → (b + 8 * v - 2) / 8 ≤ (b' + 8 * v' - 2) / 8
    at b b' v v' g h = omega arith

module _ (l : Limits) (x y n : ℕ) where
  pub long_for_document : slices_short (plain_slices l) (x ∷ y ∷ []) ≡ false → slices_short (for_document l n) (x ∷ y ∷ []) ≡ false
  long_for_document e =
      let (h, g) = long_two (value_words l l.bytes) (text_words l l.bytes) x y e in
      two_long (value_words l n) (text_words l n) x y (le_trans (values_most l n) h) (le_trans (texts_most l n) g)

module _ (l : Limits) (x y z n m : ℕ) where
  pub long_for_grown_document
      : slices_short (infer_slices l) (x ∷ y ∷ z ∷ []) ≡ false → slices_short (for_grown_document l n m) (x ∷ y ∷ z ∷ []) ≡ false
  long_for_grown_document e =
      let (h, g, f) = long_three (form_words l) (value_words l l.bytes) (name_words l l.bytes + text_words l l.bytes) x y z e in
      three_long (form_words l) (value_words l m) (name_words l n + text_words l m) x y z h (le_trans (values_most l m) g)
      (le_trans (add-le-add (names_most l n) (texts_most l m)) f)

  pub long_for_grown_shapes
      : slices_short (join_slices l) (x ∷ y ∷ z ∷ []) ≡ false → slices_short (for_grown_shapes l n m) (x ∷ y ∷ z ∷ []) ≡ false
  long_for_grown_shapes e =
      let (h, g, f) = long_three (form_words l) (shape_words l l.bytes) (name_words l l.bytes + name_words l l.bytes) x y z e in
      three_long (form_words l) (shape_words l m) (name_words l n + name_words l m) x y z h (le_trans (shapes_most l m) g)
      (le_trans (add-le-add (names_most l n) (names_most l m)) f)

  -- a table in which a shape may grow is long enough to read it
  pub read_in_grown_document
      : slices_short (for_grown_document l n m) (x ∷ y ∷ z ∷ []) ≡ false → slices_short (for_shape_document l n m) (x ∷ y ∷ z ∷ []) ≡ false
  read_in_grown_document e =
      let (h, g, f) = long_three (form_words l) (value_words l m) (name_words l n + text_words l m) x y z e in
      three_long (shape_words l n) (value_words l m) (name_words l n + text_words l m) x y z (le_trans (shapes_within l n) h) g f

  pub read_in_grown_shapes
      : slices_short (for_grown_shapes l n m) (x ∷ y ∷ z ∷ []) ≡ false → slices_short (for_two_shapes l n m) (x ∷ y ∷ z ∷ []) ≡ false
  read_in_grown_shapes e =
      let (h, g, f) = long_three (form_words l) (shape_words l m) (name_words l n + name_words l m) x y z e in
      three_long (shape_words l n) (shape_words l m) (name_words l n + name_words l m) x y z (le_trans (shapes_within l n) h) g f

module _ (l : Limits) (v w x y z n m : ℕ) where
  pub long_for_reader_shape
      : slices_short (check_slices l) (v ∷ w ∷ x ∷ y ∷ z ∷ []) ≡ false
      → slices_short (for_reader_shape l n m) (v ∷ w ∷ x ∷ y ∷ z ∷ []) ≡ false
  long_for_reader_shape e =
      let (h, g, f, i, j) =
      long_five (reader_words l l.bytes) (shape_words l l.bytes) (form_words l) (bound_words l)
      (reader_texts l l.bytes + name_words l l.bytes) v w x y z e in
      five_long (reader_words l n) (shape_words l m) (form_words l) (bound_words l) (reader_texts l n + name_words l m) v w x y z
      (le_trans (forms_most l n) h) (le_trans (shapes_most l m) g) f i (le_trans (add-le-add (readers_most l n) (names_most l m)) j)

  pub long_for_reader_document
      : slices_short (run_slices l) (v ∷ w ∷ x ∷ y ∷ z ∷ []) ≡ false
      → slices_short (for_reader_document l n m) (v ∷ w ∷ x ∷ y ∷ z ∷ []) ≡ false
  long_for_reader_document e =
      let (h, g, f, i, j) =
      long_five (reader_words l l.bytes) (value_words l l.bytes) (result_words l) (bound_words l)
      (reader_texts l l.bytes + text_words l l.bytes) v w x y z e in
      five_long (reader_words l n) (value_words l m) (result_words l) (bound_words l) (reader_texts l n + text_words l m) v w x y z
      (le_trans (forms_most l n) h) (le_trans (values_most l m) g) f i (le_trans (add-le-add (readers_most l n) (texts_most l m)) j)
