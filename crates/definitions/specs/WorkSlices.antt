-- The work slices that each operation asks for, in words, over the limits and the lengths of its texts; what is published is
-- what the longest texts ask for. `docs/WORK-SLICES.md` says why each length suffices. Assumes nothing.
use Rattle.std.specs.Prelude.{ℕ, ◌+◌, ◌-◌, ◌*◌, ◌/◌, min, max, List, [], ◌∷◌}
use Rattle.definitions.specs.declared.Limits.{Limits}

-- ---- what one text asks for

-- the forms of a shape that grows, two words each
abbrev pub form_words : Limits → ℕ
form_words l = 2 * l.values

-- the most forms that are read of a shape text of n bytes: each but the last takes seven bytes or more, and the last a bracket
abbrev pub most_forms : Limits → (n : ℕ) → ℕ
most_forms l n = min l.values ((min l.bytes n + 6) / 7)

-- the forms of a shape text of n bytes, two words each
abbrev pub shape_words : Limits → (n : ℕ) → ℕ
shape_words l n = 2 * most_forms l n

-- the names of a shape text of n bytes, eight decoded bytes a word
abbrev pub name_words : Limits → (n : ℕ) → ℕ
name_words l n = (min l.bytes n + 6) / 8

-- the most values that are read of a document of n bytes: each takes two bytes or more, but for what is open around the last
abbrev pub most_values : Limits → (n : ℕ) → ℕ
most_values l n = min l.values ((min l.bytes n + l.nesting) / 2)

-- the values of a document of n bytes, three words each
abbrev pub value_words : Limits → (n : ℕ) → ℕ
value_words l n = 3 * most_values l n

-- the texts and names of a document of n bytes, eight decoded bytes a word
abbrev pub text_words : Limits → (n : ℕ) → ℕ
text_words l n = (min l.bytes n + 8 * most_values l n - 2) / 8

-- the most forms that are read of a reader of n bytes: each but the last takes a bracket and a word of two bytes or more; an empty one
-- is read as one form
abbrev pub most_reader_forms : Limits → (n : ℕ) → ℕ
most_reader_forms l n = min l.values (max 1 ((min l.bytes n + 2) / 3))

-- the forms of a reader of n bytes, three words each
abbrev pub reader_words : Limits → (n : ℕ) → ℕ
reader_words l n = 3 * most_reader_forms l n

-- the names and texts of a reader of n bytes, eight decoded bytes a word
abbrev pub reader_texts : Limits → (n : ℕ) → ℕ
reader_texts l n = (min l.bytes n + 5 * most_reader_forms l n + 6) / 8

-- what is bound while a reader is checked or run, a word each
abbrev pub bound_words : Limits → ℕ
bound_words l = l.nesting

-- the values of a result, three words each
abbrev pub result_words : Limits → ℕ
result_words l = 3 * l.values

-- ---- what the texts of an operation ask for, by their lengths

-- a document: nodes, pool
abbrev pub for_document : Limits → (document : ℕ) → List ℕ
for_document l n = value_words l n ∷ text_words l n ∷ []

-- a shape and a document: shapes, nodes, pool
abbrev pub for_shape_document : Limits → (shape document : ℕ) → List ℕ
for_shape_document l n m = shape_words l n ∷ value_words l m ∷ (name_words l n + text_words l m) ∷ []

-- the same, where the shape grows
abbrev pub for_grown_document : Limits → (shape document : ℕ) → List ℕ
for_grown_document l n m = form_words l ∷ value_words l m ∷ (name_words l n + text_words l m) ∷ []

-- two shapes: shapes, others, pool
abbrev pub for_two_shapes : Limits → (first second : ℕ) → List ℕ
for_two_shapes l n m = shape_words l n ∷ shape_words l m ∷ (name_words l n + name_words l m) ∷ []

-- the same, where the first grows
abbrev pub for_grown_shapes : Limits → (first second : ℕ) → List ℕ
for_grown_shapes l n m = form_words l ∷ shape_words l m ∷ (name_words l n + name_words l m) ∷ []

-- a reader and a shape: forms, shapes, results, bindings, pool
abbrev pub for_reader_shape : Limits → (reader shape : ℕ) → List ℕ
for_reader_shape l n m = reader_words l n ∷ shape_words l m ∷ form_words l ∷ bound_words l ∷ (reader_texts l n + name_words l m) ∷ []

-- a reader and a document: forms, nodes, results, bindings, pool
abbrev pub for_reader_document : Limits → (reader document : ℕ) → List ℕ
for_reader_document l n m =
    reader_words l n ∷ value_words l m ∷ result_words l ∷ bound_words l ∷ (reader_texts l n + text_words l m) ∷ []

-- ---- what each operation publishes; `admits` and `below` the same as `infer` and `join`

abbrev pub plain_slices : Limits → List ℕ
plain_slices l = for_document l l.bytes

abbrev pub infer_slices : Limits → List ℕ
infer_slices l = for_grown_document l l.bytes l.bytes

abbrev pub admits_slices : Limits → List ℕ
admits_slices l = for_grown_document l l.bytes l.bytes

abbrev pub join_slices : Limits → List ℕ
join_slices l = for_grown_shapes l l.bytes l.bytes

abbrev pub below_slices : Limits → List ℕ
below_slices l = for_grown_shapes l l.bytes l.bytes

abbrev pub check_slices : Limits → List ℕ
check_slices l = for_reader_shape l l.bytes l.bytes

abbrev pub run_slices : Limits → List ℕ
run_slices l = for_reader_document l l.bytes l.bytes
