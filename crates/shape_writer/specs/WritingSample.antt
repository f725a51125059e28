-- A sample: the table of the shape of the paper's S1 as numbers, so that what `deliver` asks can be met. Assumes nothing.
use Rattle.std.specs.Prelude.{ℕ, ◌+◌, ◌≤◌, refl, true, false, List, [], ◌∷◌, length}
use Rattle.std.proofs.Common.{arith}
use Rattle.definitions.specs.Bytes.{bytes}
use Rattle.definitions.specs.Shape.{no_number, int_and_dec, Shape, shape, no_list, list_of, no_rec, rec_of, no_fields, field, has_list, has_rec, forms}
use Rattle.pool.specs.Pool.{words, text_in, pool_bytes, unpacked}
use Rattle.nodes.specs.Nodes.{reference, refers}
use Rattle.shapes.specs.Shapes.{bit, numeric_bits, kind_bits, head_word, ShapeRows, shape_rows, no_element_rows}
use Rattle.shapes.specs.Shapes.{element_rows, no_record_rows, record_rows, no_field_rows, field_rows}
use Rattle.shapes.specs.HeldLaws.{held_front}
use Rattle.shape_writer.specs.Writing.{Deliverable}
use Rattle.shape_writer.specs.WritingLaws.{deliverable}

unfoldable pub sample : Shape
sample =
    shape false false no_number false
    (list_of
    (shape false false no_number false no_list
    (rec_of
    (field (bytes "bay") (shape true false int_and_dec false no_list no_rec)
    (field (bytes "due") (shape true false no_number true no_list no_rec) no_fields)))))
    no_rec

unfoldable pub table : List ℕ
table = 1056 ∷ 0 ∷ 832 ∷ 0 ∷ 269 ∷ 196608 ∷ 273 ∷ 196609 ∷ []

unfoldable pub pool : List ℕ
pool = 0x6261790000000000 ∷ 0x6475650000000000 ∷ []

sample_rows : ShapeRows pool 0 sample table
unfolding sample table pool bytes head_word kind_bits bit numeric_bits has_list has_rec forms reference text_in pool_bytes unpacked words
sample_rows =
    let bay : 0 + words (length (bytes "bay")) ≤ length pool = omega arith in
    let due : 1 + words (length (bytes "due")) ≤ length pool = omega arith in
    shape_rows
    (element_rows
    (shape_rows no_element_rows
    (record_rows
    (field_rows {n = bytes "bay"} (refers 0 bay refl) (shape_rows no_element_rows no_record_rows)
    (field_rows {n = bytes "due"} (refers 1 due refl) (shape_rows no_element_rows no_record_rows) no_field_rows)))))
    no_record_rows

-- what `deliver` asks
pub sample_deliverable : Deliverable table pool
unfolding table pool
sample_deliverable = deliverable (held_front table pool 8 2 sample_rows (omega arith) (omega arith)) (omega arith)
