-- A sample: the table of `[true,{"a":-1.5}]` as numbers, so that what the writers ask can be met. Assumes nothing.
use Rattle.std.specs.Prelude.{ℕ, ◌+◌, ◌≤◌, refl, true, List, [], ◌∷◌, length}
use Rattle.std.proofs.Common.{arith}
use Rattle.definitions.specs.Bytes.{Bytes, bytes, look, between}
use Rattle.definitions.specs.Number.{most_coefficient, most_scale}
use Rattle.definitions.specs.Value.{Value, no_items, item, no_members, member, size}
use Rattle.definitions.specs.Json.{true_name}
use Rattle.definitions.specs.Plain.{plain, plain_bool, plain_number, plain_text, escaped_all, escaped}
use Rattle.definitions.specs.Plain.{short_escapes, decimal, decimal_within, last_digits, fraction, minus}
use Rattle.pool.specs.Pool.{words, text_in, pool_bytes, unpacked}
use Rattle.number.specs.NumberWrite.{as_number}
use Rattle.nodes.specs.Nodes.{kind_code, sign_bit, number_bits, head_word, reference, refers, Rows, bool_row}
use Rattle.nodes.specs.Nodes.{number_row, list_rows, rec_rows, no_item_rows, item_rows, no_member_rows, member_rows}
use Rattle.plain.specs.Table.{BoundedNumbers, Writable}

unfoldable pub sample : Value
sample =
    Value.list
    (item (Value.bool true)
    (item (Value.rec (member (bytes "a") (Value.number (as_number true 15 1)) no_members)) no_items))

unfoldable pub table : List ℕ
table = 4357 ∷ 12 ∷ 0 ∷ 1026 ∷ 0 ∷ 0 ∷ 2566 ∷ 6 ∷ 0 ∷ 1051 ∷ 15 ∷ 65536 ∷ []

unfoldable pub pool : List ℕ
pool = 0x6100000000000000 ∷ []

sample_rows : Rows pool 0 sample table
unfolding sample table pool bytes head_word kind_code number_bits sign_bit size reference text_in pool_bytes unpacked words plain plain_bool true_name
    plain_number plain_text escaped_all escaped short_escapes decimal decimal_within last_digits fraction minus look between
sample_rows =
    let within : 0 + words (length (bytes "a")) ≤ length pool = omega arith in
    list_rows
    (item_rows bool_row
    (item_rows (rec_rows (member_rows {n = bytes "a"} (refers 0 within refl) number_row no_member_rows)) no_item_rows))

-- what `write_value` asks
pub sample_writable : (out : Bytes) → 17 ≤ length out → Writable table pool 0 out 0
unfolding sample table pool bytes plain plain_bool true_name plain_number plain_text escaped_all escaped short_escapes decimal decimal_within last_digits
    fraction minus look between BoundedNumbers most_coefficient most_scale
sample_writable out h =
    record {
      value = sample;
      holds = record {
        used = pool;
        stands = record { name = 0; rows = table; rest = []; encoded = sample_rows; placed = refl };
        pooled = record { front = refl; small = omega arith };
        bounded = (tt, ((record { coefficient = omega arith; scale = omega arith }, tt), tt));
      };
      room = omega (arith, h);
    }
