-- No value of the tables is longer in plain JSON than its rows allow, so that lengths have room in a word. Assumes nothing.
use Rattle.std.specs.Prelude.{ℕ, ◌+◌, ◌*◌, ◌≤◌, ◌<◌, true, false, List, length}
use Rattle.std.proofs.Common.{arith}
use Rattle.definitions.specs.Bytes.{Bytes, bytes}
use Rattle.definitions.specs.Value.{Value, Items, no_items, item, Members, no_members, member, size, size_items, size_members}
use Rattle.definitions.specs.Json.{true_name, false_name, null_name}
use Rattle.definitions.specs.Plain.{plain_text, plain_bool, plain}
use Rattle.laws.proofs.StringWritten.{plain_most}
use Rattle.pool.specs.Pool.{words}
use Rattle.number.specs.DecimalLaws.{plain_short}
use Rattle.nodes.specs.Nodes.{Refers, refers, Rows, null_row, bool_row, number_row, text_row, list_rows, rec_rows, ItemRows, no_item_rows, item_rows}
use Rattle.nodes.specs.Nodes.{MemberRows, no_member_rows, member_rows}
use Rattle.plain.specs.PlainLaws.{items_length, members_length, length_list, length_rec}
use Rattle.plain.specs.Table.{BoundedNumbers, BoundedItems, BoundedMembers}

pub text_most : {p : List ℕ} {t : Bytes} {k : ℕ} → Refers p t k → length p < 65536 → length (plain_text t) ≤ 3145730
unfolding words
text_most {p} {t} (refers w h e) s = omega (arith, h, s, plain_most t)

mutual
  unfolding size plain plain_bool true_name false_name null_name bytes BoundedNumbers items_length members_length

  most_at : (v : Value) {p : List ℕ} {m : ℕ} {rs : List ℕ} → Rows p m v rs → length p < 65536 → BoundedNumbers v
      → length (plain v) + 4194304 ≤ 8388608 * size v
  most_at Value.null null_row s b = omega arith
  most_at (Value.bool true) bool_row s b = omega arith
  most_at (Value.bool false) bool_row s b = omega arith
  most_at (Value.number x) number_row s b = omega (arith, plain_short x b)
  most_at (Value.text t) (text_row f) s b = omega (arith, text_most f s)
  most_at (Value.list vs) (list_rows is) s b = omega (arith, length_list vs, items_most_at vs is s b)
  most_at (Value.rec ms) (rec_rows ns) s b = omega (arith, length_rec ms, members_most_at ms ns s b)

  items_most_at : (vs : Items) {p rs : List ℕ} → ItemRows p vs rs → length p < 65536 → BoundedItems vs → items_length vs ≤ 8388608 * size_items vs
  items_most_at no_items no_item_rows s b = omega arith
  items_most_at (item v vs) (item_rows r is) s b = omega (arith, most_at v r s b.0, items_most_at vs is s b.1)

  members_most_at
      : (ms : Members) {p rs : List ℕ} → MemberRows p ms rs → length p < 65536 → BoundedMembers ms → members_length ms ≤ 8388608 * size_members ms
  members_most_at no_members no_member_rows s b = omega arith
  members_most_at (member n v ms) (member_rows f r ns) s b =
      omega (arith, text_most f s, most_at v r s b.0, members_most_at ms ns s b.1)

pub value_most
    : {v : Value} {p : List ℕ} {m : ℕ} {rs : List ℕ} → Rows p m v rs → length p < 65536 → BoundedNumbers v
    → length (plain v) + 4194304 ≤ 8388608 * size v
value_most {v} r s b = most_at v r s b

pub items_most : {vs : Items} {p rs : List ℕ} → ItemRows p vs rs → length p < 65536 → BoundedItems vs → items_length vs ≤ 8388608 * size_items vs
items_most {vs} r s b = items_most_at vs r s b

pub members_most
    : {ms : Members} {p rs : List ℕ} → MemberRows p ms rs → length p < 65536 → BoundedMembers ms → members_length ms ≤ 8388608 * size_members ms
members_most {ms} r s b = members_most_at ms r s b
