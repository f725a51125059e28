-- `plain::write_single` meets its contract: the first word tells the kind, and with it what to write. Assumes nothing.
-- ---- null
use native.Mathlib.Omega.{arith}
use mathlib.Core.Path.{◌≡◌, ap}
use lib.ListN.{length}
use Rattle.definitions.specs.Bytes.{bytes}
use Rattle.definitions.specs.Json.{true_name, false_name, null_name}
use Rattle.nodes.specs.Nodes.{kind_code}
use Rattle.plain.proofs.Writing.{writes_as, written_as}
use Rattle.plain.proofs.Rows.{stands_kind}
use Rattle.plain.proofs.Singles.{kind_told, plain_null, plain_false, plain_true, single_number, number_writes, single_text}
use Rattle.plain.proofs.write_single.Goals as goal

pub write_bytes-requires : goal.write_bytes-requires
unfolding null_name bytes
write_bytes-requires c =
    let w = c.requires.writable in
    omega (
      arith,
      w.room,
      ap length (plain_null w.value (kind_told w.holds c.row_kind.ensures.read c.in-0.is)),
    )

pub returns-in-0 : goal.returns-in-0
unfolding null_name bytes
returns-in-0 c =
    record { written = λ v h. written_as c.write_bytes.ensures.written (plain_null v (kind_told h c.row_kind.ensures.read c.in-0.is)) }

pub write_bytes-requires-in-1 : goal.write_bytes-requires-in-1
unfolding false_name bytes
write_bytes-requires-in-1 c =
    let w = c.requires.writable in
    omega (arith, w.room, ap length (plain_false w.value (kind_told w.holds c.row_kind.ensures.read c.in-1.is)))

pub returns-in-1 : goal.returns-in-1
unfolding false_name bytes
returns-in-1 c =
    record {
      written = λ v h. written_as c.write_bytes-in-1.ensures.written
          (plain_false v (kind_told h c.row_kind.ensures.read c.in-1.is));
    }

pub write_bytes-requires-in-2 : goal.write_bytes-requires-in-2
unfolding true_name bytes
write_bytes-requires-in-2 c =
    let w = c.requires.writable in
    omega (arith, w.room, ap length (plain_true w.value (kind_told w.holds c.row_kind.ensures.read c.in-2.is)))

pub returns-in-2 : goal.returns-in-2
unfolding true_name bytes
returns-in-2 c =
    record {
      written = λ v h. written_as c.write_bytes-in-2.ensures.written
          (plain_true v (kind_told h c.row_kind.ensures.read c.in-2.is));
    }

pub write_number-requires : goal.write_number-requires
write_number-requires c =
    let w = c.requires.writable in
    let k = kind_told w.holds c.row_kind.ensures.read c.in-3.is in
    let x = single_number w.value w.holds k c.row_negative-negative.ensures.read c.row_payload-coefficient.ensures.read
    c.row_scale.ensures.read in
    record { bounded = x.bounded; room = rw x.same w.room }

pub returns-in-3 : goal.returns-in-3
returns-in-3 c =
    record {
      written = λ v h. let k = kind_told h c.row_kind.ensures.read c.in-3.is in
          let x = single_number v h k c.row_negative-negative.ensures.read c.row_payload-coefficient.ensures.read
          c.row_scale.ensures.read in
          writes_as x.same (number_writes c.write_number.ensures);
    }

pub write_reference-requires : goal.write_reference-requires
write_reference-requires c =
    let w = c.requires.writable in
    let k : kind_code w.value ≡ 4
    = omega (
      arith,
      stands_kind w.holds.stands,
      c.row_kind.ensures.read,
      c.requires.single,
      c.in_default,
    )
    in
    let x = single_text w.value w.holds c.row_payload.ensures.read k in
    record { text = x.text; holds = x.holds; room = rw x.same w.room }

pub returns-in_default : goal.returns-in_default
returns-in_default c =
    record {
      written = λ v h. let k : kind_code v ≡ 4
          = omega (
            arith,
            stands_kind h.stands,
            c.row_kind.ensures.read,
            c.requires.single,
            c.in_default,
          )
          in
          let x = single_text v h c.row_payload.ensures.read k in
          writes_as x.same (c.write_reference.ensures.written x.text x.holds);
    }
