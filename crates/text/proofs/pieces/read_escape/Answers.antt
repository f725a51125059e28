-- `text::pieces::read_escape` meets its contract: an escape by digits, none, or one of two characters (`Reading`). Assumes nothing.
use Prim.Native.Nat.{◌+◌}
use mathlib.Core.Path.{sym, ap, ◌∙◌}
use Rattle.definitions.specs.Bytes.{look}
use Rattle.definitions.specs.Text.{escape_table}
use Rattle.text.specs.TextParts.{escape_as}
use Rattle.text.proofs.Tables.{digits_of}
use Rattle.text.proofs.Puts.{keeps_none}
use Rattle.text.proofs.Reading.{room_one, piece_byte, escape_wrong, escape_letter}
use native.Mathlib.Omega.{arith}
use Rattle.text.proofs.pieces.read_escape.Goals as goal

pub overflow_add-w : goal.overflow_add-w
overflow_add-w c =
    let a = c.args in
    let p = c.requires in
    omega (arith, room_one a.doc.now a.i a.pool.now a.w a.n p.0.1 p.0.0, c.well_formed)

pub put_byte-requires : goal.put_byte-requires
put_byte-requires c =
    let a = c.args in
    let p = c.requires in
    room_one a.doc.now a.i a.pool.now a.w a.n p.0.1 p.0.0

pub overflow_add-result-in-Some-Byte : goal.overflow_add-result-in-Some-Byte
overflow_add-result-in-Some-Byte c =
    let a = c.args in
    let p = c.requires in
    omega (arith, room_one a.doc.now a.i a.pool.now a.w a.n p.0.1 p.0.0, c.well_formed)

pub returns-in-Some-Byte : goal.returns-in-Some-Byte
unfolding escape_as
returns-in-Some-Byte c =
    record {
      read = let a = c.args in
          let p = c.requires in
          let told = rw c.in-Some-Byte.field-0-is at c.in-Some-Byte.ensures.told in
          let h = escape_letter a.doc.now a.i p.0.0 p.1 c.in-Some-Byte.b (ap (look escape_table) (sym c.peek.ensures.read) ∙ sym told) in
          piece_byte a.doc.now a.i a.pool.now c.put_byte.new.pool a.w a.n (a.i + 2)
          c.in-Some-Byte.b c.cost.result
          c.put_byte.ensures.put (room_one a.doc.now a.i a.pool.now a.w a.n p.0.1 p.0.0) h.run (sym c.cost.ensures.counted)
          (omega arith) h.within (omega (arith, h.short, c.cost.ensures.counted));
    }

pub read_named-requires : goal.read_named-requires
unfolding escape_as
read_named-requires c =
    let p = c.requires in
    let told = rw c.in-Some-Digits.field-0-is at c.in-Some-Digits.ensures.told in
    (p.0, p.1, sym c.peek.ensures.read ∙ digits_of c.peek.result (sym told))

pub returns-in-None : goal.returns-in-None
unfolding escape_as
returns-in-None c =
    record {
      read = let a = c.args in
          let p = c.requires in
          record {
            breaks = escape_wrong a.doc.now a.i p.0.0 p.1 (ap (look escape_table) (sym c.peek.ensures.read) ∙ sym c.in-None.ensures.told);
            keeps = keeps_none a.pool.now a.w;
          };
    }
