-- `shape_writer::parts::write_label` meets its contract. Assumes nothing.
use Prim.Native.Nat.{◌+◌}
use native.Mathlib.Numerals.{add-one}
use native.Mathlib.Omega.{arith}
use mathlib.Core.Path.{ap}
use lib.ListN.{length}
use Rattle.definitions.specs.Bytes.{bytes}
use Rattle.definitions.specs.ShapeText.{new_line}
use Rattle.text.specs.WritesLaws.{writes_then, writes_as}
use Rattle.shape_writer.specs.Layout.{label_text}
use Rattle.shape_writer.proofs.Lines.{length_new_line}
use Rattle.shape_writer.proofs.Names.{name_within, name_plain, length_label}
use Rattle.shape_writer.proofs.parts.write_label.Goals as goal

pub write_line-j-requires : goal.write_line-j-requires
write_line-j-requires c =
    omega (arith, c.requires.room, length_label c.requires.text c.args.around, length_new_line c.args.around)

pub write_bytes-j-requires : goal.write_bytes-j-requires
write_bytes-j-requires c =
    omega (
      arith,
      c.requires.room,
      length_label c.requires.text c.args.around,
      length_new_line c.args.around,
      c.write_line-j.ensures.written.end,
      c.write_line-j.auto.out,
    )

pub write_text-j-requires : goal.write_text-j-requires
write_text-j-requires c = (
  name_within c.requires.holds c.text_word.ensures.split c.text_bytes.ensures.split,
  omega (
    arith,
    c.requires.room,
    length_label c.requires.text c.args.around,
    length_new_line c.args.around,
    c.write_line-j.ensures.written.end,
    c.write_line-j.auto.out,
    c.write_bytes-j.ensures.written.end,
    c.write_bytes-j.auto.out,
    ap length (name_plain c.requires.holds c.text_word.ensures.split c.text_bytes.ensures.split),
  ),
)

pub overflow_add-around : goal.overflow_add-around
overflow_add-around c =
    omega (arith, c.requires.room, length_label c.requires.text c.args.around)

pub write_line-requires : goal.write_line-requires
write_line-requires c =
    omega (
      arith,
      c.requires.room,
      length_label c.requires.text c.args.around,
      length_new_line c.args.around,
      length_new_line (c.args.around + 1),
      c.write_line-j.ensures.written.end,
      c.write_line-j.auto.out,
      c.write_bytes-j.ensures.written.end,
      c.write_bytes-j.auto.out,
      c.write_text-j.ensures.written.end,
      c.write_text-j.auto.out,
      ap length (name_plain c.requires.holds c.text_word.ensures.split c.text_bytes.ensures.split),
    )

pub returns : goal.returns
unfolding label_text bytes
returns c =
    record {
      written = λ t h. writes_then (omega (arith, c.requires.room))
          (writes_then (omega (arith, c.requires.room))
          (writes_then (omega (arith, c.requires.room)) c.write_line-j.ensures.written c.write_bytes-j.ensures.written)
          (writes_as (name_plain h c.text_word.ensures.split c.text_bytes.ensures.split)
          c.write_text-j.ensures.written))
          (writes_as (ap new_line (add-one c.args.around)) c.write_line.ensures.written);
    }
