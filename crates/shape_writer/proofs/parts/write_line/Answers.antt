-- `shape_writer::parts::write_line` meets its contract. Assumes nothing.
use native.Mathlib.Omega.{arith}
use Rattle.definitions.specs.Bytes.{bytes}
use Rattle.definitions.specs.ShapeText.{new_line}
use Rattle.text.specs.WritesLaws.{writes_then}
use Rattle.shape_writer.proofs.Lines.{length_new_line}
use Rattle.shape_writer.proofs.parts.write_line.Goals as goal

pub write_bytes-j-requires : goal.write_bytes-j-requires
write_bytes-j-requires c =
    omega (arith, c.requires, length_new_line c.args.around)

pub write_spaces-requires : goal.write_spaces-requires
write_spaces-requires c =
    omega (
      arith,
      c.requires,
      length_new_line c.args.around,
      c.write_bytes-j.ensures.written.end,
      c.write_bytes-j.auto.out,
    )

pub returns : goal.returns
unfolding new_line bytes
returns c = record { written = writes_then (omega (arith, c.requires)) c.write_bytes-j.ensures.written c.write_spaces.ensures.written }
