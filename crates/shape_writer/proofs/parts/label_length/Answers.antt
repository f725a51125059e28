-- `shape_writer::parts::label_length` meets its contract. Assumes nothing.
use native.Mathlib.Omega.{arith}
use mathlib.Core.Path.{ap}
use lib.ListN.{length}
use Rattle.shape_writer.proofs.Names.{name_within, name_plain, length_label}
use Rattle.shape_writer.proofs.parts.label_length.Goals as goal

pub text_length-requires : goal.text_length-requires
text_length-requires c = (
  name_within c.requires.holds c.text_word.ensures.split c.text_bytes.ensures.split,
  omega (
    arith,
    c.requires.room,
    length_label c.requires.text c.args.around,
    ap length (name_plain c.requires.holds c.text_word.ensures.split c.text_bytes.ensures.split),
  ),
)

pub overflow_mul-result : goal.overflow_mul-result
overflow_mul-result c =
    omega (arith, c.requires.room, length_label c.requires.text c.args.around)

pub overflow_add-result : goal.overflow_add-result
overflow_add-result c =
    omega (
      arith,
      c.requires.room,
      length_label c.requires.text c.args.around,
      c.text_length.ensures.counted,
      ap length (name_plain c.requires.holds c.text_word.ensures.split c.text_bytes.ensures.split),
    )

pub overflow_add-result-2 : goal.overflow_add-result-2
overflow_add-result-2 c =
    omega (
      arith,
      c.requires.room,
      length_label c.requires.text c.args.around,
      c.text_length.ensures.counted,
      ap length (name_plain c.requires.holds c.text_word.ensures.split c.text_bytes.ensures.split),
    )

pub returns : goal.returns
returns c =
    record {
      measured = λ t h. omega (
        arith,
        length_label t c.args.around,
        c.text_length.ensures.counted,
        ap length (name_plain h c.text_word.ensures.split c.text_bytes.ensures.split),
      );
    }
