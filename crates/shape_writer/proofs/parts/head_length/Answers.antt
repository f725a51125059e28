-- `shape_writer::parts::head_length` meets its contract. Assumes nothing.
use native.Mathlib.Omega.{arith}
use mathlib.Core.Path.{refl}
use Rattle.definitions.specs.Bytes.{bytes}
use Rattle.shape_writer.proofs.Heads.{length_head, length_to}
use Rattle.shape_writer.proofs.parts.head_length.Goals as goal

pub returns : goal.returns
unfolding bytes
returns c =
    record {
      measured = omega (
        arith,
        length_head c.args.kinds.kinds,
        length_to 1 (bytes " null") c.word_length.ensures.measured refl refl,
        length_to 2 (bytes " bool") c.word_length-2.ensures.measured refl refl,
        length_to 16 (bytes " text") c.word_length-3.ensures.measured refl refl,
        length_to 4 (bytes " int") c.word_length-4.ensures.measured refl refl,
        length_to 8 (bytes " dec") c.word_length-5.ensures.measured refl refl,
        length_to 32 (bytes " list") c.word_length-6.ensures.measured refl refl,
        length_to 64 (bytes " rec") c.word_length-7.ensures.measured refl refl,
      );
    }
