-- `shape_writer::parts::write_word` meets its contract. Assumes nothing.
use native.Mathlib.Omega.{arith}
use mathlib.Core.Path.{sym, ap, ◌∙◌}
use lib.ListN.{length}
use Rattle.shapes.specs.Shapes.{has_bit}
use Rattle.text.specs.WritesLaws.{writes_none, writes_as}
use Rattle.shape_writer.proofs.Heads.{word_there, word_gone}
use Rattle.shape_writer.proofs.parts.write_word.Goals as goal

pub write_bytes-requires : goal.write_bytes-requires
write_bytes-requires c =
    omega (
      arith,
      c.requires,
      ap length (word_there (has_bit c.args.kinds.kinds c.args.kind.kinds) c.args.word.now
          (sym c.has.ensures.told ∙ c.if-has.true)),
    )

pub returns-then-has : goal.returns-then-has
returns-then-has c =
    record {
      written = record {
        written = writes_as
            (word_there (has_bit c.args.kinds.kinds c.args.kind.kinds) c.args.word.now
            (sym c.has.ensures.told ∙ c.if-has.true))
            c.write_bytes.ensures.written;
      };
    }

pub returns : goal.returns
returns c =
    record {
      written = record {
        written = writes_as
            (word_gone (has_bit c.args.kinds.kinds c.args.kind.kinds) c.args.word.now
            (sym c.has.ensures.told ∙ c.if-has.false))
            (writes_none _ _);
      };
    }
