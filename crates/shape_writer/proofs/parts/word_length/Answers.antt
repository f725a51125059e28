-- `shape_writer::parts::word_length` meets its contract. Assumes nothing.
use native.Mathlib.Omega.{arith}
use mathlib.Core.Path.{sym, ap, ◌∙◌}
use lib.ListN.{length}
use Rattle.shapes.specs.Shapes.{has_bit}
use Rattle.shape_writer.proofs.Heads.{word_there, word_gone}
use Rattle.shape_writer.proofs.parts.word_length.Goals as goal

pub returns-then-has : goal.returns-then-has
returns-then-has c =
    record {
      measured = record {
        measured = λ w e.
            sym e
            ∙ ap length
            (word_there (has_bit c.args.kinds.kinds c.args.kind.kinds) w (sym c.has.ensures.told ∙ c.if-has.true));
      };
      bounded = omega arith;
    }

pub returns-else-has : goal.returns-else-has
returns-else-has c =
    record {
      measured = record {
        measured =
            λ w e.
            ap length (word_gone (has_bit c.args.kinds.kinds c.args.kind.kinds) w (sym c.has.ensures.told ∙ c.if-has.false));
      };
      bounded = omega arith;
    }
