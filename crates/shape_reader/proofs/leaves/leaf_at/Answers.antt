-- `shape_reader::leaves::leaf_at` meets its contract. Assumes nothing.
use native.Mathlib.Omega.{arith}
use Rattle.shape_reader.proofs.LeafForms.{shape_stands, null_stands, others_leaf, null_others}
use Rattle.shape_reader.proofs.leaves.leaf_at.Goals as goal

pub returns-then-x-ne465676103200 : goal.returns-then-x-ne465676103200
returns-then-x-ne465676103200 c =
    record { told = others_leaf (shape_stands c.eight_at.ensures.told c.if-eight_at-ne111533344977704.false) c.other_kinds.ensures.told }

pub returns-then-x-eq45545652842016 : goal.returns-then-x-eq45545652842016
returns-then-x-eq45545652842016 c =
    record {
      told = record {
        answer = (
          shape_stands c.eight_at.ensures.told c.if-eight_at-ne111533344977704.false,
          null_stands c.eight_at-x.ensures.told c.if-x-eq45545652842016.true (omega arith),
        );
      };
    }

pub returns : goal.returns
returns c =
    record {
      told = record {
        answer = (
          shape_stands c.eight_at.ensures.told c.if-eight_at-ne111533344977704.false,
          null_others c.args.at c.eight_at-x.ensures.told c.if-x-ne465676103200.false c.in_ok-others.ensures.told,
        );
      };
    }
