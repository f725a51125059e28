-- `shape_reader::leaves::find_leaf` meets its contract. Assumes nothing.
use Rattle.shape_reader.proofs.LeafForms.{leaf_finds}
use Rattle.shape_reader.proofs.leaves.find_leaf.Goals as goal

pub returns : goal.returns
returns c =
    record {
      found = leaf_finds c.args.values c.args.left c.args.c c.if-is_full.ensures.judged c.skip_space.ensures.skipped c.leaf_at.ensures.told;
    }
