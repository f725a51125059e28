-- `pool::front` meets its contract. Assumes nothing.
use native.Mathlib.Omega.{arith}
use lib.ListN.{get_or}
use Rattle.pool.proofs.EightBytes.{masks, masks_at, unpacked_front}
use Rattle.pool.proofs.front.Goals as goal

pub returns : goal.returns
returns c =
    record {
      cut = let a = c.args in
          unpacked_front a.x a.m (get_or masks a.m 0) (omega arith) c.requires (masks_at a.m c.requires);
    }
