-- `pool::same_text` meets its contract: as `same_held` says of what the pool has of the texts (`same_held`). Assumes nothing.
use Rattle.pool.specs.PoolLaws.{length_held}
use Rattle.pool.proofs.WordOrder.{same_held}
use Rattle.pool.proofs.same_text.Goals as goal

pub same_held-requires : goal.same_held-requires
same_held-requires c =
    let a = c.args in (
      length_held a.pool.now a.w a.n c.held-s.result c.held-s.ensures.counted,
      length_held a.pool.now a.v a.m c.held.result c.held.ensures.counted,
    )

pub returns : goal.returns
returns c =
    record {
      compared = let a = c.args in
          same_held a.pool.now a.w a.n a.v a.m c.held-s.result c.held.result
          c.held-s.ensures.counted c.held.ensures.counted c.same_held.ensures.compared;
    }
