-- `slices::judge_limits` meets its contract. Assumes nothing.
use Rattle.std.proofs.Common.{sym, refl}
use Rattle.slices.specs.Small.{range_small}
use Rattle.slices.proofs.judge_limits.Goals as goal

pub returns-then-in_range : goal.returns-then-in_range
returns-then-in_range c = let in_range = sym c.if-in_range.ensures.told in record { told = rw in_range refl; small = range_small in_range }

pub returns-else-in_range : goal.returns-else-in_range
returns-else-in_range c = record { told = rw (sym c.if-in_range.ensures.told) refl; small = tt }
