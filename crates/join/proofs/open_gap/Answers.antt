-- `join::open_gap` meets its contract. Assumes nothing.
use native.Mathlib.Omega.{arith}
use Rattle.join.proofs.Gaps.{opened}
use Rattle.join.proofs.open_gap.Goals as goal

pub returns : goal.returns
returns c =
    record { opened = let s = c.args in opened s.part.now s.used s.gap c.requires _ (omega arith) c.copy_within.ensures.after c.copy_within.ensures.len }
