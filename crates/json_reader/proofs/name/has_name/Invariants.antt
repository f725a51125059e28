-- The invariants of `json_reader::name::has_name` and what falls in its loops. Assumes nothing.
use Prim.Native.Nat.{◌-◌}
use Rattle.json_reader.proofs.Names.{Walking}
use Rattle.json_reader.proofs.name.has_name.Given as goal

abbrev pub invariant-loop-row : goal.invariant-loop-row
invariant-loop-row l = Walking l.nodes l.pool l.from l.to l.w l.n l.row

abbrev pub decreases-loop-row : goal.decreases-loop-row
decreases-loop-row l = l.to - l.row
