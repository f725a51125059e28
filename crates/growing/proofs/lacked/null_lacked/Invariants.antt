-- The invariant of `growing::lacked::null_lacked`, and what falls in its loop. Assumes nothing.
use Prim.Native.Nat.{◌-◌}
use Rattle.growing.specs.NullLaws.{NullsLoop}
use Rattle.growing.proofs.lacked.null_lacked.Given as goal

abbrev pub invariant-loop-row : goal.invariant-loop-row
invariant-loop-row g l = NullsLoop (g.N.Names.there l.names) l.initial.shapes l.pool l.used l.first l.last l.shapes l.row

abbrev pub decreases-loop-row : goal.decreases-loop-row
decreases-loop-row g l = l.last - l.row
