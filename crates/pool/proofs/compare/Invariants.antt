-- The invariants of `pool::compare` and what falls in its loops. Assumes nothing.
use Prim.Native.Nat.{◌*◌, min}
use mathlib.Core.Path.{◌≡◌}
use lib.ListN.{drop}
use Rattle.definitions.specs.Bytes.{order}
use Rattle.pool.specs.Pool.{text_in}
use Rattle.pool.proofs.compare.Given as goal

abbrev pub invariant-loop-i : goal.invariant-loop-i
invariant-loop-i l =
    order (text_in l.pool l.w l.n) (text_in l.pool l.v l.m) ≡ order (drop (min (8 * l.i) l.end) (text_in l.pool l.w l.n))
    (drop (min (8 * l.i) l.end) (text_in l.pool l.v l.m))
