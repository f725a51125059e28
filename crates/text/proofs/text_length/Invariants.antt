-- The invariant of the loop of `text::text_length`. Assumes nothing.
use Prim.Native.Nat.{◌+◌, ◌-◌, ◌*◌}
use Rattle.text.proofs.Onward.{Counted}
use Rattle.text.proofs.text_length.Given as goal

abbrev pub invariant-loop-x : goal.invariant-loop-x
invariant-loop-x l = Counted l.pool l.w l.n l.written (l.w + l.x-index) (l.n - 8 * l.x-index)
