-- The invariant of the loop of `text::write::write_mixed`. Assumes nothing.
use Prim.Native.Nat.{◌+◌, ◌-◌, ◌*◌}
use Rattle.text.proofs.Onward.{Onward}
use Rattle.text.proofs.write.write_mixed.Given as goal

abbrev pub invariant-loop-x : goal.invariant-loop-x
invariant-loop-x l = Onward l.pool l.w l.n l.initial.out l.out l.at l.j (l.w + l.x-index) (l.n - 8 * l.x-index)
