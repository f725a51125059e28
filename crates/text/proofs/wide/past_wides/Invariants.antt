-- The invariants of `text::wide::past_wides` and what falls in its loops. Assumes nothing.
use Prim.Native.Nat.{◌-◌}
use Rattle.text.specs.TextParts.{FrontStands}
use Rattle.text.proofs.wide.past_wides.Given as goal

abbrev pub invariant-loop-m : goal.invariant-loop-m
invariant-loop-m l = FrontStands l.x l.m

abbrev pub decreases-loop-m : goal.decreases-loop-m
decreases-loop-m l = 5 - l.m
