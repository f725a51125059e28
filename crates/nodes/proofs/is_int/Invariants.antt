-- The invariant of `nodes::is_int`'s loop. Assumes nothing.
use Prim.Native.Nat.{◌/◌, ◌-◌}
use mathlib.Core.Path.{◌≡◌}
use Rattle.nodes.proofs.Digits.{ends_in_zeros}
use Rattle.nodes.proofs.is_int.Given as goal

abbrev pub invariant-loop : goal.invariant-loop
invariant-loop l = ends_in_zeros (l.bits / 2) l.coefficient ≡ ends_in_zeros (l.bits / 2 - l.counter) l.digits
