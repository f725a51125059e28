-- `nodes::row_negative` meets its contract. Assumes nothing.
use Prim.Native.Nat.{ℕ, ◌/◌, ◌%◌}
use mathlib.Core.Path.{ap}
use lib.Dec.{eqb}
use Rattle.nodes.proofs.row_negative.Goals as goal

pub returns : goal.returns
returns c = record { read = ap (λ (x : ℕ). eqb (x / 8 % 2) 1) c.word.ensures.read }
