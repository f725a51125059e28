-- `number::whole_part` meets its contract. Assumes nothing.
use mathlib.Core.Path.{ap}
use Prim.Native.Nat.{ℕ, ◌/◌}
use native.Mathlib.Nat.{one-le-pow}
use native.Mathlib.Omega.{arith}
use Rattle.definitions.specs.Number.{most_scale}
use Rattle.number.proofs.whole_part.Goals as goal

pub power-requires : goal.power-requires
unfolding most_scale
power-requires c = omega (arith, c.requires)

pub nonzero_div-result : goal.nonzero_div-result
nonzero_div-result c = omega (arith, c.power.ensures, one-le-pow c.args.scale 10 (omega arith))

pub returns : goal.returns
returns c = ap (λ (n : ℕ). c.args.coefficient / n) c.power.ensures
