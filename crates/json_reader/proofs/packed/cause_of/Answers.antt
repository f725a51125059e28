-- `json_reader::packed::cause_of` meets its contract. Assumes nothing.
use mathlib.Core.Path.{◌≡◌}
use native.Mathlib.Omega.{arith}
use Rattle.json_reader.proofs.packed.cause_of.Goals as goal

pub returns-in-3 : goal.returns-in-3
returns-in-3 c = rw c.in-3.is

pub returns-in_default : goal.returns-in_default
returns-in_default c =
    let f : c.args.number ≡ 3 → ⊥ = λ e. omega arith in
    let g : c.args.number ≡ 4 → ⊥ = λ e. omega arith in
    let h : c.args.number ≡ 5 → ⊥ = λ e. omega arith in
    grind arith
