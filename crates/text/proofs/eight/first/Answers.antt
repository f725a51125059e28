-- `text::eight::first` meets its contract. Assumes nothing.
use mathlib.Core.Path.{refl}
use native.Mathlib.Omega.{arith}
use lib.Count.{leading_le}
use Rattle.text.proofs.eight.first.Goals as goal

pub overflow_cast-result : goal.overflow_cast-result
overflow_cast-result c = record { fits = omega (arith, leading_le 64 c.args.marks) }

pub returns : goal.returns
returns c = record { counted = refl }
