-- `number::numeral::no_digits` meets its contract. Assumes nothing.
use mathlib.Core.Path.{refl}
use Rattle.definitions.specs.Number.{no_digits}
use Rattle.number.proofs.numeral.no_digits.Goals as goal

pub returns : goal.returns
unfolding no_digits
returns c = record { negative = refl; coefficient = refl; scale = refl; exponent = refl }
