-- What reading a number that is a whole word answers. Assumes nothing.
use Rattle.std.specs.Prelude.{◌≡◌, Option, Some, None}
use Rattle.std.proofs.Math.Option.{none, some}
use Rattle.definitions.specs.Bytes.{Bytes}
use Rattle.definitions.specs.Number.{Number, Numeral, number_of}
use Rattle.definitions.specs.Reader.{word_number}
use Rattle.number.specs.NumberWrite.{Bounded, as_number}
use Rattle.number.specs.declared.word.Decimal.{Decimal}

-- the word spells a numeral that means the number x
pub record WordMeans (w : Bytes) (x : Number) : Type 0 where
  pub numeral : Numeral
  pub spelled : word_number w ≡ some numeral
  pub meaning : x ≡ number_of numeral
  pub bounded : Bounded x

abbrev pub WordAnswer : Bytes → Option Decimal → Type 0
WordAnswer w (Some d) = WordMeans w (as_number d.negative d.coefficient d.scale)
WordAnswer w None = word_number w ≡ none
