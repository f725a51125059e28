-- The kinds that a form with a place wants of its value. Assumes nothing.
use Rattle.std.specs.Prelude.{Bool, true}
use Rattle.definitions.specs.Value.{Value}
use Rattle.definitions.specs.Shape.{among}
use Rattle.definitions.specs.Admits.{kind_of}
use Rattle.definitions.specs.Reader.{Result}
use Rattle.definitions.specs.Checking.{convert_kinds, list_kinds}

-- the form is not stuck on a value
unfoldable pub wanted : Result → Value → Bool
wanted (Result.convert at c p) v = among (kind_of v) (convert_kinds c)
wanted (Result.keep at p) v = true
wanted (Result.count at p) v = among (kind_of v) list_kinds
wanted (Result.each at p r) v = among (kind_of v) list_kinds
wanted (Result.when at k p r₁ r₂) v = true
wanted (Result.choose at r₁ r₂ r₃) v = true
wanted (Result.literal at w) v = true
wanted (Result.pack at ps) v = true
