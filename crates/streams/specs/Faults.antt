-- What failed. Assumes nothing.
use Rattle.std.specs.Prelude.{⊤}
use Rattle.streams.specs.declared.Fault.{Fault}
use Rattle.streams.specs.declared.Fault.TheVariants.{Input, Output}

-- a fact, where it is the input that failed
abbrev pub OnInput : Fault → Type 0 → Type 0
OnInput (Input e) P = P
OnInput (Output e) P = ⊤
