-- The longest run of bytes that begins some number, from a phase on: how far reading stays inside a number. Assumes nothing.
use Rattle.std.specs.Prelude.{[], ◌∷◌}
use Rattle.std.proofs.Math.Option.{none, some}
use Rattle.definitions.specs.Bytes.{Bytes, look}
use Rattle.definitions.specs.Number.{Numeral, Phase, next, extend}

-- where a run ends: the phase and the digits there, and what is left of the text
pub record Run : Type 0 where
  pub phase : Phase
  pub digits : Numeral
  pub rest : Bytes

unfoldable pub longest : Phase → Numeral → Bytes → Run
longest p d [] = record { phase = p; digits = d; rest = [] }
longest p d (b ∷ r) =
    elim (look (next p) b) [
      | none ↦ record { phase = p; digits = d; rest = b ∷ r }
      | some q ↦ longest q (extend q d b) r
    ]
