-- `text::bare::is_bare` meets its contract: what the test makes of each byte is computed (`told_bare`). Assumes nothing.
use Rattle.laws.specs.Ranges.{eqb_eq}
use Rattle.text.proofs.BareWords.{told_bare}
use Rattle.text.proofs.bare.is_bare.Goals as goal

pub returns : goal.returns
returns c = record { told = λ e. told_bare c.plain_bits.ensures.told (eqb_eq e) }
