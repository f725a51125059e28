-- `tokens::standing::eight_at` meets its contract. Assumes nothing.
use native.Mathlib.Omega.{arith}
use Rattle.tokens.specs.Standing.{low_value}
use Rattle.tokens.proofs.Eight.{eight_told}
use Rattle.tokens.proofs.standing.eight_at.Goals as goal

pub returns : goal.returns
unfolding low_value
returns c =
    record {
      told = eight_told c.requires (λ i. omega (arith, c.type_inv.text i)) (omega arith) (omega (arith, c.from_le_bytes.ensures));
    }
