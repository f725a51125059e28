-- `infer::infer_leaf` meets its contract. Assumes nothing.
use mathlib.Core.Path.{refl}
use native.Mathlib.Omega.{arith}
use Rattle.infer.proofs.Scalars.{kind_told}
use Rattle.infer.proofs.Into.{scalar_fits, scalar_put}
use Rattle.infer.proofs.infer_leaf.Goals as goal

pub raise-requires : goal.raise-requires
raise-requires c =
    let w = c.requires.inferable in
    let facts = scalar_fits w.meets (omega (arith, kind_told w.meets.held refl, c.requires.leaf)) c.scalar_kinds.ensures.told c.requires.room in
    record { row_in_bounds = facts.0; fits = facts.1 }

pub returns : goal.returns
returns c =
    record {
      inferred = λ p m s k v h. scalar_put h (omega (arith, kind_told h.held refl, c.requires.leaf)) c.scalar_kinds.ensures.told c.requires.room
          c.raise.ensures.raised c.raise.auto.shapes;
    }
