-- `nodes::row_name` meets its contract: the name stands behind the payload. Assumes nothing.
use Prim.Native.Nat.{ℕ, ◌+◌}
use mathlib.Core.Path.{◌≡◌, sym, ap, ◌∙◌}
use native.Mathlib.Omega.{arith}
use lib.ListN.{get_or, get_or-eq_default}
use Rattle.nodes.proofs.row_name.Goals as goal

pub returns-then-row-nodes : goal.returns-then-row-nodes
returns-then-row-nodes c =
    record {
      read = c.row_payload.ensures.read
          ∙ ap (λ (i : ℕ). get_or c.args.nodes.now i 0)
          (let e : c.args.row + 1 + 1 ≡ c.args.row + 2 = omega arith in e);
    }

pub returns-else-row-nodes : goal.returns-else-row-nodes
returns-else-row-nodes c = record { read = sym (get_or-eq_default c.args.nodes.now 0 (omega arith)) }
