-- `running::singles::give_literal` meets its contract. Assumes nothing.
use native.Mathlib.Omega.{arith}
use Rattle.running.proofs.SingleRows.{few_begun, literal_given_here}
use Rattle.running.proofs.singles.give_literal.Goals as goal

pub literal_head-head-requires : goal.literal_head-head-requires
literal_head-head-requires c = c.requires.there

pub put-begun-requires : goal.put-begun-requires
put-begun-requires c =
    few_begun c.requires.giving

pub overflow_add-result : goal.overflow_add-result
overflow_add-result c =
    omega (arith, c.requires.giving.left, c.requires.giving.few)

pub returns : goal.returns
returns c =
    record {
      given = literal_given_here c.requires.giving c.literal_head-head.ensures.made c.payload-payload.ensures.read
          c.put-begun.ensures.put;
    }
