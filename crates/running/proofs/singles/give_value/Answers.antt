-- `running::singles::give_value` meets its contract. Assumes nothing.
use Rattle.running.proofs.WholeRows.{int_handed, other_handed}
use Rattle.running.proofs.singles.give_value.Goals as goal

pub give_int-requires : goal.give_int-requires
give_int-requires c = record { giving = c.requires.giving; there = c.requires.there }

pub returns-then-code-eq-INT : goal.returns-then-code-eq-INT
returns-then-code-eq-INT c = record { given = int_handed c.if-code-eq-INT.true c.give_int.ensures.given }

pub give_kept-requires : goal.give_kept-requires
give_kept-requires c = record { giving = c.requires.giving; there = c.requires.there }

pub returns : goal.returns
returns c = record { given = other_handed c.if-code-eq-INT.false c.give_kept.ensures.given }
