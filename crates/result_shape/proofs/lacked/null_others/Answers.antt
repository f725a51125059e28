-- `result_shape::lacked::null_others` meets its contract. Assumes nothing.
use Rattle.growing.specs.NullLaws.{others_had, others_none}
use Rattle.result_shape.proofs.lacked.null_others.Goals as goal

pub returns-then-had : goal.returns-then-had
returns-then-had c = record { nulled = others_had _ _ _ _ _ _ _ c.if-had.true c.null_lacked.ensures.nulled }

pub returns-else-had : goal.returns-else-had
returns-else-had c = record { nulled = others_none _ _ _ _ _ _ c.if-had.false c.requires.room.enough }
