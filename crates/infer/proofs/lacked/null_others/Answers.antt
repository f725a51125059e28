-- `infer::lacked::null_others` meets its contract: a record with as many members as are listed lacks none. Assumes nothing.
use Rattle.growing.specs.NullLaws.{others_had, others_none}
use Rattle.infer.proofs.Nulling.{others_of, none_lacked}
use Rattle.infer.proofs.lacked.null_others.Goals as goal

pub member_count-requires : goal.member_count-requires
member_count-requires c =
    let w = c.requires.nullable in
    record { used = w.part; fields = w.fields; stand = w.meets.stand }

pub member_count-requires-then-had : goal.member_count-requires-then-had
member_count-requires-then-had c =
    let w = c.requires.nullable in
    record { used = w.part; members = w.tells.members; stand = w.tells.held }

pub returns-then-member_count : goal.returns-then-member_count
returns-then-member_count c =
    record { nulled = none_lacked _ c.member_count.ensures.counted c.member_count-then-had.ensures.counted c.if-member_count.true c.requires.room.enough }

pub returns-else-member_count : goal.returns-else-member_count
returns-else-member_count c = record { nulled = others_of _ (others_had _ _ _ _ _ _ _ c.if-had.true c.null_lacked.ensures.nulled) }

pub returns-else-had : goal.returns-else-had
returns-else-had c = record { nulled = others_of _ (others_none _ _ _ _ _ _ c.if-had.false c.requires.room.enough) }
