-- `admits::lacked_have_null` meets its contract: as many members as are listed are all of them. Assumes nothing.
use Rattle.admits.proofs.Counting.{none_lacked}
use Rattle.admits.proofs.lacked_have_null.Goals as goal

pub member_count-requires : goal.member_count-requires
member_count-requires c =
    let a = c.requires.members_asked in
    record { used = a.held.used; fields = a.fields; stand = a.held.listed.stand }

pub member_count-requires-2 : goal.member_count-requires-2
member_count-requires-2 c =
    let a = c.requires.members_asked in
    record { used = a.holds.used; members = a.members; stand = a.holds.stand }

pub returns-then-member_count : goal.returns-then-member_count
returns-then-member_count c =
    record {
      told =
          none_lacked c.requires.members_asked c.requires.listed c.member_count.ensures.counted c.member_count-2.ensures.counted c.if-member_count.true;
    }

pub missing_have_null-requires : goal.missing_have_null-requires
missing_have_null-requires c =
    c.requires.members_asked

pub returns : goal.returns
returns c = record { told = c.missing_have_null.ensures.told }
