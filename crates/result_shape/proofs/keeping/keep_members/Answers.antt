-- `result_shape::keeping::keep_members` meets its contract. Assumes nothing.
use Rattle.result_shape.proofs.KeepSteps.{members_none, members_some, joinable}
use Rattle.std.proofs.Common.{ap, not}
use Rattle.result_shape.proofs.keeping.keep_members.Goals as goal

pub returns-then-not-has : goal.returns-then-not-has
returns-then-not-has c = record { kept = λ p t name s j. members_none j c.requires.tables c.has.ensures.told (ap not c.if-not-has.true) }

pub join_record-requires : goal.join_record-requires
join_record-requires c =
    joinable c.requires.kept_asked c.requires.tables

pub returns : goal.returns
returns c =
    record {
      kept = λ p t name s j. members_some j c.requires.tables c.join_record.new.shapes c.join_record.result
          c.has.ensures.told (ap not c.if-not-has.false) c.join_record.ensures.joined;
    }
