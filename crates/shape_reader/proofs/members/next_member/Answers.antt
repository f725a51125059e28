-- `shape_reader::members::next_member` meets its contract. Assumes nothing.
use Rattle.reading.proofs.Passed.{passed}
use Rattle.shape_reader.specs.ShapeParts.{Turns}
use Rattle.shape_reader.proofs.MemberReading.{shape_closed, neither_bracket, no_record, member_opened}
use Rattle.shape_reader.proofs.members.next_member.Goals as goal

pub returns-in_err-place : goal.returns-in_err-place
returns-in_err-place c =
    record {
      read = passed (Turns c.args.latest c.args.text.now c.args.pool.now c.args.pool.now c.args.kinds.kinds c.args.c) c.from_residual.ensures
          (neither_bracket c.args.latest c.args.pool.now c.args.kinds.kinds c.args.c c.in_err-place.ensures.read);
    }

pub returns-then-has : goal.returns-then-has
returns-then-has c =
    record {
      read = member_opened c.args.latest c.args.pool.now c.args.kinds.kinds c.args.c c.in_ok-place.ensures.read c.in-Opening.is c.has.ensures.told c.if-has.true
          c.member_shape.ensures.read;
    }

pub returns-else-has : goal.returns-else-has
returns-else-has c =
    record {
      read = no_record c.args.latest c.args.pool.now c.args.kinds.kinds c.args.c c.in_ok-place.ensures.read c.in-Opening.is c.has.ensures.told c.if-has.false
          c.misplaced.ensures.place c.misplaced.ensures.cause;
    }

pub returns-in-Closing : goal.returns-in-Closing
returns-in-Closing c =
    record { read = shape_closed c.args.latest c.args.pool.now c.args.kinds.kinds c.args.c c.in_ok-place.ensures.read c.in-Closing.is }
