-- `shape_reader::members::close_member` meets its contract. Assumes nothing.
use Rattle.reading.proofs.Passed.{passed}
use Rattle.shape_reader.specs.ShapeParts.{ClosesMember}
use Rattle.shape_reader.proofs.MemberReading.{member_unclosed, member_closed}
use Rattle.shape_reader.proofs.members.close_member.Goals as goal

pub returns-in_err-place : goal.returns-in_err-place
returns-in_err-place c =
    record {
      read = passed (ClosesMember c.args.text.now c.args.c) c.from_residual.ensures (member_unclosed c.args.c c.in_err-place.ensures.read);
    }

pub returns : goal.returns
returns c = record { read = member_closed c.args.c c.in_ok-place.ensures.read }
