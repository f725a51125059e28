-- `shape_reader::members::read_name` meets its contract. Assumes nothing.
use Rattle.reading.proofs.Passed.{passed}
use Rattle.shape_reader.specs.ShapeParts.{ReadsName}
use Rattle.shape_reader.proofs.Steps.{next_room}
use Rattle.shape_reader.proofs.MemberReading.{no_member_word, name_room, a_name}
use Rattle.shape_reader.proofs.members.read_name.Goals as goal

pub returns-in_err-behind : goal.returns-in_err-behind
returns-in_err-behind c =
    record {
      read = passed (ReadsName c.args.text.now c.args.pool.now c.args.pool.now c.args.at c.args.top) c.from_residual.ensures
          (no_member_word c.in_err-behind.ensures.read);
    }

pub next_text-requires : goal.next_text-requires
next_text-requires c = next_room (name_room c.in_ok-behind.ensures.read c.requires)

pub returns : goal.returns
returns c = record { read = a_name c.in_ok-behind.ensures.read c.next_text.result c.next_text.ensures.read }
