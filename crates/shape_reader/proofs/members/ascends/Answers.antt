-- `shape_reader::members::ascends` meets its contract. Assumes nothing.
use Rattle.std.proofs.Common.{rules}
use Rattle.shape_reader.proofs.MemberReading.{compared_fits}
use Rattle.shape_reader.proofs.members.ascends.Goals as goal

pub returns-in-Some : goal.returns-in-Some
returns-in-Some c =
    record {
      told = compared_fits c.args.pool.now c.args.w c.args.n c.compare.result c.in-Some.is c.requires.0 c.requires.1 c.text_word.ensures.split
          c.text_bytes.ensures.split c.compare.ensures.compared (search rules);
    }
