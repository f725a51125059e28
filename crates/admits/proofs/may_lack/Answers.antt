-- `admits::may_lack` meets its contract. Assumes nothing.
use Rattle.admits.proofs.Lacking.{null_told, member_told}
use Rattle.admits.proofs.may_lack.Goals as goal

pub returns-then-has : goal.returns-then-has
returns-then-has c = record { told = rw c.if-has.true (null_told c.args.shapes.now c.args.row c.kinds.ensures.read c.has.ensures.told c.if-has.true) }

pub returns-else-has : goal.returns-else-has
returns-else-has c =
    record {
      told = member_told c.args.shapes.now c.args.row c.kinds.ensures.read c.has.ensures.told
          c.if-has.false c.name.ensures.read c.has_member.ensures.found;
    }
