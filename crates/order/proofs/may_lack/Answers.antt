-- `order::may_lack` meets its contract. Assumes nothing.
use Rattle.order.proofs.Lacking.{null_told, named_told}
use Rattle.order.proofs.may_lack.Goals as goal

pub returns-then-has : goal.returns-then-has
returns-then-has c =
    record {
      told = rw c.if-has.true (null_told c.args.first.now c.args.from c.args.to c.args.second.now c.args.row
          c.args.pool.now c.kinds.ensures.read
          c.has.ensures.told c.if-has.true);
    }

pub returns-else-has : goal.returns-else-has
returns-else-has c =
    record {
      told = rw c.is_some.ensures (named_told c.args.first.now c.args.from c.args.to c.args.second.now c.args.row
          c.args.pool.now c.kinds.ensures.read
          c.has.ensures.told c.if-has.false
          c.find_named.result c.name.ensures.read c.find_named.ensures.told);
    }
