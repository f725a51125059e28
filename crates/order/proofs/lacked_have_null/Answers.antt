-- `order::lacked_have_null` meets its contract: what is left of the members tells what all tell. Assumes nothing.
use native.Mathlib.Omega.{arith}
use Rattle.shapes.specs.HeldLaws.{some_listed}
use Rattle.order.proofs.Lacking.{walk_begins, walk_step, walk_fails, walk_on, walk_ends}
use Rattle.order.proofs.lacked_have_null.Goals as goal

pub loop-i-init : goal.loop-i-init
loop-i-init c =
    walk_begins c.args.first.now c.args.from c.args.to c.args.second.now c.args.at
    c.args.end c.args.pool.now

pub may_lack-requires : goal.may_lack-requires
may_lack-requires c =
    some_listed c.requires.held

pub returns-then-not-may_lack : goal.returns-then-not-may_lack
returns-then-not-may_lack c =
    record {
      told = walk_fails c.args.first.now c.args.from c.args.to c.args.second.now c.args.at c.args.end
          c.args.pool.now
          c.loop-i.invariant c.may_lack.ensures.told c.loop-i-test.true c.if-not-may_lack.true;
    }

pub overflow_add-i : goal.overflow_add-i
overflow_add-i c =
    let s = walk_step c.args.first.now c.args.from c.args.to c.args.second.now c.args.at
    c.args.end c.args.pool.now c.loop-i.invariant c.requires c.loop-i-test.true in
    omega (arith, c.size-i.ensures.read, s.1)

pub loop-i-smaller : goal.loop-i-smaller
loop-i-smaller c =
    let s = walk_step c.args.first.now c.args.from c.args.to c.args.second.now c.args.at
    c.args.end c.args.pool.now c.loop-i.invariant c.requires c.loop-i-test.true in
    omega (arith, c.size-i.ensures.read, c.loop-i-test.true, s.0, s.1)

pub loop-i-preserved : goal.loop-i-preserved
loop-i-preserved c =
    walk_on c.args.first.now c.args.from c.args.to c.args.second.now c.args.at c.args.end
    c.args.pool.now
    c.loop-i.invariant c.may_lack.ensures.told c.loop-i-test.true c.if-not-may_lack.false c.size-i.ensures.read

pub returns : goal.returns
returns c =
    record {
      told = walk_ends c.args.first.now c.args.from c.args.to c.args.second.now c.args.at c.args.end
          c.args.pool.now
          c.loop-i.invariant c.loop-i-test.false;
    }
