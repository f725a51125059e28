-- `nodes::member_count` meets its contract. The loop's invariant is `Counting`. Assumes nothing.
use native.Mathlib.Omega.{arith}
use Rattle.nodes.proofs.Counting.{count_begins, count_step, count_on, count_ends}
use Rattle.nodes.proofs.member_count.Goals as goal

pub loop-i-init : goal.loop-i-init
loop-i-init c = count_begins c.args.nodes.now c.args.at c.args.end

pub overflow_add-count : goal.overflow_add-count
overflow_add-count c = omega (arith, c.loop-i.invariant.few, c.loop-i-test.true, c.ranges)

pub row_size_in-i-requires : goal.row_size_in-i-requires
row_size_in-i-requires c =
    let s = count_step c.args.nodes.now c.args.at c.args.end c.loop-i.invariant c.requires c.loop-i-test.true in
    omega (arith, s.0, s.1)

pub overflow_add-i : goal.overflow_add-i
overflow_add-i c =
    let s = count_step c.args.nodes.now c.args.at c.args.end c.loop-i.invariant c.requires
    c.loop-i-test.true in
    omega (arith, s.2, c.row_size_in-i.ensures.sized)

pub loop-i-smaller : goal.loop-i-smaller
loop-i-smaller c =
    let s = count_step c.args.nodes.now c.args.at c.args.end c.loop-i.invariant c.requires
    c.loop-i-test.true in
    omega (arith, s.0, s.2, c.row_size_in-i.ensures.sized, c.loop-i-test.true)

pub loop-i-preserved : goal.loop-i-preserved
loop-i-preserved c =
    count_on c.args.nodes.now c.args.at c.args.end c.loop-i.invariant c.requires
    c.loop-i-test.true c.row_size_in-i.ensures.sized

pub returns : goal.returns
returns c = record { counted = count_ends c.args.nodes.now c.args.at c.args.end c.loop-i.invariant c.loop-i-test.false }
