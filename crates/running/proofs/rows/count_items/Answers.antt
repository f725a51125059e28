-- `running::rows::count_items` meets its contract. Assumes nothing.
use native.Mathlib.Omega.{arith}
use Rattle.running.specs.BindingsLaws.{bound_within}
use Rattle.running.proofs.Elements.{counting, count_step, count_on, count_ends}
use Rattle.running.proofs.rows.count_items.Goals as goal

pub overflow_add-i : goal.overflow_add-i
overflow_add-i c =
    omega (arith, bound_within c.requires.bound, c.requires.small)

pub loop-i-init : goal.loop-i-init
loop-i-init c =
    counting c.args.nodes.now c.args.at c.items_end-end.result c.items_end-end.ensures.told

pub overflow_add-n : goal.overflow_add-n
overflow_add-n c =
    let s = count_step c.args.nodes.now c.args.at c.items_end-end.result c.loop-i.invariant c.requires
    c.loop-i-test.true in
    omega (arith, s.1, s.2)

pub overflow_add-i-in-loop-i : goal.overflow_add-i-in-loop-i
overflow_add-i-in-loop-i c =
    let s = count_step c.args.nodes.now c.args.at c.items_end-end.result c.loop-i.invariant
    c.requires c.loop-i-test.true in
    omega (arith, s.1, c.row_size-i.ensures.sized)

pub loop-i-smaller : goal.loop-i-smaller
loop-i-smaller c =
    let s = count_step c.args.nodes.now c.args.at c.items_end-end.result c.loop-i.invariant
    c.requires c.loop-i-test.true in
    omega (arith, s.0, c.row_size-i.ensures.sized, c.loop-i-test.true)

pub loop-i-preserved : goal.loop-i-preserved
loop-i-preserved c =
    count_on c.args.nodes.now c.args.at c.items_end-end.result c.loop-i.invariant
    c.loop-i-test.true c.row_size-i.ensures.sized

pub returns : goal.returns
returns c = record { counted = count_ends c.args.nodes.now c.args.at c.items_end-end.result c.loop-i.invariant c.loop-i-test.false }
