-- `shapes::member_count` meets its contract. The loop's invariant is `Counting`. Assumes nothing.
use mathlib.Core.Path.{refl}
use native.Mathlib.Omega.{arith}
use Rattle.shapes.specs.Shapes.{size_at}
use Rattle.shapes.proofs.Counting.{count_begins, count_step, count_on, count_ends}
use Rattle.shapes.proofs.member_count.Goals as goal

pub loop-row-init : goal.loop-row-init
loop-row-init c = count_begins c.args.shapes.now c.args.from c.args.end

pub overflow_add-count : goal.overflow_add-count
overflow_add-count c =
    let s = count_step c.args.shapes.now c.args.from c.args.end c.loop-row.invariant c.requires
    c.loop-row-test.true in
    omega (arith, c.loop-row.invariant.few, s.2, c.well_formed.0.0)

pub offset_bounds-shapes-row : goal.offset_bounds-shapes-row
offset_bounds-shapes-row c =
    let s = count_step c.args.shapes.now c.args.from c.args.end c.loop-row.invariant c.requires
    c.loop-row-test.true in
    omega (arith, s.2, c.well_formed.0.0)

pub bounds-shapes-row : goal.bounds-shapes-row
bounds-shapes-row c =
    let s = count_step c.args.shapes.now c.args.from c.args.end c.loop-row.invariant c.requires
    c.loop-row-test.true in
    omega (arith, s.2)

pub overflow_add-row : goal.overflow_add-row
unfolding size_at
overflow_add-row c =
    let s = count_step c.args.shapes.now c.args.from c.args.end c.loop-row.invariant c.requires
    c.loop-row-test.true in
    omega (arith, s.1)

pub loop-row-smaller : goal.loop-row-smaller
unfolding size_at
loop-row-smaller c =
    let s = count_step c.args.shapes.now c.args.from c.args.end c.loop-row.invariant c.requires
    c.loop-row-test.true in
    omega (arith, s.0, s.1)

pub loop-row-preserved : goal.loop-row-preserved
unfolding size_at
loop-row-preserved c =
    count_on c.args.shapes.now c.args.from c.args.end c.loop-row.invariant c.requires
    c.loop-row-test.true refl

pub returns : goal.returns
returns c = record { counted = count_ends c.args.shapes.now c.args.from c.args.end c.loop-row.invariant c.loop-row-test.false }
