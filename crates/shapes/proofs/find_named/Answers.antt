-- `shapes::find_named` meets its contract. The loop's invariant is `Searching`: the name is none of those before. Assumes nothing.
use mathlib.Core.Path.{refl}
use native.Mathlib.Omega.{arith}
use Rattle.pool.specs.PoolLaws.{length_held}
use Rattle.nodes.specs.StandingLaws.{whole_parts}
use Rattle.shapes.specs.Shapes.{size_at}
use Rattle.shapes.proofs.Searches.{asked, searching, step_sizes, step_whole, found_Here, searched_on, not_found}
use Rattle.shapes.proofs.find_named.Goals as goal

pub loop-row-init : goal.loop-row-init
loop-row-init c = searching

pub overflow_add-m : goal.overflow_add-m
overflow_add-m c =
    let s = step_sizes c.requires c.loop-row.invariant c.loop-row-test.true in
    omega (arith, s.0, s.1)

pub offset_bounds-shapes-row : goal.offset_bounds-shapes-row
offset_bounds-shapes-row c =
    let s = step_sizes c.requires c.loop-row.invariant c.loop-row-test.true in
    omega (arith, s.2, c.well_formed.0.0)

pub bounds-shapes-row : goal.bounds-shapes-row
bounds-shapes-row c =
    let s = step_sizes c.requires c.loop-row.invariant c.loop-row-test.true in
    omega (arith, s.2)

pub same_held-requires : goal.same_held-requires
same_held-requires c =
    let a = c.args in (
      length_held a.pool.now c.text_word-w.result c.text_bytes.result
          c.held-n.result c.held-n.ensures.counted,
      whole_parts a.pool.now _ c.text_word.ensures.split c.text_bytes-in-loop-row.ensures.split
          (step_whole c.requires c.loop-row.invariant c.loop-row-test.true),
    )

pub returns-then-same_held : goal.returns-then-same_held
returns-then-same_held c =
    record {
      told = found_Here
          c.loop-row.invariant
          c.loop-row-test.true
          (asked c.args.k c.text_word-w.ensures.split c.text_bytes.ensures.split
          c.held-n.ensures.counted c.text_word.ensures.split c.text_bytes-in-loop-row.ensures.split
          c.same_held.ensures.compared)
          c.if-same_held.true;
    }

pub offset_bounds-shapes-row-in-loop-row : goal.offset_bounds-shapes-row-in-loop-row
offset_bounds-shapes-row-in-loop-row c =
    let s = step_sizes c.requires c.loop-row.invariant c.loop-row-test.true in
    omega (arith, s.2, c.well_formed.0.0)

pub bounds-shapes-row-in-loop-row : goal.bounds-shapes-row-in-loop-row
bounds-shapes-row-in-loop-row c =
    let s = step_sizes c.requires c.loop-row.invariant c.loop-row-test.true in
    omega (arith, s.2)

pub overflow_add-row : goal.overflow_add-row
unfolding size_at
overflow_add-row c =
    let s = step_sizes c.requires c.loop-row.invariant c.loop-row-test.true in
    omega (arith, s.1)

pub loop-row-smaller : goal.loop-row-smaller
unfolding size_at
loop-row-smaller c =
    let s = step_sizes c.requires c.loop-row.invariant c.loop-row-test.true in
    omega (arith, s.0, s.1)

pub loop-row-preserved : goal.loop-row-preserved
unfolding size_at
loop-row-preserved c =
    searched_on
    c.loop-row.invariant
    c.loop-row-test.true
    (asked c.args.k c.text_word-w.ensures.split c.text_bytes.ensures.split c.held-n.ensures.counted
    c.text_word.ensures.split c.text_bytes-in-loop-row.ensures.split
    c.same_held.ensures.compared)
    c.if-same_held.false
    refl

pub returns : goal.returns
returns c = record { told = not_found c.loop-row.invariant c.loop-row-test.false }
