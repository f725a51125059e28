-- `running::places::find_member` meets its contract. Assumes nothing.
use mathlib.Core.Path.{refl}
use native.Mathlib.Omega.{arith}
use Rattle.pool.specs.PoolLaws.{length_held}
use Rattle.nodes.specs.StandingLaws.{whole_parts, compared_parts}
use Rattle.running.proofs.Lookup.{begins, record_within, record_inside, step, named_whole, found_Here, goes_on, ends}
use Rattle.running.proofs.places.find_member.Goals as goal

pub overflow_add-end : goal.overflow_add-end
overflow_add-end c =
    let a = c.args in
    omega (arith, c.row_size.ensures.sized, (record_within a.nodes.now a.pool.now a.at a.name c.requires).0)

pub overflow_add-i : goal.overflow_add-i
overflow_add-i c =
    let a = c.args in
    omega (arith, (record_within a.nodes.now a.pool.now a.at a.name c.requires).1)

pub loop-i-init : goal.loop-i-init
loop-i-init c = begins _ _ _ _

pub overflow_add-k : goal.overflow_add-k
overflow_add-k c =
    let a = c.args in
    let s = step a.nodes.now a.pool.now a.at a.name c.loop-i.invariant c.requires
    (omega (arith, c.loop-i-test.true, c.row_size.ensures.sized)) in
    omega (arith, s.0, s.1)

pub offset_bounds-nodes-i : goal.offset_bounds-nodes-i
offset_bounds-nodes-i c =
    let a = c.args in
    let s = step a.nodes.now a.pool.now a.at a.name c.loop-i.invariant c.requires
    (omega (arith, c.loop-i-test.true, c.row_size.ensures.sized)) in
    omega (arith, s.0, s.1)

pub bounds-nodes-i : goal.bounds-nodes-i
bounds-nodes-i c =
    let a = c.args in
    let s = step a.nodes.now a.pool.now a.at a.name c.loop-i.invariant c.requires
    (omega (arith, c.loop-i-test.true, c.row_size.ensures.sized)) in
    omega (arith, s.0, s.2, record_inside a.nodes.now a.pool.now a.at a.name c.requires)

pub same_held-requires : goal.same_held-requires
same_held-requires c =
    let a = c.args in (
      length_held a.pool.now c.text_word-w.result c.text_bytes.result
          c.held-n.result c.held-n.ensures.counted,
      whole_parts a.pool.now _ c.text_word.ensures.split c.text_bytes-in-loop-i.ensures.split
          (named_whole a.nodes.now a.pool.now a.at a.name c.loop-i.invariant c.requires
          (omega (arith, c.loop-i-test.true, c.row_size.ensures.sized)) refl),
    )

pub returns-then-same_held : goal.returns-then-same_held
returns-then-same_held c =
    record {
      found = let a = c.args in
          found_Here a.nodes.now a.pool.now a.at a.name c.loop-i.invariant refl
          (compared_parts a.pool.now a.name _ c.text_word-w.ensures.split c.text_bytes.ensures.split
          c.held-n.ensures.counted c.text_word.ensures.split
          c.text_bytes-in-loop-i.ensures.split c.same_held.ensures.compared)
          (omega (arith, c.loop-i-test.true, c.row_size.ensures.sized)) c.if-same_held.true;
    }

pub row_size_in-i-requires : goal.row_size_in-i-requires
row_size_in-i-requires c =
    let a = c.args in
    let s = step a.nodes.now a.pool.now a.at a.name c.loop-i.invariant c.requires
    (omega (arith, c.loop-i-test.true, c.row_size.ensures.sized)) in
    omega (arith, s.0, s.2, record_inside a.nodes.now a.pool.now a.at a.name c.requires)

pub overflow_add-i-in-loop-i : goal.overflow_add-i-in-loop-i
overflow_add-i-in-loop-i c =
    let a = c.args in
    let s = step a.nodes.now a.pool.now a.at a.name c.loop-i.invariant c.requires
    (omega (arith, c.loop-i-test.true, c.row_size.ensures.sized)) in
    omega (arith, c.row_size_in-i.ensures.sized, s.1)

pub loop-i-smaller : goal.loop-i-smaller
loop-i-smaller c =
    let a = c.args in
    let s = step a.nodes.now a.pool.now a.at a.name c.loop-i.invariant c.requires
    (omega (arith, c.loop-i-test.true, c.row_size.ensures.sized)) in
    omega (arith, c.row_size_in-i.ensures.sized, c.loop-i-test.true, s.0)

pub loop-i-preserved : goal.loop-i-preserved
loop-i-preserved c =
    let a = c.args in
    goes_on a.nodes.now a.pool.now a.at a.name c.loop-i.invariant refl
    (compared_parts a.pool.now a.name _ c.text_word-w.ensures.split c.text_bytes.ensures.split
    c.held-n.ensures.counted c.text_word.ensures.split
    c.text_bytes-in-loop-i.ensures.split c.same_held.ensures.compared)
    (omega (arith, c.loop-i-test.true, c.row_size.ensures.sized)) c.if-same_held.false
    c.row_size_in-i.ensures.sized

pub returns : goal.returns
returns c =
    record {
      found = let a = c.args in
          ends a.nodes.now a.pool.now a.at a.name c.loop-i.invariant (omega (arith, c.loop-i-test.false, c.row_size.ensures.sized));
    }
