-- `nodes::has_member` meets its contract: what is left of the members has the name where all have it. Assumes nothing.
use mathlib.Core.Path.{refl}
use native.Mathlib.Omega.{arith}
use Rattle.pool.specs.PoolLaws.{length_held}
use Rattle.nodes.specs.StandingLaws.{whole_parts, compared_parts}
use Rattle.nodes.proofs.Members.{walk_begins, walk_step, walk_whole, walk_found, walk_on, walk_ends}
use Rattle.nodes.proofs.has_member.Goals as goal

pub loop-i-init : goal.loop-i-init
loop-i-init c =
    walk_begins c.args.nodes.now c.args.pool.now c.args.at c.args.end c.args.name

pub overflow_add-k : goal.overflow_add-k
overflow_add-k c =
    let a = c.args in
    let s = walk_step a.nodes.now a.pool.now a.at a.end a.name c.loop-i.invariant c.requires c.loop-i-test.true in
    omega (arith, s.0, s.2)

pub offset_bounds-nodes-i : goal.offset_bounds-nodes-i
offset_bounds-nodes-i c =
    let a = c.args in
    let s = walk_step a.nodes.now a.pool.now a.at a.end a.name c.loop-i.invariant c.requires c.loop-i-test.true in
    omega (arith, s.0, s.1)

pub bounds-nodes-i : goal.bounds-nodes-i
bounds-nodes-i c =
    let a = c.args in
    let s = walk_step a.nodes.now a.pool.now a.at a.end a.name c.loop-i.invariant c.requires c.loop-i-test.true in
    omega (arith, s.0, s.1)

pub same_held-requires : goal.same_held-requires
same_held-requires c =
    let a = c.args in (
      length_held a.pool.now c.text_word-w.result c.text_bytes.result
          c.held-n.result c.held-n.ensures.counted,
      whole_parts a.pool.now _ c.text_word.ensures.split c.text_bytes-in-loop-i.ensures.split
          (walk_whole a.nodes.now a.pool.now a.at a.end a.name c.loop-i.invariant c.requires
          c.loop-i-test.true refl),
    )

pub returns-then-same_held : goal.returns-then-same_held
returns-then-same_held c =
    record {
      found = let a = c.args in
          walk_found a.nodes.now a.pool.now a.at a.end a.name c.loop-i.invariant refl
          (compared_parts a.pool.now a.name _ c.text_word-w.ensures.split c.text_bytes.ensures.split
          c.held-n.ensures.counted c.text_word.ensures.split c.text_bytes-in-loop-i.ensures.split
          c.same_held.ensures.compared)
          c.loop-i-test.true c.if-same_held.true;
    }

pub row_size_in-i-requires : goal.row_size_in-i-requires
row_size_in-i-requires c =
    let a = c.args in
    let s = walk_step a.nodes.now a.pool.now a.at a.end a.name c.loop-i.invariant c.requires c.loop-i-test.true in
    omega (arith, s.0, s.1)

pub overflow_add-i : goal.overflow_add-i
overflow_add-i c =
    let a = c.args in
    let s = walk_step a.nodes.now a.pool.now a.at a.end a.name c.loop-i.invariant c.requires c.loop-i-test.true in
    omega (arith, s.2, c.row_size_in-i.ensures.sized)

pub loop-i-smaller : goal.loop-i-smaller
loop-i-smaller c =
    let a = c.args in
    let s = walk_step a.nodes.now a.pool.now a.at a.end a.name c.loop-i.invariant c.requires c.loop-i-test.true in
    omega (arith, s.0, s.2, c.row_size_in-i.ensures.sized, c.loop-i-test.true)

pub loop-i-preserved : goal.loop-i-preserved
loop-i-preserved c =
    let a = c.args in
    walk_on a.nodes.now a.pool.now a.at a.end a.name c.loop-i.invariant refl
    (compared_parts a.pool.now a.name _ c.text_word-w.ensures.split c.text_bytes.ensures.split
    c.held-n.ensures.counted c.text_word.ensures.split c.text_bytes-in-loop-i.ensures.split
    c.same_held.ensures.compared)
    c.loop-i-test.true c.if-same_held.false c.row_size_in-i.ensures.sized

pub returns : goal.returns
returns c =
    record {
      found = let a = c.args in
          walk_ends a.nodes.now a.pool.now a.at a.end a.name c.loop-i.invariant c.loop-i-test.false;
    }
