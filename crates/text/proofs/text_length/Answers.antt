-- `text::text_length` meets its contract. The loop's invariant: the quotes and the words so far are counted (`Counted`). Assumes nothing.
use mathlib.Core.Path.{refl, sym, ◌∙◌}
use native.Mathlib.Omega.{arith}
use Rattle.pool.specs.Pool.{words, text_in}
use Rattle.text.proofs.Escaped.{length_plain}
use Rattle.text.proofs.Onward.{filled, past, counted_as, counted_start, counted_word, counted_bound, counted_front, counted_end}
use Rattle.text.proofs.text_length.Goals as goal

pub slice_bounds-x-items-end : goal.slice_bounds-x-items-end
unfolding words
slice_bounds-x-items-end c = omega (arith, c.requires.0)

pub loop-x-init : goal.loop-x-init
loop-x-init c = counted_start c.args.pool.now c.args.w c.args.n c.requires.0

pub whole_length-written-requires : goal.whole_length-written-requires
whole_length-written-requires c =
    let a = c.args in
    let f = filled a.pool.now a.w a.n c.loop-x.x-index c.requires.0 c.loop-x-test.true in
    rw f.same
    (omega (
      arith,
      counted_bound c.loop-x.invariant f.full,
      length_plain (text_in a.pool.now a.w a.n),
      c.requires.1,
    ))

pub overflow_add-written : goal.overflow_add-written
overflow_add-written c =
    let a = c.args in
    let f = filled a.pool.now a.w a.n c.loop-x.x-index c.requires.0 c.loop-x-test.true in
    omega (
      arith,
      rw f.same at c.whole_length-written.ensures.counted,
      counted_bound c.loop-x.invariant f.full,
      length_plain (text_in a.pool.now a.w a.n),
      c.requires.1,
    )

pub loop-x-preserved : goal.loop-x-preserved
loop-x-preserved c =
    let a = c.args in
    let f = filled a.pool.now a.w a.n c.loop-x.x-index c.requires.0 c.loop-x-test.true in
    counted_as (counted_word c.loop-x.invariant c.whole_length-written.result f.full (rw f.same at c.whole_length-written.ensures.counted))
    f.next f.rest

pub returns-then-left-eq0 : goal.returns-then-left-eq0
returns-then-left-eq0 c =
    record {
      counted = let a = c.args in
          let l = c.loop-x in
          let p = past a.pool.now a.w a.n l.x-index c.requires.0 c.loop-x-test.false l.auto.x-index-end in
          counted_end (counted_as l.invariant p.word p.left) c.if-left-eq0.true ∙ sym (length_plain (text_in a.pool.now a.w a.n));
    }

pub bounds-pool-full : goal.bounds-pool-full
unfolding words
bounds-pool-full c = omega (arith, c.requires.0, c.if-left-eq0.false)

pub front_length-requires : goal.front_length-requires
front_length-requires c =
    let a = c.args in
    let l = c.loop-x in
    let p = past a.pool.now a.w a.n l.x-index c.requires.0 c.loop-x-test.false l.auto.x-index-end in (
      omega arith,
      omega (
        arith,
        counted_front (counted_as l.invariant p.word p.left) _ (omega (arith, c.if-left-eq0.false)) (omega arith) refl,
        length_plain (text_in a.pool.now a.w a.n),
        c.requires.1,
      ),
    )

pub overflow_add-result : goal.overflow_add-result
overflow_add-result c =
    let a = c.args in
    let l = c.loop-x in
    let p = past a.pool.now a.w a.n l.x-index c.requires.0 c.loop-x-test.false l.auto.x-index-end in
    omega (
      arith,
      counted_front (counted_as l.invariant p.word p.left) c.front_length.result (omega (arith, c.if-left-eq0.false)) (omega arith)
          c.front_length.ensures.counted,
      length_plain (text_in a.pool.now a.w a.n),
      c.requires.1,
    )

pub returns : goal.returns
returns c =
    record {
      counted = let a = c.args in
          let l = c.loop-x in
          let p = past a.pool.now a.w a.n l.x-index c.requires.0 c.loop-x-test.false l.auto.x-index-end in
          counted_front (counted_as l.invariant p.word p.left) c.front_length.result (omega (arith, c.if-left-eq0.false)) (omega arith)
          c.front_length.ensures.counted
          ∙ sym (length_plain (text_in a.pool.now a.w a.n));
    }
