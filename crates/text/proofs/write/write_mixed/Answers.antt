-- `text::write::write_mixed` meets its contract. The loop's invariant: the words so far are written up to place j (`Onward`). Assumes nothing.
use native.Mathlib.Omega.{arith}
use Rattle.pool.specs.Pool.{words}
use Rattle.text.proofs.Onward.{filled, past, onward_as, onward_first, onward_room_word, onward_room_front}
use Rattle.text.proofs.Onward.{onward_word, onward_front, onward_end}
use Rattle.text.proofs.write.write_mixed.Goals as goal

pub slice_bounds-x-items-end : goal.slice_bounds-x-items-end
unfolding words
slice_bounds-x-items-end c = omega (arith, c.requires.0)

pub loop-x-init : goal.loop-x-init
loop-x-init c = let a = c.args in onward_first a.pool.now a.w a.n a.out.now a.at c.requires.0

pub write_whole-j-requires : goal.write_whole-j-requires
write_whole-j-requires c =
    let a = c.args in
    let f = filled a.pool.now a.w a.n c.loop-x.x-index c.requires.0 c.loop-x-test.true in
    rw f.same (onward_room_word c.loop-x.invariant c.requires.1 f.full)

pub loop-x-preserved : goal.loop-x-preserved
loop-x-preserved c =
    let a = c.args in
    let f = filled a.pool.now a.w a.n c.loop-x.x-index c.requires.0 c.loop-x-test.true in
    onward_as (onward_word c.loop-x.invariant c.requires.1 f.full (rw f.same at c.write_whole-j.ensures.written)) f.next f.rest

pub returns-then-left-eq0 : goal.returns-then-left-eq0
returns-then-left-eq0 c =
    record {
      written = let a = c.args in
          let l = c.loop-x in
          let p = past a.pool.now a.w a.n l.x-index c.requires.0 c.loop-x-test.false l.auto.x-index-end in
          onward_end (onward_as l.invariant p.word p.left) c.requires.1 c.if-left-eq0.true;
    }

pub bounds-pool-full : goal.bounds-pool-full
unfolding words
bounds-pool-full c = omega (arith, c.requires.0, c.if-left-eq0.false)

pub write_word-requires : goal.write_word-requires
write_word-requires c =
    let a = c.args in
    let l = c.loop-x in
    let p = past a.pool.now a.w a.n l.x-index c.requires.0 c.loop-x-test.false l.auto.x-index-end in (
      omega arith,
      onward_room_front (onward_as l.invariant p.word p.left) c.requires.1 (omega (arith, c.if-left-eq0.false)) (omega arith),
    )

pub returns : goal.returns
returns c =
    record {
      written = let a = c.args in
          let l = c.loop-x in
          let p = past a.pool.now a.w a.n l.x-index c.requires.0 c.loop-x-test.false l.auto.x-index-end in
          onward_front (onward_as l.invariant p.word p.left) c.requires.1 (omega (arith, c.if-left-eq0.false)) (omega arith)
          c.write_word.ensures.written;
    }
