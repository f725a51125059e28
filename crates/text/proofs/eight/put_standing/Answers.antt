-- `text::eight::put_standing` meets its contract. Assumes nothing.
use Prim.Native.Nat.{◌+◌, ◌≤◌}
use lib.ListN.{length, length-set}
use Rattle.text.proofs.Odd.{all_stand, front_stands}
use Rattle.text.proofs.EightBytes.{by_words_start, by_words_room, by_words_last, by_words_next}
use native.Mathlib.Omega.{arith}
use Rattle.text.proofs.eight.put_standing.Goals as goal

pub loop-i-init : goal.loop-i-init
loop-i-init c = let a = c.args in by_words_start a.doc.now a.at a.pool.now a.w c.requires.0

pub overflow_sub-doc : goal.overflow_sub-doc
overflow_sub-doc c = omega (arith, c.loop-i.invariant.stood.within)

pub word_at-x-requires : goal.word_at-x-requires
word_at-x-requires c = omega (arith, c.loop-i.invariant.stood.within, c.loop-i-test.true)

pub front-requires : goal.front-requires
front-requires c = (front_stands c.odd-marks.ensures.marked (omega arith) c.if-marks-ne0.true c.first-m.ensures.counted).within

pub offset_bounds-pool-k : goal.offset_bounds-pool-k
offset_bounds-pool-k c =
    let a = c.args in
    let l = c.loop-i in
    let b : l.i + 8 ≤ length a.doc.now = omega (arith, l.invariant.stood.within, c.loop-i-test.true) in
    omega (
      arith,
      by_words_room a.doc.now a.at a.pool.now a.w l.pool l.i l.k l.invariant c.requires.1 b,
      l.invariant.stood.puts.keeps.kept,
      c.well_formed,
    )

pub bounds-pool-k : goal.bounds-pool-k
bounds-pool-k c =
    let a = c.args in
    let l = c.loop-i in
    let b : l.i + 8 ≤ length a.doc.now = omega (arith, l.invariant.stood.within, c.loop-i-test.true) in
    by_words_room a.doc.now a.at a.pool.now a.w l.pool l.i l.k l.invariant c.requires.1 b

pub overflow_add-result : goal.overflow_add-result
overflow_add-result c =
    let a = c.args in
    let l = c.loop-i in
    let b : l.i + 8 ≤ length a.doc.now = omega (arith, l.invariant.stood.within, c.loop-i-test.true) in
    let s = front_stands c.odd-marks.ensures.marked (omega arith) c.if-marks-ne0.true c.first-m.ensures.counted in
    omega (arith, s.within, c.well_formed)

pub shape_of-pool-then-marks-ne0 : goal.shape_of-pool-then-marks-ne0
shape_of-pool-then-marks-ne0 c =
    rw length-set c.loop-i.invariant.stood.puts.keeps.kept

pub returns-then-marks-ne0 : goal.returns-then-marks-ne0
returns-then-marks-ne0 c =
    record {
      put = let a = c.args in
          let l = c.loop-i in
          let b : l.i + 8 ≤ length a.doc.now = omega (arith, l.invariant.stood.within, c.loop-i-test.true) in
          by_words_last a.doc.now a.at a.pool.now a.w l.pool l.i l.k l.invariant c.requires.1 b
          c.word_at-x.result c.front.result
          c.first-m.result c.word_at-x.ensures.packed
          (front_stands c.odd-marks.ensures.marked (omega arith) c.if-marks-ne0.true c.first-m.ensures.counted) c.front.ensures.cut;
    }

pub offset_bounds-pool-k-in-loop-i : goal.offset_bounds-pool-k-in-loop-i
offset_bounds-pool-k-in-loop-i c =
    let a = c.args in
    let l = c.loop-i in
    let b : l.i + 8 ≤ length a.doc.now = omega (arith, l.invariant.stood.within, c.loop-i-test.true) in
    omega (
      arith,
      by_words_room a.doc.now a.at a.pool.now a.w l.pool l.i l.k l.invariant c.requires.1 b,
      l.invariant.stood.puts.keeps.kept,
      c.well_formed,
    )

pub bounds-pool-k-in-loop-i : goal.bounds-pool-k-in-loop-i
bounds-pool-k-in-loop-i c =
    let a = c.args in
    let l = c.loop-i in
    let b : l.i + 8 ≤ length a.doc.now = omega (arith, l.invariant.stood.within, c.loop-i-test.true) in
    by_words_room a.doc.now a.at a.pool.now a.w l.pool l.i l.k l.invariant c.requires.1 b

pub overflow_add-i : goal.overflow_add-i
overflow_add-i c =
    omega (arith, c.loop-i.invariant.stood.within, c.loop-i-test.true, c.well_formed)

pub overflow_add-k : goal.overflow_add-k
overflow_add-k c =
    let a = c.args in
    let l = c.loop-i in
    let b : l.i + 8 ≤ length a.doc.now = omega (arith, l.invariant.stood.within, c.loop-i-test.true) in
    omega (
      arith,
      by_words_room a.doc.now a.at a.pool.now a.w l.pool l.i l.k l.invariant c.requires.1 b,
      l.invariant.stood.puts.keeps.kept,
      c.well_formed,
    )

pub loop-i-smaller : goal.loop-i-smaller
loop-i-smaller c =
    omega (arith, c.loop-i.invariant.stood.within, c.loop-i-test.true)

pub loop-i-preserved : goal.loop-i-preserved
loop-i-preserved c =
    let a = c.args in
    let l = c.loop-i in
    let b : l.i + 8 ≤ length a.doc.now = omega (arith, l.invariant.stood.within, c.loop-i-test.true) in
    by_words_next a.doc.now a.at a.pool.now a.w l.pool l.i l.k l.invariant c.requires.1 b c.word_at-x.result
    c.word_at-x.ensures.packed
    (all_stand c.odd-marks.ensures.marked c.if-marks-ne0.false)

pub shape_of-pool : goal.shape_of-pool
shape_of-pool c = c.loop-i.invariant.stood.puts.keeps.kept

pub returns : goal.returns
returns c = record { put = c.loop-i.invariant.stood }
