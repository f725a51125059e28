-- `text::eight::put_run` meets its contract. The loop's invariant: the bytes up to place i stand for themselves and are put (`Stood`). The measure
-- is what is left of the document. Assumes nothing.
use Prim.Native.Nat.{◌+◌, ◌-◌, ◌≤◌}
use mathlib.Core.Path.{◌∙◌}
use lib.ListN.{length}
use Rattle.pool.specs.PoolLaws.{words_bytes}
use Rattle.text.proofs.Puts.{puts_behind, room_behind}
use Rattle.text.proofs.Odd.{all_stand, front_stands}
use Rattle.text.proofs.EightBytes.{stood_start, stood_word, stood_room}
use Rattle.text.proofs.PutWords.{front_alone, front_whole}
use native.Mathlib.Omega.{arith}
use Rattle.text.proofs.eight.put_run.Goals as goal

pub overflow_add-w : goal.overflow_add-w
overflow_add-w c =
    let a = c.args in
    omega (arith, words_bytes a.w (a.n + (length a.doc.now - a.at)) (length a.pool.now) c.requires.1, c.well_formed)

pub put_standing-requires : goal.put_standing-requires
put_standing-requires c =
    let a = c.args in
    (c.requires.0, room_behind a.w a.n (length a.doc.now - a.at) c.if-n-eq0.true c.requires.1)

pub shape_of-pool-then-n-eq0 : goal.shape_of-pool-then-n-eq0
shape_of-pool-then-n-eq0 c = c.put_standing.ensures.put.puts.keeps.kept

pub returns-then-n-eq0 : goal.returns-then-n-eq0
returns-then-n-eq0 c =
    record {
      put = let s = c.put_standing.ensures.put in
          record {
            stands = s.stands;
            puts = puts_behind c.if-n-eq0.true s.puts;
            ahead = s.ahead;
            within = s.within;
          };
    }

pub loop-i-init : goal.loop-i-init
loop-i-init c = let a = c.args in stood_start a.doc.now a.at a.pool.now a.w a.n c.requires.0

pub overflow_sub-doc : goal.overflow_sub-doc
overflow_sub-doc c = omega (arith, c.loop-i.invariant.within)

pub word_at-x-requires : goal.word_at-x-requires
word_at-x-requires c = omega (arith, c.loop-i.invariant.within, c.loop-i-test.true)

pub past_wides-m-requires : goal.past_wides-m-requires
past_wides-m-requires c = front_stands c.odd-marks.ensures.marked (omega arith) c.if-marks-ne0.true c.first.ensures.counted

pub overflow_sub-i : goal.overflow_sub-i
overflow_sub-i c =
    omega (arith, c.loop-i.invariant.ahead)

pub overflow_add-n : goal.overflow_add-n
overflow_add-n c =
    let a = c.args in
    let l = c.loop-i in
    let b : l.i + 8 ≤ length a.doc.now = omega (arith, l.invariant.within, c.loop-i-test.true) in
    omega (arith, words_bytes a.w (a.n + (length a.doc.now - a.at)) (length a.pool.now) c.requires.1, l.invariant.ahead, c.well_formed)

pub front-requires : goal.front-requires
front-requires c = c.past_wides-m.ensures.found.within

pub put_part-requires : goal.put_part-requires
put_part-requires c =
    let a = c.args in
    let l = c.loop-i in
    let b : l.i + 8 ≤ length a.doc.now = omega (arith, l.invariant.within, c.loop-i-test.true) in
    let m = c.past_wides-m.ensures.found.within in (
      m,
      stood_room a.doc.now l.invariant c.requires.1 b,
      front_alone c.word_at-x.result c.front.result c.past_wides-m.result m c.front.ensures.cut,
    )

pub overflow_add-i : goal.overflow_add-i
overflow_add-i c =
    omega (arith, c.loop-i.invariant.within, c.loop-i-test.true, c.past_wides-m.ensures.found.within, c.well_formed)

pub shape_of-pool-then-m-lt5 : goal.shape_of-pool-then-m-lt5
shape_of-pool-then-m-lt5 c =
    c.put_part.ensures.put.keeps.kept ∙ c.loop-i.invariant.puts.keeps.kept

pub returns-then-m-lt5 : goal.returns-then-m-lt5
returns-then-m-lt5 c =
    record {
      put = let a = c.args in
          let l = c.loop-i in
          let b : l.i + 8 ≤ length a.doc.now = omega (arith, l.invariant.within, c.loop-i-test.true) in
          stood_word a.doc.now c.word_at-x.result c.front.result c.past_wides-m.result l.invariant
          c.word_at-x.ensures.packed b c.past_wides-m.ensures.found
          c.front.ensures.cut c.put_part.ensures.put;
    }

pub loop-i-smaller-else-m-lt5 : goal.loop-i-smaller-else-m-lt5
loop-i-smaller-else-m-lt5 c =
    omega (arith, c.loop-i.invariant.within, c.loop-i-test.true, c.past_wides-m.ensures.found.within, c.if-m-lt5.false)

pub loop-i-preserved-else-m-lt5 : goal.loop-i-preserved-else-m-lt5
loop-i-preserved-else-m-lt5 c =
    let a = c.args in
    let l = c.loop-i in
    let b : l.i + 8 ≤ length a.doc.now = omega (arith, l.invariant.within, c.loop-i-test.true) in
    stood_word a.doc.now c.word_at-x.result c.front.result c.past_wides-m.result l.invariant
    c.word_at-x.ensures.packed b c.past_wides-m.ensures.found
    c.front.ensures.cut c.put_part.ensures.put

pub overflow_sub-i-else-marks-ne0 : goal.overflow_sub-i-else-marks-ne0
overflow_sub-i-else-marks-ne0 c =
    omega (arith, c.loop-i.invariant.ahead)

pub overflow_add-n-else-marks-ne0 : goal.overflow_add-n-else-marks-ne0
overflow_add-n-else-marks-ne0 c =
    let a = c.args in
    let l = c.loop-i in
    let b : l.i + 8 ≤ length a.doc.now = omega (arith, l.invariant.within, c.loop-i-test.true) in
    omega (arith, words_bytes a.w (a.n + (length a.doc.now - a.at)) (length a.pool.now) c.requires.1, l.invariant.ahead, c.well_formed)

pub put_part-requires-else-marks-ne0 : goal.put_part-requires-else-marks-ne0
put_part-requires-else-marks-ne0 c =
    let a = c.args in
    let l = c.loop-i in
    let b : l.i + 8 ≤ length a.doc.now = omega (arith, l.invariant.within, c.loop-i-test.true) in
    (omega arith, stood_room a.doc.now l.invariant c.requires.1 b, front_whole c.word_at-x.result)

pub overflow_add-i-else-marks-ne0 : goal.overflow_add-i-else-marks-ne0
overflow_add-i-else-marks-ne0 c =
    omega (arith, c.loop-i.invariant.within, c.loop-i-test.true, c.well_formed)

pub loop-i-smaller : goal.loop-i-smaller
loop-i-smaller c =
    omega (arith, c.loop-i.invariant.within, c.loop-i-test.true)

pub loop-i-preserved : goal.loop-i-preserved
loop-i-preserved c =
    let a = c.args in
    let l = c.loop-i in
    let b : l.i + 8 ≤ length a.doc.now = omega (arith, l.invariant.within, c.loop-i-test.true) in
    stood_word a.doc.now c.word_at-x.result c.word_at-x.result 8 l.invariant c.word_at-x.ensures.packed b
    (all_stand c.odd-marks.ensures.marked c.if-marks-ne0.false)
    (front_whole c.word_at-x.result) c.put_part-else-marks-ne0.ensures.put

pub shape_of-pool : goal.shape_of-pool
shape_of-pool c = c.loop-i.invariant.puts.keeps.kept

pub returns : goal.returns
returns c = record { put = c.loop-i.invariant }
