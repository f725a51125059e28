-- `text::read_rest` meets its contract. The loop's invariant: up to place i all is read (`Reading`). The measure is what is left of the document.
-- Assumes nothing.
use mathlib.Core.Path.{◌∙◌}
use Rattle.text.specs.TextRead.{ReadsText}
use Rattle.text.proofs.Passed.{passed}
use Rattle.text.proofs.Reading.{reading_next, reading_closed, reading_end, reading_broken, room_left}
use Rattle.text.proofs.EightBytes.{reading_run}
use native.Mathlib.Omega.{arith}
use Rattle.text.proofs.read_rest.Goals as goal

pub overflow_sub-n : goal.overflow_sub-n
overflow_sub-n c = omega (arith, c.requires.0.shorter)

pub overflow_add-written : goal.overflow_add-written
overflow_add-written c =
    omega (arith, c.requires.0.within, c.well_formed)

pub loop-i-init : goal.loop-i-init
loop-i-init c = c.requires.0

pub bounds-doc-i : goal.bounds-doc-i
bounds-doc-i c = omega (arith, c.loop-i-test.true)

pub overflow_add-result : goal.overflow_add-result
overflow_add-result c =
    omega (arith, c.loop-i-test.true, c.well_formed)

pub shape_of-pool-then-doc-i-eq34 : goal.shape_of-pool-then-doc-i-eq34
shape_of-pool-then-doc-i-eq34 c = c.loop-i.invariant.keeps.kept

pub returns-then-doc-i-eq34 : goal.returns-then-doc-i-eq34
returns-then-doc-i-eq34 c = record { read = reading_closed c.loop-i.invariant c.requires.1 c.loop-i-test.true c.if-doc-i-eq34.true }

pub read_piece-requires : goal.read_piece-requires
read_piece-requires c =
    ((c.loop-i-test.true, room_left c.loop-i.invariant c.requires.1 (omega (arith, c.loop-i-test.true))), c.if-doc-i-eq34.false)

pub shape_of-pool-in_err-piece : goal.shape_of-pool-in_err-piece
shape_of-pool-in_err-piece c = c.in_err-piece.ensures.read.keeps.kept ∙ c.loop-i.invariant.keeps.kept

pub returns-in_err-piece : goal.returns-in_err-piece
returns-in_err-piece c =
    record {
      read = let a = c.args in
          let l = c.loop-i in
          passed (ReadsText a.doc.now a.at a.pool.now c.read_piece.new.pool a.w) c.from_residual.result c.from_residual.ensures.1
          (reading_broken l.invariant c.requires.1 c.in_err-piece.ensures.read);
    }

pub put_run-i-requires : goal.put_run-i-requires
put_run-i-requires c =
    let r = c.in_ok-piece.ensures.read in
    (r.read.within, room_left (reading_next c.loop-i.invariant r.read) c.requires.1 r.read.within)

pub overflow_sub-n-in-loop-i : goal.overflow_sub-n-in-loop-i
overflow_sub-n-in-loop-i c = omega (arith, c.put_run-i.ensures.put.ahead)

pub overflow_add-n : goal.overflow_add-n
overflow_add-n c =
    let f = reading_run c.loop-i.invariant c.in_ok-piece.ensures.read c.put_run-i.ensures.put in
    omega (arith, f.shorter, f.within, c.well_formed)

pub overflow_sub-written : goal.overflow_sub-written
overflow_sub-written c = omega (arith, c.put_run-i.ensures.put.ahead)

pub overflow_add-written-in-loop-i : goal.overflow_add-written-in-loop-i
overflow_add-written-in-loop-i c =
    let f = reading_run c.loop-i.invariant c.in_ok-piece.ensures.read c.put_run-i.ensures.put in
    omega (arith, f.bounded, f.within, c.well_formed)

pub overflow_add-written-in-loop-i-2 : goal.overflow_add-written-in-loop-i-2
overflow_add-written-in-loop-i-2 c =
    let f = reading_run c.loop-i.invariant c.in_ok-piece.ensures.read c.put_run-i.ensures.put in
    omega (arith, f.bounded, f.within, c.well_formed)

pub loop-i-smaller : goal.loop-i-smaller
loop-i-smaller c = omega (arith, c.in_ok-piece.ensures.read.ahead, c.put_run-i.ensures.put.ahead, c.put_run-i.ensures.put.within)

pub loop-i-preserved : goal.loop-i-preserved
loop-i-preserved c = reading_run c.loop-i.invariant c.in_ok-piece.ensures.read c.put_run-i.ensures.put

pub shape_of-pool : goal.shape_of-pool
shape_of-pool c = c.loop-i.invariant.keeps.kept

pub returns : goal.returns
returns c = record { read = reading_end c.loop-i.invariant c.requires.1 c.loop-i-test.false }
