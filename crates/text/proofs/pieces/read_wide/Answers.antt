-- `text::pieces::read_wide` meets its contract: the character's bytes are put as they are (`piece_wide`). Assumes nothing.
use Prim.Native.Nat.{◌+◌, ◌-◌}
use lib.ListN.{drop, length-drop}
use lib.Seq.{length-take-le}
use Rattle.pool.specs.PoolLaws.{words_bytes}
use Rattle.text.specs.TextParts.{ReadsPiece}
use Rattle.text.proofs.Passed.{passed}
use Rattle.text.proofs.Puts.{keeps_none}
use Rattle.text.proofs.Reading.{room_for, piece_wide}
use native.Mathlib.Omega.{arith}
use Rattle.text.proofs.pieces.read_wide.Goals as goal

pub returns-in_err-next : goal.returns-in_err-next
returns-in_err-next c =
    record {
      read = let a = c.args in
          passed (ReadsPiece a.doc.now a.i a.pool.now a.pool.now a.w a.n) c.from_residual.result c.from_residual.ensures.1
          (record { breaks = c.in_err-next.ensures.read; keeps = keeps_none a.pool.now a.w });
    }

pub put_bytes-requires : goal.put_bytes-requires
put_bytes-requires c =
    let a = c.args in
    let h = c.in_ok-next.ensures.read in
    let l = h.ahead in
    let m = h.within in
    let e = length-take-le (c.in_ok-next.next - a.i) (drop a.i a.doc.now) (omega (arith, length-drop a.i a.doc.now)) in
    rw e (room_for a.doc.now a.i a.pool.now a.w a.n (c.in_ok-next.next - a.i) c.requires.0.1 (omega arith))

pub overflow_sub-result : goal.overflow_sub-result
overflow_sub-result c = omega (arith, c.in_ok-next.ensures.read.ahead)

pub overflow_add-result : goal.overflow_add-result
overflow_add-result c =
    let a = c.args in
    let m = c.in_ok-next.ensures.read.within in
    let r = room_for a.doc.now a.i a.pool.now a.w a.n (c.in_ok-next.next - a.i) c.requires.0.1 (omega arith) in
    omega (arith, words_bytes a.w (a.n + (c.in_ok-next.next - a.i)) _ r, c.well_formed)

pub overflow_sub-result-2 : goal.overflow_sub-result-2
overflow_sub-result-2 c = omega (arith, c.in_ok-next.ensures.read.ahead)

pub returns : goal.returns
returns c =
    record {
      read = let a = c.args in
          piece_wide a.doc.now a.i a.pool.now c.put_bytes.new.pool a.w a.n c.in_ok-next.next c.in_ok-next.ensures.read c.put_bytes.ensures.put;
    }
