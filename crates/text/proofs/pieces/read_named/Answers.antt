-- `text::pieces::read_named` meets its contract: the character's bytes are put (`piece_named`). Assumes nothing.
use Prim.Native.Nat.{◌+◌}
use mathlib.Core.Path.{sym, subst}
use Rattle.definitions.specs.Utf8.{encode}
use lib.Seq.{length-take-le}
use Rattle.pool.specs.PoolLaws.{words_bytes}
use Rattle.text.specs.TextParts.{PieceRead, ReadsPiece}
use Rattle.text.proofs.Escaped.{length_encode}
use Rattle.text.proofs.Passed.{passed}
use Rattle.text.proofs.Puts.{keeps_none, puts_same}
use Rattle.text.proofs.Reading.{room_for, front_fits, front_part, named_within, named_breaks, piece_named}
use native.Mathlib.Omega.{arith}
use Rattle.text.proofs.pieces.read_named.Goals as goal

pub read_unicode-requires : goal.read_unicode-requires
read_unicode-requires c = let a = c.args in let p = c.requires in named_within a.doc.now a.i p.0.0 p.1 p.2

pub returns-in_err-code : goal.returns-in_err-code
returns-in_err-code c =
    record {
      read = let a = c.args in
          let p = c.requires in
          passed (ReadsPiece a.doc.now a.i a.pool.now a.pool.now a.w a.n) c.from_residual.result c.from_residual.ensures.1
          (record {
            breaks = named_breaks a.doc.now a.i p.0.0 p.1 p.2 c.in_err-code.field-0.0 c.in_err-code.ensures.read;
            keeps = keeps_none a.pool.now a.w;
          });
    }

pub encoded-bytes-requires : goal.encoded-bytes-requires
encoded-bytes-requires c = c.in_ok-code.ensures.read.valid

pub put_bytes-requires : goal.put_bytes-requires
put_bytes-requires c =
    let a = c.args in
    let v = c.in_ok-code.code.value in
    let h = c.in_ok-code.ensures.read in
    let m = h.within in
    let l = h.ahead in
    let o = front_fits (encode v) c.encoded-bytes.result c.encoded-bytes.ensures.encoded in
    let e = c.encoded_length-k.ensures.counted in
    let k = length-take-le c.encoded_length-k.result c.encoded-bytes.result (omega arith) in
    rw k (room_for a.doc.now a.i a.pool.now a.w a.n c.encoded_length-k.result c.requires.0.1 (omega (arith, length_encode v)))

pub overflow_add-result : goal.overflow_add-result
overflow_add-result c =
    let a = c.args in
    let v = c.in_ok-code.code.value in
    let h = c.in_ok-code.ensures.read in
    let m = h.within in
    let l = h.ahead in
    let e = c.encoded_length-k.ensures.counted in
    let r = room_for a.doc.now a.i a.pool.now a.w a.n c.encoded_length-k.result c.requires.0.1 (omega (arith, length_encode v)) in
    omega (arith, words_bytes a.w (a.n + c.encoded_length-k.result) _ r, c.well_formed)

pub returns : goal.returns
returns c =
    record {
      read = let a = c.args in
          let p = c.requires in
          let v = c.in_ok-code.code.value in
          let next = c.in_ok-code.code.next in
          subst
          (λ m. PieceRead a.doc.now a.i a.pool.now c.put_bytes.new.pool a.w a.n next (a.n + m) c.character_cost.result)
          (sym c.encoded_length-k.ensures.counted)
          (piece_named a.doc.now a.i p.0.0 p.1 p.2 a.pool.now c.put_bytes.new.pool a.w a.n next v
          c.character_cost.result c.in_ok-code.ensures.read
          (puts_same c.put_bytes.ensures.put
          (front_part (encode v) c.encoded-bytes.result c.encoded_length-k.result c.encoded_length-k.ensures.counted
          c.encoded-bytes.ensures.encoded))
          c.character_cost.ensures.counted);
    }
