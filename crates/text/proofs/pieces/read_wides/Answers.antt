-- `text::pieces::read_wides` meets its contract: what the word has whole is put at once (`piece_word`). Assumes nothing.
use Prim.Native.Nat.{◌+◌, ◌≤◌}
use lib.ListN.{length}
use Rattle.pool.specs.PoolLaws.{words_bytes}
use Rattle.text.proofs.Reading.{room_for}
use Rattle.text.proofs.Stands.{front_none}
use Rattle.text.proofs.EightBytes.{piece_word}
use Rattle.text.proofs.PutWords.{front_alone}
use native.Mathlib.Omega.{arith}
use Rattle.text.proofs.pieces.read_wides.Goals as goal

pub overflow_sub-doc : goal.overflow_sub-doc
overflow_sub-doc c = omega (arith, c.requires.0.0)

pub word_at-x-requires : goal.word_at-x-requires
word_at-x-requires c = omega (arith, c.requires.0.0, c.if-doc-i-lt8.false)

pub past_wides-m-requires : goal.past_wides-m-requires
past_wides-m-requires c = front_none c.word_at-x.result

pub front-requires : goal.front-requires
front-requires c = c.past_wides-m.ensures.found.within

pub put_part-requires : goal.put_part-requires
put_part-requires c =
    let a = c.args in
    let m = c.past_wides-m.ensures.found.within in (
      m,
      room_for a.doc.now a.i a.pool.now a.w a.n 8 c.requires.0.1 c.if-doc-i-lt8.false,
      front_alone c.word_at-x.result c.front.result c.past_wides-m.result m c.front.ensures.cut,
    )

pub overflow_add-result : goal.overflow_add-result
overflow_add-result c =
    omega (arith, c.requires.0.0, c.if-doc-i-lt8.false, c.past_wides-m.ensures.found.within, c.well_formed)

pub overflow_add-result-2 : goal.overflow_add-result-2
overflow_add-result-2 c =
    let a = c.args in
    let r = room_for a.doc.now a.i a.pool.now a.w a.n 8 c.requires.0.1 c.if-doc-i-lt8.false in
    omega (arith, words_bytes a.w (a.n + 8) _ r, c.past_wides-m.ensures.found.within, c.well_formed)

pub shape_of-pool : goal.shape_of-pool
shape_of-pool c = c.put_part.ensures.put.keeps.kept

pub returns : goal.returns
returns c =
    record {
      read = let a = c.args in
          let b : a.i + 8 ≤ length a.doc.now = omega (arith, c.requires.0.0, c.if-doc-i-lt8.false) in
          piece_word a.doc.now c.word_at-x.result c.front.result c.past_wides-m.result
          c.word_at-x.ensures.packed b c.past_wides-m.ensures.found c.if-m-eq0.false
          c.front.ensures.cut c.put_part.ensures.put;
    }
