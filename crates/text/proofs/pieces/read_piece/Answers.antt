-- `text::pieces::read_piece` meets its contract. Assumes nothing.
use mathlib.Core.Path.{refl, sym, ◌∙◌}
use Rattle.text.proofs.Tables.{plain_ascii_outside}
use Rattle.text.proofs.Reading.{room_one, piece_itself}
use native.Mathlib.Omega.{arith}
use Rattle.text.proofs.pieces.read_piece.Goals as goal

pub overflow_mul-w : goal.overflow_mul-w
overflow_mul-w c =
    let a = c.args in
    omega (arith, room_one a.doc.now a.i a.pool.now a.w a.n c.requires.0.1 c.requires.0.0, c.well_formed)

pub overflow_add-w : goal.overflow_add-w
overflow_add-w c =
    let a = c.args in
    omega (arith, room_one a.doc.now a.i a.pool.now a.w a.n c.requires.0.1 c.requires.0.0, c.well_formed)

pub put_byte-requires : goal.put_byte-requires
put_byte-requires c =
    let a = c.args in room_one a.doc.now a.i a.pool.now a.w a.n c.requires.0.1 c.requires.0.0

pub overflow_add-result : goal.overflow_add-result
overflow_add-result c =
    omega (arith, c.requires.0.0, c.well_formed)

pub overflow_add-result-then-is_plain_ascii : goal.overflow_add-result-then-is_plain_ascii
overflow_add-result-then-is_plain_ascii c =
    let a = c.args in
    omega (arith, room_one a.doc.now a.i a.pool.now a.w a.n c.requires.0.1 c.requires.0.0, c.well_formed)

pub returns-then-is_plain_ascii : goal.returns-then-is_plain_ascii
returns-then-is_plain_ascii c =
    record {
      read = let a = c.args in
          piece_itself a.doc.now a.i a.pool.now c.put_byte.new.pool a.w a.n _ c.requires.0.0 refl
          (sym c.is_plain_ascii.ensures.judged ∙ c.if-is_plain_ascii.true) c.put_byte.ensures.put
          (room_one a.doc.now a.i a.pool.now a.w a.n c.requires.0.1 c.requires.0.0);
    }

pub read_wides-requires : goal.read_wides-requires
read_wides-requires c = (
  c.requires.0,
  plain_ascii_outside _ (sym c.is_plain_ascii.ensures.judged ∙ c.if-is_plain_ascii.false) c.requires.1
      c.if-b-eq92.false,
)
