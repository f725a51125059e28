-- `text::write_text` meets its contract: a quote, what stands between, a quote (`quoted`). Assumes nothing.
use mathlib.Core.Path.{◌∙◌}
use lib.ListN.{length-set}
use native.Mathlib.Omega.{arith}
use Rattle.pool.specs.Pool.{text_in}
use Rattle.text.proofs.Escaped.{length_plain}
use Rattle.text.proofs.Writing.{quoted_place, quoted_length, quoted}
use Rattle.text.proofs.write_text.Goals as goal

pub bounds-out-at : goal.bounds-out-at
bounds-out-at c =
    let a = c.args in
    omega (arith, c.requires.1, length_plain (text_in a.pool.now a.w a.n))

pub write_inside-j-requires : goal.write_inside-j-requires
write_inside-j-requires c =
    let a = c.args in (
      c.requires.0,
      omega (arith, c.requires.1, length_plain (text_in a.pool.now a.w a.n), length-set a.out.now a.at 0x22),
    )

pub bounds-out-j : goal.bounds-out-j
bounds-out-j c =
    let written = c.write_inside-j.ensures.written in
    let a = c.args in
    let t = text_in a.pool.now a.w a.n in
    omega (arith, quoted_place t a.out.now a.at c.requires.1 written, quoted_length t a.out.now a.at c.requires.1 written)

pub overflow_add-result : goal.overflow_add-result
overflow_add-result c =
    let written = c.write_inside-j.ensures.written in
    let a = c.args in
    omega (arith, quoted_place (text_in a.pool.now a.w a.n) a.out.now a.at c.requires.1 written, c.well_formed)

pub shape_of-out : goal.shape_of-out
shape_of-out c =
    let a = c.args in
    length-set c.write_inside-j.new.out c.write_inside-j.result 0x22
    ∙ quoted_length (text_in a.pool.now a.w a.n) a.out.now a.at c.requires.1 c.write_inside-j.ensures.written

pub returns : goal.returns
returns c =
    record {
      written = let a = c.args in
          quoted (text_in a.pool.now a.w a.n) a.out.now a.at c.requires.1 c.write_inside-j.ensures.written;
    }
