-- `text::read_text` meets its contract. Assumes nothing.
use mathlib.Core.Path.{◌∙◌}
use Rattle.text.proofs.Reading.{reading_closed}
use Rattle.text.proofs.EightBytes.{reading_standing, reading_rest, reads_behind}
use native.Mathlib.Omega.{arith}
use Rattle.text.proofs.read_text.Goals as goal

pub bounds-doc-i : goal.bounds-doc-i
bounds-doc-i c = omega (arith, c.if-i-doc.true)

pub overflow_add-result : goal.overflow_add-result
overflow_add-result c =
    omega (arith, c.if-i-doc.true, c.well_formed)

pub overflow_sub-result : goal.overflow_sub-result
overflow_sub-result c =
    omega (arith, c.put_standing-i.ensures.put.ahead)

pub overflow_sub-result-then-doc-i-eq34 : goal.overflow_sub-result-then-doc-i-eq34
overflow_sub-result-then-doc-i-eq34 c =
    omega (arith, c.put_standing-i.ensures.put.ahead)

pub overflow_add-result-then-doc-i-eq34 : goal.overflow_add-result-then-doc-i-eq34
overflow_add-result-then-doc-i-eq34 c =
    omega (arith, c.put_standing-i.ensures.put.within, c.well_formed)

pub shape_of-pool-then-doc-i-eq34 : goal.shape_of-pool-then-doc-i-eq34
shape_of-pool-then-doc-i-eq34 c =
    c.put_standing-i.ensures.put.puts.keeps.kept

pub returns-then-doc-i-eq34 : goal.returns-then-doc-i-eq34
returns-then-doc-i-eq34 c = record { read = reading_closed (reading_standing c.put_standing-i.ensures.put) c.requires.1 c.if-i-doc.true c.if-doc-i-eq34.true }

pub read_rest-requires : goal.read_rest-requires
read_rest-requires c =
    reading_rest c.put_standing-i.ensures.put c.requires.1

pub shape_of-pool-then-i-doc : goal.shape_of-pool-then-i-doc
shape_of-pool-then-i-doc c =
    c.read_rest.ensures.read.kept ∙ c.put_standing-i.ensures.put.puts.keeps.kept

pub returns-then-i-doc : goal.returns-then-i-doc
returns-then-i-doc c = record { read = reads_behind c.put_standing-i.ensures.put.puts.keeps c.read_rest.ensures.read }

pub read_rest-requires-2 : goal.read_rest-requires-2
read_rest-requires-2 c =
    reading_rest c.put_standing-i.ensures.put c.requires.1

pub shape_of-pool : goal.shape_of-pool
shape_of-pool c =
    c.read_rest-2.ensures.read.kept ∙ c.put_standing-i.ensures.put.puts.keeps.kept

pub returns : goal.returns
returns c = record { read = reads_behind c.put_standing-i.ensures.put.puts.keeps c.read_rest-2.ensures.read }
