-- `inputs::first_shape` meets its contract. Assumes nothing.
use Prim.Native.Nat.{◌≤◌}
use native.Mathlib.Omega.{arith}
use mathlib.Core.Path.{sym}
use lib.ListN.{length}
use lib.Seq.{length-take-le}
use Rattle.inputs.proofs.ShapeTexts.{front_room, first_judged}
use Rattle.inputs.proofs.first_shape.Goals as goal

pub slice_bounds-read_shape-end-2 : goal.slice_bounds-read_shape-end-2
slice_bounds-read_shape-end-2 c =
    let n = c.name_words-names.result in
    let h : n ≤ length c.args.pool.now = omega (arith, c.name_words-names.ensures.counted, c.requires.names) in
    sym (length-take-le n c.args.pool.now h)

pub read_shape-requires : goal.read_shape-requires
read_shape-requires c =
    let a = c.args in
    front_room a.limits a.text.now a.shapes.now a.pool.now c.name_words-names.result c.name_words-names.ensures.counted
    c.requires

pub returns : goal.returns
returns c =
    record {
      judged = let a = c.args in
          let n = c.name_words-names.result in
          let h : n ≤ length a.pool.now = omega (arith, c.name_words-names.ensures.counted, c.requires.names) in
          first_judged a.limits a.text.now a.shapes.now a.pool.now n c.name_words-names.ensures.counted _ _ c.read_shape.result
          h c.read_shape.ensures.judged;
    }
