-- `json_reader::scalar::matching` meets its contract. The loop's invariant is `Matching`: the bytes before are the name's.
-- Assumes nothing.
use mathlib.Core.Path.{sym, ◌∙◌}
use native.Mathlib.Omega.{arith}
use Rattle.json_reader.proofs.White.{get_d_any}
use Rattle.json_reader.proofs.Spelling.{matching_on}
use Rattle.json_reader.proofs.scalar.matching.Goals as goal

pub loop-i-preserved : goal.loop-i-preserved
loop-i-preserved c =
    let inside = c.loop-i-test.true in
    let same = get_d_any c.args.name.now c.loop-i.i 256 0 inside in
    let byte = c.type_inv.name c.loop-i.i in
    matching_on c.loop-i.invariant inside (sym c.peek.ensures.read ∙ c.if-peek-b.false ∙ sym same) (omega (arith, byte))
