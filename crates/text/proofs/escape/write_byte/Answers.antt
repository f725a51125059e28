-- `text::escape::write_byte` meets its contract. Assumes nothing.
use mathlib.Core.Path.{refl, sym, ap}
use lib.ListN.{length}
use native.Mathlib.Omega.{arith}
use Rattle.definitions.specs.Plain.{escaped}
use Rattle.text.proofs.Writing.{writes_none, writes_next, writes_same}
use Rattle.text.proofs.escape.write_byte.Goals as goal

pub bounds-out-at : goal.bounds-out-at
bounds-out-at c = omega (arith, ap length (c.needs_no_escape.ensures.told c.if-needs_no_escape.true), c.requires)

pub returns-then-needs_no_escape : goal.returns-then-needs_no_escape
returns-then-needs_no_escape c =
    record {
      written = let a = c.args in
          let e = c.needs_no_escape.ensures.told c.if-needs_no_escape.true in
          let s = ap length e in
          let l = c.requires in
          writes_same (escaped a.b) _ (writes_next a.at a.b (writes_none a.out.now a.at) refl (omega arith)) (sym e) refl;
    }
