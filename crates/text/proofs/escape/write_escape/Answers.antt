-- `text::escape::write_escape` meets its contract: how a byte is written goes by its short form (`Escaped`). Assumes nothing.
use Prim.Native.Nat.{◌+◌}
use mathlib.Core.Path.{refl, sym, ap}
use lib.ListN.{length, length-set}
use Rattle.definitions.specs.Plain.{escaped}
use Rattle.text.proofs.Escaped.{escaped_short, escaped_hex, escaped_itself, length_hex_escape}
use Rattle.text.proofs.Writing.{writes_none, writes_next, writes_same}
use native.Mathlib.Omega.{arith}
use Rattle.text.proofs.escape.write_escape.Goals as goal

pub bounds-out-at : goal.bounds-out-at
bounds-out-at c = omega (arith, ap length (escaped_short c.args.b c.in-Some.c (sym c.in-Some.ensures.found)), c.requires)

pub bounds-out-at-in-Some : goal.bounds-out-at-in-Some
bounds-out-at-in-Some c =
    simp length-set (omega (arith, ap length (escaped_short c.args.b c.in-Some.c (sym c.in-Some.ensures.found)), c.requires))

pub returns-in-Some : goal.returns-in-Some
returns-in-Some c =
    record {
      written = let a = c.args in
          let e = escaped_short a.b c.in-Some.c (sym c.in-Some.ensures.found) in
          let s = ap length e in
          let l = c.requires in
          writes_same (escaped a.b) (a.at + 2)
          (writes_next (a.at + 1) c.in-Some.c
          (writes_next a.at 0x5C (writes_none a.out.now a.at) refl (omega arith)) refl (omega arith))
          (sym e) (omega arith);
    }

pub write_hex-requires : goal.write_hex-requires
write_hex-requires c =
    let e = escaped_hex c.args.b (sym c.in_default.ensures.found) c.if-b-lt32.true in
    omega (arith, ap length e, length_hex_escape c.args.b, c.requires)

pub returns-then-b-lt32 : goal.returns-then-b-lt32
returns-then-b-lt32 c =
    record {
      written = let a = c.args in
          writes_same (escaped a.b) c.write_hex.result c.write_hex.ensures.written
          (sym (escaped_hex c.args.b (sym c.in_default.ensures.found) c.if-b-lt32.true)) refl;
    }

pub bounds-out-at-2 : goal.bounds-out-at-2
bounds-out-at-2 c = omega (arith, ap length (escaped_itself c.args.b (sym c.in_default.ensures.found) c.if-b-lt32.false), c.requires)

pub returns : goal.returns
returns c =
    record {
      written = let a = c.args in
          let e = escaped_itself c.args.b (sym c.in_default.ensures.found) c.if-b-lt32.false in
          let s = ap length e in
          let l = c.requires in
          writes_same (escaped a.b) (a.at + 1) (writes_next a.at a.b (writes_none a.out.now a.at) refl (omega arith)) (sym e) refl;
    }
