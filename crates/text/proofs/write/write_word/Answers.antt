-- `text::write::write_word` meets its contract. The loop's invariant: the first bytes are written. Assumes nothing.
use Prim.Native.Nat.{◌+◌, ◌≤◌}
use mathlib.Core.List.{[]}
use mathlib.Core.Path.{refl, sym, ap, ◌∙◌}
use native.Mathlib.Omega.{arith}
use lib.ListN.{length, take}
use Rattle.definitions.specs.Bytes.{Bytes}
use Rattle.definitions.specs.Plain.{escaped_all}
use Rattle.pool.specs.Pool.{unpacked}
use Rattle.text.proofs.Escaped.{escaped_none}
use Rattle.text.proofs.Writing.{writes_none, writes_same}
use Rattle.text.proofs.Words.{escaped_whole, byte_room, byte_written}
use Rattle.text.proofs.write.write_word.Goals as goal

pub loop-b-init : goal.loop-b-init
loop-b-init c = writes_same (escaped_all []) c.args.at (writes_none c.args.out.now c.args.at) (sym escaped_none) refl

pub write_byte-j-requires : goal.write_byte-j-requires
unfolding unpacked
write_byte-j-requires c =
    let a = c.args in
    let l = c.loop-b in
    let s = take a.n c.to_be_bytes.result in
    let room : a.at + length (escaped_all s) ≤ length a.out.now =
    omega (arith, ap (λ (t : Bytes). length (escaped_all (take a.n t))) c.to_be_bytes.ensures, c.requires.1) in
    byte_room s l.b-index l.invariant room c.loop-b-test.true

pub loop-b-preserved : goal.loop-b-preserved
unfolding unpacked
loop-b-preserved c =
    let a = c.args in
    let l = c.loop-b in
    let s = take a.n c.to_be_bytes.result in
    let room : a.at + length (escaped_all s) ≤ length a.out.now =
    omega (arith, ap (λ (t : Bytes). length (escaped_all (take a.n t))) c.to_be_bytes.ensures, c.requires.1) in
    byte_written s l.b-index l.invariant room c.loop-b-test.true c.write_byte-j.ensures.written

pub returns : goal.returns
unfolding unpacked
returns c =
    record {
      written = let a = c.args in
          let l = c.loop-b in
          writes_same (escaped_all (take a.n (unpacked a.word))) l.j l.invariant
          (escaped_whole (take a.n c.to_be_bytes.result) l.b-index c.loop-b-test.false
          ∙ ap (λ (t : Bytes). escaped_all (take a.n t)) c.to_be_bytes.ensures)
          refl;
    }
