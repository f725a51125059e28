-- `text::write::word_length` meets its contract. The loop's invariant: what the first bytes are in plain JSON is counted. Assumes nothing.
use Prim.Native.Nat.{◌+◌}
use mathlib.Core.Path.{◌≡◌, sym, ap, ◌∙◌}
use native.Mathlib.Omega.{arith}
use lib.ListN.{length, take}
use Rattle.definitions.specs.Bytes.{Bytes}
use Rattle.definitions.specs.Plain.{escaped_all}
use Rattle.pool.specs.Pool.{unpacked}
use Rattle.text.proofs.Escaped.{escaped_none}
use Rattle.text.proofs.Writing.{escaped_part}
use Rattle.text.proofs.Words.{escaped_count, escaped_whole}
use Rattle.text.proofs.write.word_length.Goals as goal

pub loop-b-init : goal.loop-b-init
loop-b-init c = sym (ap length escaped_none)

pub overflow_add-written : goal.overflow_add-written
unfolding unpacked
overflow_add-written c =
    let a = c.args in
    let l = c.loop-b in
    let s = take a.n c.to_be_bytes.result in
    let e : length (escaped_all s) ≡ length (escaped_all (take a.n (unpacked a.word))) =
    ap (λ (t : Bytes). length (escaped_all (take a.n t))) c.to_be_bytes.ensures in
    omega (
      arith,
      c.cost-written.ensures.counted,
      l.invariant,
      escaped_count s l.b-index c.loop-b-test.true,
      escaped_part (l.b-index + 1) s,
      e,
      c.requires.1,
    )

pub loop-b-preserved : goal.loop-b-preserved
loop-b-preserved c =
    let l = c.loop-b in
    omega (
      arith,
      c.cost-written.ensures.counted,
      l.invariant,
      escaped_count (take c.args.n c.to_be_bytes.result) l.b-index c.loop-b-test.true,
    )

pub returns : goal.returns
unfolding unpacked
returns c =
    record {
      counted = let a = c.args in
          let l = c.loop-b in
          l.invariant
          ∙ ap length (escaped_whole (take a.n c.to_be_bytes.result) l.b-index c.loop-b-test.false)
          ∙ ap (λ (t : Bytes). length (escaped_all (take a.n t))) c.to_be_bytes.ensures;
    }
