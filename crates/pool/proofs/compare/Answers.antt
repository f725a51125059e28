-- `pool::compare` meets its contract. The loop's invariant: how the texts stand is how their rests from word i on stand. The measure is what is
-- left of the shorter. Assumes nothing.
use Prim.Native.Nat.{◌+◌, ◌*◌, ◌^◌, ◌<◌, min}
use mathlib.Core.Path.{◌∙◌}
use native.Mathlib.Omega.{arith}
use lib.ListN.{get_or}
use Rattle.pool.specs.Pool.{text_in}
use Rattle.definitions.specs.Bytes.{order}
use Rattle.pool.specs.Lanes.{top}
use Rattle.pool.proofs.ByteOrder.{told_by, shorter_less, longer_greater, both_equal}
use Rattle.pool.proofs.WordOrder.{words_start, words_less, words_greater, words_next}
use Rattle.pool.proofs.compare.Goals as goal

pub loop-i-init : goal.loop-i-init
loop-i-init c =
    let a = c.args in
    (words_start a.pool.now a.w a.n a.v a.m c.min-end.result)

pub loop-i-preserved : goal.loop-i-preserved
loop-i-preserved c =
    let l = c.loop-i in
    let a = c.args in (
    l.invariant
    ∙ words_next a.pool.now a.w a.n a.v a.m l.i c.min-end.result c.min.result
    c.min.ensures
    (omega arith) (omega arith) (omega arith)
    (omega arith)
    )

pub returns-then-x-y : goal.returns-then-x-y
returns-then-x-y c =
    record {
      compared = let l = c.loop-i in
          let a = c.args in
          let x = get_or a.pool.now (a.w + l.i) 0 in
          let y = get_or a.pool.now (a.v + l.i) 0 in
          let hx : x < 2 ^ 64 = omega (arith, c.type_inv.pool (a.w + l.i)) in
          let hy : y < 2 ^ 64 = omega (arith, c.type_inv.pool (a.v + l.i)) in
          told_by (top x c.min.result) (top y c.min.result) c.cmp.result c.cmp.ensures
          (λ h. l.invariant
          ∙ words_less a.pool.now a.w a.n a.v a.m l.i c.min-end.result c.min.result c.min.ensures
          (omega arith) (omega arith) (omega arith) hx hy h)
          (λ h. absurd (let z : ⊥ = omega (arith, c.if-x-y.true) in z))
          (λ h. l.invariant
          ∙ words_greater a.pool.now a.w a.n a.v a.m l.i c.min-end.result c.min.result c.min.ensures
          (omega arith) (omega arith) (omega arith) hx hy h);
    }

pub returns : goal.returns
returns c =
    record {
      compared = let l = c.loop-i in
          let a = c.args in
          let s = text_in a.pool.now a.w a.n in
          let t = text_in a.pool.now a.v a.m in
          told_by c.held-s.result c.held-t.result c.cmp-2.result {o = order s t} c.cmp-2.ensures
          (λ h. l.invariant ∙ shorter_less s t (min (8 * l.i) c.min-end.result) (omega arith) (omega arith))
          (λ h. l.invariant ∙ both_equal s t (min (8 * l.i) c.min-end.result) (omega arith) (omega arith))
          (λ h. l.invariant ∙ longer_greater s t (min (8 * l.i) c.min-end.result) (omega arith) (omega arith));
    }
