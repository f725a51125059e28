-- `pool::same_whole` meets its contract. The loop's invariant: the words before i are the same. Where a word differs the texts do
-- (`top_of_texts`); where no whole word does, nor the rest behind them, the texts are the same (`texts_of_words`). The measure is the words left.
-- Assumes nothing.
use Prim.Native.Nat.{◌+◌, ◌/◌, ◌%◌}
use mathlib.Core.Path.{◌≡◌, sym, ◌∙◌}
use native.Mathlib.Nat.{div-one}
use native.Mathlib.Omega.{arith}
use lib.ListN.{get_or}
use Rattle.pool.proofs.ByteOrder.{same_true, same_false, same_eqb}
use Rattle.pool.specs.Lanes.{top}
use Rattle.pool.proofs.WordOrder.{alike_next, top_of_texts, texts_of_words}
use Rattle.pool.proofs.same_whole.Goals as goal

pub loop-i-init : goal.loop-i-init
loop-i-init c = λ j h. absurd (let z : ⊥ = omega arith in z)

pub returns-then-pool-w : goal.returns-then-pool-w
returns-then-pool-w c =
    record {
      compared = let a = c.args in
          let x = get_or a.pool.now (a.w + c.loop-i.i) 0 in
          let y = get_or a.pool.now (a.v + c.loop-i.i) 0 in
          same_false
          (λ e.
          let q : x ≡ y =
          sym (div-one x)
          ∙ top_of_texts a.pool.now a.w a.v a.n c.loop-i.i 8 (omega arith) (omega arith)
          (omega (arith, c.type_inv.pool (a.w + c.loop-i.i)))
          (omega (arith, c.type_inv.pool (a.v + c.loop-i.i)))
          e
          ∙ div-one y in
          omega (arith, c.if-pool-w.true));
    }

pub loop-i-preserved : goal.loop-i-preserved
loop-i-preserved c =
    let a = c.args in
    alike_next a.pool.now a.w a.v c.loop-i.i c.loop-i.invariant (omega (arith, c.if-pool-w.false))

pub returns-then-rest-eq0 : goal.returns-then-rest-eq0
returns-then-rest-eq0 c =
    record {
      compared = let a = c.args in
          same_true
          (texts_of_words a.pool.now a.w a.v a.n c.requires.0 c.requires.1
          (λ j h. c.loop-i.invariant j (omega arith))
          (λ h. absurd (let z : ⊥ = omega arith in z)));
    }

pub returns : goal.returns
returns c =
    record {
      compared = let a = c.args in
          same_eqb (top (get_or a.pool.now (a.w + a.n / 8) 0) (a.n % 8)) (top (get_or a.pool.now (a.v + a.n / 8) 0) (a.n % 8))
          (λ e.
          texts_of_words a.pool.now a.w a.v a.n c.requires.0 c.requires.1
          (λ j h. c.loop-i.invariant j (omega arith))
          (λ h. e))
          (top_of_texts a.pool.now a.w a.v a.n (a.n / 8) (a.n % 8) (omega arith) (omega arith)
          (omega (arith, c.type_inv.pool (a.w + a.n / 8)))
          (omega (arith, c.type_inv.pool (a.v + a.n / 8))));
    }
