-- `tokens::word_value` meets its contract. The loop's invariant is `Joins`: x is the number of the bytes before.
-- Assumes nothing.
use Prim.Native.Nat.{ℕ}
use mathlib.Core.Path.{subst}
use native.Mathlib.Omega.{arith}
use Rattle.tokens.proofs.Words.{Joins, joins, joins_in, joins_small, long_told, short_told, length_in}
use Rattle.tokens.proofs.word_value.Goals as goal

pub returns-then-n-gt7 : goal.returns-then-n-gt7
returns-then-n-gt7 c = record { told = long_told c.args.text.now c.args.at c.args.end c.requires.0 c.requires.1 c.if-n-gt7.true }

pub loop-b-init : goal.loop-b-init
loop-b-init c = joins c.args.text.now c.args.at

pub overflow_mul-x : goal.overflow_mul-x
overflow_mul-x c =
    omega (
      arith,
      joins_small 6 c.loop-b.invariant
          (omega (arith, c.loop-b-test.true, c.if-n-gt7.false, length_in c.args.text.now c.args.at c.args.end c.requires.0 c.requires.1)),
    )

pub loop-b-preserved : goal.loop-b-preserved
loop-b-preserved c =
    joins_in c.args.text.now c.args.at c.args.end c.requires.0 c.requires.1 (λ k. omega (arith, c.type_inv.text k)) c.loop-b.invariant
    c.loop-b-test.true

pub overflow_mul-result : goal.overflow_mul-result
overflow_mul-result c =
    omega (
      arith,
      joins_small 7 c.loop-b.invariant
          (omega (arith, c.loop-b.auto.b-index-end, c.if-n-gt7.false, length_in c.args.text.now c.args.at c.args.end c.requires.0 c.requires.1)),
    )

pub overflow_add-result : goal.overflow_add-result
overflow_add-result c =
    omega (
      arith,
      joins_small 7 c.loop-b.invariant
          (omega (arith, c.loop-b.auto.b-index-end, c.if-n-gt7.false, length_in c.args.text.now c.args.at c.args.end c.requires.0 c.requires.1)),
      c.if-n-gt7.false,
    )

pub returns : goal.returns
returns c =
    record {
      told = short_told c.args.text.now c.args.at c.args.end c.requires.0 c.requires.1 (omega (arith, c.if-n-gt7.false))
          (subst (λ (i : ℕ). Joins c.args.text.now c.args.at i c.loop-b.x)
          (omega (
            arith,
            c.loop-b-test.false,
            c.loop-b.auto.b-index-end,
            length_in c.args.text.now c.args.at c.args.end c.requires.0 c.requires.1,
          ))
          c.loop-b.invariant);
    }
