-- `nodes::is_int` meets its contract: its loop goes from the last digit on, and what is left tells what the whole does. Assumes
-- nothing.
use Prim.Native.Nat.{ℕ, ◌+◌, ◌-◌, ◌/◌}
use mathlib.Core.Path.{◌≡◌, sym, ap₂, ◌∙◌}
use native.Mathlib.Omega.{arith}
use Rattle.definitions.specs.Number.{Number, is_int}
use Rattle.definitions.specs.Value.{Value}
use Rattle.nodes.specs.Nodes.{number_bits}
use Rattle.nodes.specs.NodesLaws.{sign_small}
use Rattle.nodes.proofs.Digits.{ends_in_zeros, none_left, one_less, no_zero}
use Rattle.nodes.proofs.is_int.Goals as goal

scale_of : (x : Number) (n : ℕ) → n ≡ number_bits (Value.number x) → n / 2 ≡ x.scale
unfolding number_bits
scale_of x n e = omega (arith, sign_small x.negative)

int_told
    : (x : Number) (bits coefficient : ℕ) → bits ≡ number_bits (Value.number x) → coefficient ≡ x.coefficient
    → ends_in_zeros (bits / 2) coefficient ≡ is_int x
unfolding is_int
int_told x bits coefficient e f = ap₂ (λ (k n : ℕ). ends_in_zeros k n) (scale_of x bits e) f

pub returns-then-digits-ne0 : goal.returns-then-digits-ne0
returns-then-digits-ne0 c =
    record {
      told = λ x e f. no_zero (c.args.bits / 2 - c.loop.counter) c.loop.digits (omega (arith, c.loop-test.true)) c.if-digits-ne0.true
          ∙ sym c.loop.invariant
          ∙ int_told x c.args.bits c.args.coefficient e f;
    }

pub loop-preserved : goal.loop-preserved
loop-preserved c =
    c.loop.invariant
    ∙ one_less (c.args.bits / 2 - c.loop.counter) (c.args.bits / 2 - (c.loop.counter + 1)) c.loop.digits
    (omega (arith, c.loop-test.true)) (omega (arith, c.if-digits-ne0.false))

pub returns : goal.returns
returns c =
    record {
      told = λ x e f. none_left (c.args.bits / 2 - c.loop.counter) c.loop.digits (omega (arith, c.loop-test.false))
          ∙ sym c.loop.invariant
          ∙ int_told x c.args.bits c.args.coefficient e f;
    }
