-- `nodes::row_is_int` meets its contract. Assumes nothing.
use Prim.Native.Nat.{ℕ, ◌/◌, ◌%◌, ◌<◌}
use mathlib.Core.Path.{◌≡◌, ap, ◌∙◌}
use native.Mathlib.Omega.{arith}
use Rattle.definitions.specs.Number.{Number}
use Rattle.definitions.specs.Value.{Value}
use Rattle.nodes.specs.Nodes.{head_word, kind_code, number_bits}
use Rattle.nodes.specs.NodesLaws.{sign_small}
use Rattle.nodes.proofs.row_is_int.Goals as goal

bits_of : (x : Number) (n : ℕ) → x.scale < 16 → n ≡ head_word (Value.number x) → n / 8 % 32 ≡ number_bits (Value.number x)
unfolding head_word kind_code number_bits
bits_of x n h e = omega (arith, sign_small x.negative)

pub returns : goal.returns
returns c = record {
  told = λ x h. c.is_int.ensures.told x (ap (λ (n : ℕ). n / 8 % 32) c.word.ensures.read
      ∙ bits_of x _ h.small h.head) (c.row_payload.ensures.read ∙ h.payload);
}
