-- Laws of a row's first word: kind, sign and scale, and length are read back from it. Assumes nothing.
use Rattle.std.specs.Prelude.{◌/◌, ◌%◌, ◌<◌, ◌≡◌, true, false, length}
use Rattle.std.proofs.Common.{arith}
use Rattle.definitions.specs.Number.{most_scale}
use Rattle.definitions.specs.Value.{Value}
use Rattle.definitions.specs.Plain.{plain}
use Rattle.nodes.specs.Nodes.{kind_code, number_bits, head_word}
pub use Rattle.nodes.specs.NodesLaws.{sign_small}
use Rattle.plain.specs.Table.{BoundedNumbers}

-- ---- kind-code

pub kind_small : (v : Value) → kind_code v < 7
unfolding kind_code
kind_small Value.null = omega arith
kind_small (Value.bool true) = omega arith
kind_small (Value.bool false) = omega arith
kind_small (Value.number x) = omega arith
kind_small (Value.text t) = omega arith
kind_small (Value.list vs) = omega arith
kind_small (Value.rec ms) = omega arith

-- ---- number-bits

pub bits_small : (v : Value) → BoundedNumbers v → number_bits v < 32
unfolding number_bits BoundedNumbers most_scale
bits_small Value.null b = omega arith
bits_small (Value.bool t) b = omega arith
bits_small (Value.number x) b = omega (arith, sign_small x.negative, b.scale)
bits_small (Value.text t) b = omega arith
bits_small (Value.list vs) b = omega arith
bits_small (Value.rec ms) b = omega arith

-- ---- head-word

-- whatever its other parts are
pub head_kind : (v : Value) → head_word v % 8 ≡ kind_code v
unfolding head_word
head_kind v = omega (arith, kind_small v)

pub head_bits : (v : Value) → number_bits v < 32 → head_word v / 8 % 32 ≡ number_bits v
unfolding head_word
head_bits v h = omega (arith, kind_small v)

pub head_length : (v : Value) → number_bits v < 32 → head_word v / 256 ≡ length (plain v)
unfolding head_word
head_length v h = omega (arith, kind_small v)
