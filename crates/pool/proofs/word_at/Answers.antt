-- `pool::word_at` meets its contract. Assumes nothing.
use native.Mathlib.Omega.{arith}
use Rattle.pool.proofs.EightBytes.{unpacked_word}
use Rattle.pool.proofs.word_at.Goals as goal

pub returns : goal.returns
returns c =
    record {
      packed = let a = c.args in
          unpacked_word a.bytes.now a.i c.from_be_bytes.result c.requires (λ k. omega (arith, c.type_inv.bytes k)) (omega arith);
    }
