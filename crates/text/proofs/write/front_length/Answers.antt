-- `text::write::front_length` meets its contract. Assumes nothing.
use mathlib.Core.Path.{sym, ap, ◌∙◌}
use native.Mathlib.Omega.{arith}
use lib.ListN.{length}
use lib.Seq.{length-take-le}
use Rattle.pool.specs.Pool.{unpacked}
use Rattle.pool.specs.PoolLaws.{length_unpacked}
use Rattle.text.proofs.write.front_length.Goals as goal

pub returns-then-starts_bare : goal.returns-then-starts_bare
returns-then-starts_bare c =
    record {
      counted = let a = c.args in
          sym (ap length (c.starts_bare.ensures.told c.if-starts_bare.true)
          ∙ length-take-le a.n (unpacked a.x) (omega (arith, c.requires.0, length_unpacked a.x)));
    }
