-- `text::write::write_whole` meets its contract. Assumes nothing.
use mathlib.Core.Path.{sym, ap}
use native.Mathlib.Omega.{arith}
use lib.ListN.{length}
use Rattle.definitions.specs.Bytes.{Bytes}
use Rattle.definitions.specs.Plain.{escaped_all}
use Rattle.pool.specs.PoolLaws.{length_unpacked}
use Rattle.text.specs.WritesLaws.{writes_as}
use Rattle.text.proofs.Onward.{take_unpacked, bare_whole}
use Rattle.text.proofs.write.write_whole.Goals as goal

pub store-requires : goal.store-requires
store-requires c =
    omega (
      arith,
      c.requires,
      ap length (bare_whole c.args.x (c.is_bare.ensures.told c.if-is_bare.true)),
      length_unpacked c.args.x,
    )

pub returns-then-is_bare : goal.returns-then-is_bare
returns-then-is_bare c =
    record {
      written = writes_as (sym (bare_whole c.args.x (c.is_bare.ensures.told c.if-is_bare.true)))
          c.store.ensures.stored;
    }

pub write_word-requires : goal.write_word-requires
write_word-requires c =
    (omega arith, omega (arith, c.requires, ap (λ (t : Bytes). length (escaped_all t)) (take_unpacked c.args.x)))

pub returns : goal.returns
returns c = record { written = writes_as (ap escaped_all (take_unpacked c.args.x)) c.write_word.ensures.written }
