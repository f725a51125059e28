-- `text::write::whole_length` meets its contract. Assumes nothing.
use mathlib.Core.Path.{sym, ap, ◌∙◌}
use native.Mathlib.Omega.{arith}
use lib.ListN.{length}
use Rattle.definitions.specs.Bytes.{Bytes}
use Rattle.definitions.specs.Plain.{escaped_all}
use Rattle.pool.specs.PoolLaws.{length_unpacked}
use Rattle.text.proofs.Onward.{take_unpacked, bare_whole}
use Rattle.text.proofs.write.whole_length.Goals as goal

pub returns-then-is_bare : goal.returns-then-is_bare
returns-then-is_bare c =
    record {
      counted = let a = c.args in
          sym (ap length (bare_whole a.x (c.is_bare.ensures.told c.if-is_bare.true)) ∙ length_unpacked a.x);
    }

pub word_length-requires : goal.word_length-requires
word_length-requires c =
    (omega arith, omega (arith, c.requires, ap (λ (t : Bytes). length (escaped_all t)) (take_unpacked c.args.x)))

pub returns : goal.returns
returns c = record { counted = c.word_length.ensures.counted ∙ ap (λ (t : Bytes). length (escaped_all t)) (take_unpacked c.args.x) }
