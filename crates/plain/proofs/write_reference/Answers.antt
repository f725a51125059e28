-- `plain::write_reference` meets its contract: a reference tells a text's first word and its length. Assumes nothing.
use Prim.Native.Nat.{ℕ}
use mathlib.Core.Path.{ap, ap₂, ◌∙◌}
use Rattle.definitions.specs.Plain.{plain_text}
use Rattle.pool.specs.Pool.{text_in}
use Rattle.plain.proofs.Writing.{writes_as}
use Rattle.plain.specs.TableLaws.{found}
use Rattle.plain.proofs.write_reference.Goals as goal

pub write_text-requires : goal.write_text-requires
write_text-requires c =
    let w = c.requires in
    let f = found w.holds.pooled w.holds.refers in
    rw (c.text_word.ensures.split, c.text_bytes.ensures.split) (f.within, rw f.text w.room)

pub returns : goal.returns
returns c =
    record {
      written = λ t h. writes_as
          (ap₂ (λ (w n : ℕ). plain_text (text_in c.args.pool.now w n)) c.text_word.ensures.split
          c.text_bytes.ensures.split
          ∙ ap plain_text (found h.pooled h.refers).text)
          c.write_text.ensures.written;
    }
