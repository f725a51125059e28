-- `shape_writer::parts::write_head` meets its contract. Assumes nothing.
use native.Mathlib.Omega.{arith}
use mathlib.Core.Path.{refl, ◌∙◌}
use Rattle.definitions.specs.Bytes.{bytes}
use Rattle.shape_writer.proofs.Heads.{length_head, word_to, writes_head}
use Rattle.shape_writer.proofs.parts.write_head.Goals as goal

pub write_bytes-j-requires : goal.write_bytes-j-requires
write_bytes-j-requires c =
    omega (arith, c.requires, length_head c.args.kinds.kinds)

pub write_word-j-requires : goal.write_word-j-requires
unfolding bytes
write_word-j-requires c =
    omega (
      arith,
      c.requires,
      length_head c.args.kinds.kinds,
      c.write_bytes-j.ensures.written.end,
      c.write_bytes-j.auto.out,
    )

pub write_word-j-requires-2 : goal.write_word-j-requires-2
unfolding bytes
write_word-j-requires-2 c =
    omega (
      arith,
      c.requires,
      length_head c.args.kinds.kinds,
      c.write_bytes-j.ensures.written.end,
      c.write_bytes-j.auto.out,
      c.write_word-j.ensures.written.written.end,
      c.write_word-j.auto.out,
    )

pub write_word-j-requires-3 : goal.write_word-j-requires-3
unfolding bytes
write_word-j-requires-3 c =
    omega (
      arith,
      c.requires,
      length_head c.args.kinds.kinds,
      c.write_bytes-j.ensures.written.end,
      c.write_bytes-j.auto.out,
      c.write_word-j.ensures.written.written.end,
      c.write_word-j.auto.out,
      c.write_word-j-2.ensures.written.written.end,
      c.write_word-j-2.auto.out,
    )

pub write_word-j-requires-4 : goal.write_word-j-requires-4
unfolding bytes
write_word-j-requires-4 c =
    omega (
      arith,
      c.requires,
      length_head c.args.kinds.kinds,
      c.write_bytes-j.ensures.written.end,
      c.write_bytes-j.auto.out,
      c.write_word-j.ensures.written.written.end,
      c.write_word-j.auto.out,
      c.write_word-j-2.ensures.written.written.end,
      c.write_word-j-2.auto.out,
      c.write_word-j-3.ensures.written.written.end,
      c.write_word-j-3.auto.out,
    )

pub write_word-j-requires-5 : goal.write_word-j-requires-5
unfolding bytes
write_word-j-requires-5 c =
    omega (
      arith,
      c.requires,
      length_head c.args.kinds.kinds,
      c.write_bytes-j.ensures.written.end,
      c.write_bytes-j.auto.out,
      c.write_word-j.ensures.written.written.end,
      c.write_word-j.auto.out,
      c.write_word-j-2.ensures.written.written.end,
      c.write_word-j-2.auto.out,
      c.write_word-j-3.ensures.written.written.end,
      c.write_word-j-3.auto.out,
      c.write_word-j-4.ensures.written.written.end,
      c.write_word-j-4.auto.out,
    )

pub write_word-j-requires-6 : goal.write_word-j-requires-6
unfolding bytes
write_word-j-requires-6 c =
    omega (
      arith,
      c.requires,
      length_head c.args.kinds.kinds,
      c.write_bytes-j.ensures.written.end,
      c.write_bytes-j.auto.out,
      c.write_word-j.ensures.written.written.end,
      c.write_word-j.auto.out,
      c.write_word-j-2.ensures.written.written.end,
      c.write_word-j-2.auto.out,
      c.write_word-j-3.ensures.written.written.end,
      c.write_word-j-3.auto.out,
      c.write_word-j-4.ensures.written.written.end,
      c.write_word-j-4.auto.out,
      c.write_word-j-5.ensures.written.written.end,
      c.write_word-j-5.auto.out,
    )

pub write_word-requires : goal.write_word-requires
unfolding bytes
write_word-requires c =
    omega (
      arith,
      c.requires,
      length_head c.args.kinds.kinds,
      c.write_bytes-j.ensures.written.end,
      c.write_bytes-j.auto.out,
      c.write_word-j.ensures.written.written.end,
      c.write_word-j.auto.out,
      c.write_word-j-2.ensures.written.written.end,
      c.write_word-j-2.auto.out,
      c.write_word-j-3.ensures.written.written.end,
      c.write_word-j-3.auto.out,
      c.write_word-j-4.ensures.written.written.end,
      c.write_word-j-4.auto.out,
      c.write_word-j-5.ensures.written.written.end,
      c.write_word-j-5.auto.out,
      c.write_word-j-6.ensures.written.written.end,
      c.write_word-j-6.auto.out,
    )

pub shape_of-out : goal.shape_of-out
shape_of-out c =
    c.write_word.auto.out ∙ c.write_word-j-6.auto.out ∙ c.write_word-j-5.auto.out
    ∙ c.write_word-j-4.auto.out
    ∙ c.write_word-j-3.auto.out ∙ c.write_word-j-2.auto.out ∙ c.write_word-j.auto.out
    ∙ c.write_bytes-j.auto.out

pub returns : goal.returns
unfolding bytes
returns c =
    record {
      written = writes_head
          c.args.kinds.kinds
          (omega (arith, c.requires))
          c.write_bytes-j.ensures.written
          (word_to 1 (bytes " null") c.write_word-j.ensures.written refl refl)
          (word_to 2 (bytes " bool") c.write_word-j-2.ensures.written refl refl)
          (word_to 4 (bytes " int") c.write_word-j-3.ensures.written refl refl)
          (word_to 8 (bytes " dec") c.write_word-j-4.ensures.written refl refl)
          (word_to 16 (bytes " text") c.write_word-j-5.ensures.written refl refl)
          (word_to 32 (bytes " list") c.write_word-j-6.ensures.written refl refl)
          (word_to 64 (bytes " rec") c.write_word.ensures.written refl refl);
    }
