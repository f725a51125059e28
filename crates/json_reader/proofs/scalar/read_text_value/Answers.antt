-- `json_reader::scalar::read_text_value` meets its contract. Assumes nothing.
use mathlib.Core.Path.{refl, ◌∙◌}
use native.Mathlib.Omega.{arith}
use Rattle.nodes.specs.Nodes.{reference}
use Rattle.json_reader.proofs.Answers.{as_word}
use Rattle.json_reader.proofs.Scalars.{text_full, text_broken, text_read, text_room}
use Rattle.json_reader.proofs.scalar.read_text_value.Goals as goal

pub returns-then-is_full : goal.returns-then-is_full
returns-then-is_full c =
    record {
      read = as_word c.refused.ensures.packed
          (text_full c.args.c c.requires.0 c.requires.1
          c.if-is_full.ensures.judged);
    }

pub read_text-requires : goal.read_text-requires
read_text-requires c =
    text_room c.args.c c.requires.0 c.requires.1
    (c.is_full.ensures.judged.within c.if-is_full.false).0

pub text_reference-reference-requires : goal.text_reference-reference-requires
unfolding reference
text_reference-reference-requires c =
    let closed = c.in-Ok.ensures.read.answer in
    omega (arith, closed.shorter, closed.within, c.requires.0.placed.small, c.requires.0.placed.short)

pub head_word-head-requires : goal.head_word-head-requires
head_word-head-requires c =
    let closed = c.in-Ok.ensures.read.answer in omega (arith, closed.bounded, closed.within, c.requires.0.placed.short)

pub put_row-requires : goal.put_row-requires
put_row-requires c =
    let free = c.is_full.ensures.judged.within c.if-is_full.false in
    omega (arith, free.0, c.requires.0.placed.rows)

pub done-requires : goal.done-requires
done-requires c =
    let closed = c.in-Ok.ensures.read.answer in
    let placed = c.requires.0.placed in (
      omega (arith, closed.within, placed.short),
      omega (arith, placed.few, placed.limit),
      omega (arith, closed.shorter, closed.within, placed.small, placed.short),
    )

pub refused-requires-in-Err : goal.refused-requires-in-Err
refused-requires-in-Err c = (refl, omega (arith, c.in-Err.ensures.read.answer.within, c.requires.0.placed.short))

pub returns-in-Ok : goal.returns-in-Ok
returns-in-Ok c =
    record {
      read = as_word c.done.ensures.packed
          (text_read c.args.c c.requires.0 c.requires.1 c.read_text.ensures.read.kept
          c.read_text.ensures.read.front
          c.if-is_full.ensures.judged
          c.in-Ok.ensures.read.answer
          (c.put_row.ensures.put ∙ rw (c.head_word-head.ensures.made, c.text_reference-reference.ensures.made)));
    }

pub returns-in-Err : goal.returns-in-Err
returns-in-Err c =
    record {
      read = as_word c.refused-in-Err.ensures.packed
          (text_broken c.args.c c.requires.0 c.requires.1 c.read_text.ensures.read.kept
          c.if-is_full.ensures.judged
          c.in-Err.ensures.read.answer);
    }
