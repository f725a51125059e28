use mathlib.Core.Path.{refl, sym, ◌∙◌}
use Rattle.laws.specs.Tests.{lt-ltb}
use Rattle.laws.specs.AnswerWordsRead.{answered_long, answered_short}
use Rattle.answers.proofs.tell.Goals as goal

pub returns-then-buffer-ge40 : goal.returns-then-buffer-ge40
returns-then-buffer-ge40 c =
    record { number = refl; written = c.put_answer.ensures.written ∙ sym (answered_long c.args.buffer.now c.args.answer c.if-buffer-ge40.true) }

pub returns-else-buffer-ge40 : goal.returns-else-buffer-ge40
returns-else-buffer-ge40 c =
    record { number = refl; written = sym (answered_short c.args.buffer.now c.args.answer (lt-ltb _ 40 c.if-buffer-ge40.false)) }
