-- `text::pieces::character_cost` meets its contract: ASCII is one byte, and each other byte is written as one. Assumes nothing.
use mathlib.Core.Path.{sym, ◌∙◌}
use Rattle.text.proofs.Escaped.{length_encode_low, length_encode_high}
use Rattle.text.proofs.pieces.character_cost.Goals as goal

pub returns-then-c-lt128 : goal.returns-then-c-lt128
returns-then-c-lt128 c = record { counted = c.cost.ensures.counted ∙ sym (length_encode_low c.args.c c.if-c-lt128.true) }

pub returns-else-c-lt128 : goal.returns-else-c-lt128
returns-else-c-lt128 c = record { counted = c.encoded_length.ensures.counted ∙ sym (length_encode_high c.args.c c.if-c-lt128.false) }
