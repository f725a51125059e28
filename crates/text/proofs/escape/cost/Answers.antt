-- `text::escape::cost` meets its contract: how a byte is written goes by its short form (`Escaped`). Assumes nothing.
use mathlib.Core.Path.{sym, ap, ◌∙◌}
use lib.ListN.{length}
use Rattle.text.proofs.Escaped.{length_hex_escape, escaped_short, escaped_hex, escaped_itself}
use Rattle.text.proofs.escape.cost.Goals as goal

pub returns-then-needs_no_escape : goal.returns-then-needs_no_escape
returns-then-needs_no_escape c = record { counted = sym (ap length (c.needs_no_escape.ensures.told c.if-needs_no_escape.true)) }

pub returns-in-Some : goal.returns-in-Some
returns-in-Some c = record { counted = sym (ap length (escaped_short c.args.b c.in-Some.field-0 (sym c.in-Some.ensures.found))) }

pub returns-in-None : goal.returns-in-None
returns-in-None c =
    record { counted = sym (ap length (escaped_hex c.args.b (sym c.in-None.ensures.found) c.if-b-lt32.true) ∙ length_hex_escape c.args.b) }

pub returns-in-None-2 : goal.returns-in-None-2
returns-in-None-2 c = record { counted = sym (ap length (escaped_itself c.args.b (sym c.in-None.ensures.found) c.if-b-lt32.false)) }
