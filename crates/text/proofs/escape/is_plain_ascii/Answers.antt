-- `text::escape::is_plain_ascii` meets its contract: a part of the test for each answer. Assumes nothing.
use Rattle.text.proofs.Tables.{plain_ascii_low, plain_ascii_high, plain_ascii_quote, plain_ascii_backslash, plain_ascii_in}
use native.Mathlib.Omega.{arith}
use Rattle.text.proofs.escape.is_plain_ascii.Goals as goal

pub returns-in-32-to-33 : goal.returns-in-32-to-33
returns-in-32-to-33 c = record { judged = plain_ascii_in c.args.b (omega arith) (omega arith) (omega arith) (omega arith) }

pub returns-in-32-to-33-2 : goal.returns-in-32-to-33-2
returns-in-32-to-33-2 c = record { judged = plain_ascii_in c.args.b (omega arith) (omega arith) (omega arith) (omega arith) }

pub returns-in-32-to-33-3 : goal.returns-in-32-to-33-3
returns-in-32-to-33-3 c = record { judged = plain_ascii_in c.args.b (omega arith) (omega arith) (omega arith) (omega arith) }

pub returns-in_default : goal.returns-in_default
returns-in_default c = record { judged = plain_ascii_low c.args.b (omega arith) }

pub returns-in_default-2 : goal.returns-in_default-2
returns-in_default-2 c = record { judged = plain_ascii_quote c.args.b (omega arith) }

pub returns-in_default-3 : goal.returns-in_default-3
returns-in_default-3 c = record { judged = plain_ascii_backslash c.args.b (omega arith) }

pub returns-in_default-4 : goal.returns-in_default-4
returns-in_default-4 c = record { judged = plain_ascii_high c.args.b (omega arith) }
