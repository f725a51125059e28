-- `text::escape::hex_digit` meets its contract: a branch of `hex_digit` for each answer. Assumes nothing.
use borrow.Author.Tests.{lt-ltb, le-ltb}
use Rattle.definitions.specs.Plain.{hex_digit}
use borrow.Author.Tests.{lt-ltb, le-ltb}
use Rattle.definitions.specs.Plain.{hex_digit}
use Rattle.text.proofs.escape.hex_digit.Goals as goal

pub returns-then-d-lt10 : goal.returns-then-d-lt10
unfolding hex_digit
returns-then-d-lt10 c = record { told = rw (lt-ltb c.args.d 10 c.if-d-lt10.true, hex_digit) }

pub returns-else-d-lt10 : goal.returns-else-d-lt10
unfolding hex_digit
returns-else-d-lt10 c = record { told = rw (le-ltb c.args.d 10 c.if-d-lt10.false, hex_digit) }
