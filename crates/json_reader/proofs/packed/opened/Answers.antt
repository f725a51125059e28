-- `json_reader::packed::opened` meets its contract: the highest bit tells. Assumes nothing.
use mathlib.Core.Path.{sym}
use Rattle.json_reader.proofs.Words.{opens_done, opens_refused}
use Rattle.json_reader.proofs.packed.opened.Goals as goal

pub returns-then-r-lt9223372036854775808 : goal.returns-then-r-lt9223372036854775808
returns-then-r-lt9223372036854775808 c = record { told = sym (opens_done c.args.r c.if-r-lt9223372036854775808.true) }

pub returns : goal.returns
returns c = record { told = rw c.cause_of.ensures (sym (opens_refused c.args.r c.if-r-lt9223372036854775808.false)) }
