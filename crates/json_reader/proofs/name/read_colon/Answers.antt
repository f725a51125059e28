-- `json_reader::name::read_colon` meets its contract. Assumes nothing.
use mathlib.Core.Path.{sym, ◌∙◌}
use native.Mathlib.Omega.{arith}
use Rattle.json_reader.proofs.White.{token_here, token}
use Rattle.json_reader.proofs.name.read_colon.Goals as goal

pub returns-then-peek-eq58 : goal.returns-then-peek-eq58
returns-then-peek-eq58 c = record { read = token_here (sym c.peek.ensures.read ∙ c.if-peek-eq58.true) (omega arith) }

pub returns-then-peek-eq58-2 : goal.returns-then-peek-eq58-2
returns-then-peek-eq58-2 c = record { read = token c.skip_white-i.ensures.skipped (sym c.peek-2.ensures.read ∙ c.if-peek-eq58-2.true) (omega arith) }
