-- `text::bare::starts_bare` meets its contract: the first bytes are not changed (`bare_first`). Assumes nothing.
use Rattle.text.proofs.BareWords.{bare_first}
use Rattle.text.proofs.bare.starts_bare.Goals as goal

pub returns : goal.returns
returns c = record { told = λ e. bare_first c.args.x c.args.n c.requires (c.is_bare.ensures.told e) }
