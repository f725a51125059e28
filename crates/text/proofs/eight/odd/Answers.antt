-- `text::eight::odd` meets its contract. Assumes nothing.
use Rattle.text.proofs.Odd.{odd_marks}
use Rattle.text.proofs.eight.odd.Goals as goal

pub returns : goal.returns
returns c = record { marked = odd_marks c.plain_bits.ensures.told }
