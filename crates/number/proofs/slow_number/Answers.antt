-- `number::slow_number` meets its contract. Assumes nothing.
use Rattle.number.proofs.DigitRuns.{reads_number}
use Rattle.number.proofs.slow_number.Goals as goal

pub returns : goal.returns
returns c = reads_number (c.read_on.ensures _ c.no_digits.ensures)
