-- `number::digits::digits_at` meets its contract. Assumes nothing.
use Rattle.number.proofs.DigitLanes.{digit_lanes}
use Rattle.number.proofs.digits.digits_at.Goals as goal

pub returns : goal.returns
returns c = digit_lanes c.word_at.result c.word_at.ensures.packed
