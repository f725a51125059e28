-- `tokens::skip_space` meets its contract. The loop's invariant is `Skipping`: what stands before is white space.
-- Assumes nothing.
use Rattle.tokens.proofs.Borders.{skipped_on}
use Rattle.tokens.proofs.skip_space.Goals as goal

pub loop-i-preserved : goal.loop-i-preserved
loop-i-preserved c = skipped_on c.loop-i.invariant c.loop-i-test.true c.if-not-is_space.ensures.told
