-- `tokens::word_end` meets its contract. The loop's invariant is `Running`: the bytes before are a word.
-- Assumes nothing.
use Rattle.tokens.proofs.Borders.{running, ran_on}
use Rattle.tokens.proofs.word_end.Goals as goal

pub loop-i-init : goal.loop-i-init
loop-i-init c = running c.requires

pub loop-i-preserved : goal.loop-i-preserved
loop-i-preserved c = ran_on c.loop-i.invariant c.loop-i-test.true c.if-is_border.ensures.told
