-- `running::singles::number_head` meets its contract. Assumes nothing.
use Rattle.running.proofs.SingleRows.{number_bounded, number_fits, number_made}
use Rattle.running.proofs.singles.number_head.Goals as goal

pub number_length-written-requires : goal.number_length-written-requires
number_length-written-requires c = number_bounded c.requires

pub head_word-requires : goal.head_word-requires
head_word-requires c = number_fits c.requires c.number_length-written.ensures

pub returns : goal.returns
returns c = record { made = number_made c.number_length-written.ensures c.head_word.ensures.made }
