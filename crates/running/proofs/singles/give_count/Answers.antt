-- `running::singles::give_count` meets its contract. Assumes nothing.
use mathlib.Core.Bool.{false}
use Rattle.running.proofs.SingleRows.{few_begun, count_few, count_word, count_given}
use Rattle.running.proofs.singles.give_count.Goals as goal

pub number_head-requires : goal.number_head-requires
number_head-requires c =
    record {
      number = record { negative = false; coefficient = c.count_items-n.result; scale = 0 };
      held = count_word (count_few c.requires.there c.count_items-n.ensures.counted);
    }

pub put-begun-requires : goal.put-begun-requires
put-begun-requires c =
    few_begun c.requires.giving

pub returns : goal.returns
returns c =
    record {
      given = count_given c.requires.giving c.requires.there c.count_items-n.ensures.counted c.number_head.ensures.made
          c.put-begun.ensures.put (count_few c.requires.there c.count_items-n.ensures.counted);
    }
