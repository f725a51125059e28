-- `running::singles::give_int` meets its contract. Assumes nothing.
use Rattle.running.proofs.SingleRows.{few_begun}
use Rattle.running.proofs.WholeRows.{unscaled_given, scale_most, whole_word, whole_given}
use Rattle.running.proofs.singles.give_int.Goals as goal

pub give_kept-requires : goal.give_kept-requires
give_kept-requires c = record { giving = c.requires.giving; there = c.requires.there }

pub returns-then-scale-eq0 : goal.returns-then-scale-eq0
returns-then-scale-eq0 c = record { given = unscaled_given c.row_scale-scale.ensures.read c.if-scale-eq0.true c.give_kept.ensures.given }

pub whole_part-n-requires : goal.whole_part-n-requires
whole_part-n-requires c =
    scale_most c.row_scale-scale.ensures.read c.if-scale-eq0.false c.requires.there

pub number_head-requires : goal.number_head-requires
number_head-requires c =
    whole_word c.row_scale-scale.ensures.read c.if-scale-eq0.false c.row_payload.ensures.read
    c.whole_part-n.ensures c.row_negative.ensures.read c.number_bits-bits.ensures.made c.requires.there

pub put-begun-requires : goal.put-begun-requires
put-begun-requires c =
    few_begun c.requires.giving

pub returns : goal.returns
returns c =
    record {
      given = whole_given c.row_scale-scale.ensures.read c.if-scale-eq0.false
          c.row_payload.ensures.read
          c.whole_part-n.ensures c.row_negative.ensures.read
          c.number_bits-bits.ensures.made c.requires.giving
          c.number_head.ensures.made c.put-begun.ensures.put;
    }
