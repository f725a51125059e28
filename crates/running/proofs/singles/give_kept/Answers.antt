-- `running::singles::give_kept` meets its contract. Assumes nothing.
use Rattle.running.proofs.SingleRows.{few_begun, value_given}
use Rattle.running.proofs.singles.give_kept.Goals as goal

pub keep-begun-requires : goal.keep-begun-requires
keep-begun-requires c =
    record {
      used = c.requires.there.used;
      value = c.requires.there.value;
      bound = c.requires.there.bound;
      small = c.requires.there.small;
      few = few_begun c.requires.giving;
    }

pub returns : goal.returns
returns c =
    record {
      given = value_given c.requires.giving c.requires.there c.row_kind-kind.ensures.read c.keep-begun.ensures.kept;
    }
