-- `running::rows::close_list` meets its contract. Assumes nothing.
use native.Mathlib.Omega.{arith}
use Rattle.running.proofs.Closing.{list_short, list_left, list_closed}
use Rattle.running.proofs.rows.close_list.Goals as goal

pub overflow_mul-to : goal.overflow_mul-to
overflow_mul-to c = omega (arith, c.requires.few)

pub returns-then-results-to : goal.returns-then-results-to
returns-then-results-to c = record { closed = list_left c.args.results.now c.args.begun c.args.to c.args.name c.if-results-to.true }

pub items_length-length-requires : goal.items_length-length-requires
items_length-length-requires c = c.requires.items c.if-results-to.false

pub close-requires : goal.close-requires
close-requires c =
    record {
      later = c.requires.later;
      to_in_bounds = c.if-results-to.false;
      few = c.requires.few;
      short = omega (
        arith,
        list_short c.args.results.now c.args.begun c.args.to (c.requires.items c.if-results-to.false) c.items_length-length.ensures.measured,
      );
      coded = omega arith;
    }

pub returns : goal.returns
returns c =
    record {
      closed = list_closed c.args.results.now c.args.begun c.args.to c.args.name c.requires.later c.if-results-to.false
          c.items_length-length.ensures.measured c.close.ensures.closed;
    }
