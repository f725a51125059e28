-- `running::rows::close_record` meets its contract. Assumes nothing.
use native.Mathlib.Omega.{arith}
use Rattle.running.proofs.Closing.{record_short, record_left, record_closed}
use Rattle.running.proofs.rows.close_record.Goals as goal

pub overflow_mul-to : goal.overflow_mul-to
overflow_mul-to c = omega (arith, c.requires.few)

pub returns-then-results-to : goal.returns-then-results-to
returns-then-results-to c = record { closed = record_left c.args.results.now c.args.pool.now c.args.begun c.args.to c.args.name c.if-results-to.true }

pub members_length-length-requires : goal.members_length-length-requires
members_length-length-requires c = c.requires.members c.if-results-to.false

pub close-requires : goal.close-requires
close-requires c =
    record {
      later = c.requires.later;
      to_in_bounds = c.if-results-to.false;
      few = c.requires.few;
      short = omega (
        arith,
        record_short c.args.results.now c.args.pool.now c.args.begun c.args.to (c.requires.members c.if-results-to.false)
            c.members_length-length.ensures.measured,
      );
      coded = omega arith;
    }

pub returns : goal.returns
returns c =
    record {
      closed = record_closed c.args.results.now c.args.pool.now c.args.begun c.args.to c.args.name c.requires.later c.if-results-to.false
          c.members_length-length.ensures.measured c.close.ensures.closed;
    }
