-- `running::rows::put` meets its contract. Assumes nothing.
use Rattle.running.proofs.PutRows.{row_put_here, row_left}
use Rattle.running.proofs.rows.put.Goals as goal

pub returns-then-results-begun : goal.returns-then-results-begun
returns-then-results-begun c = record { put = row_left c.args.results.now c.args.begun c.args.head c.args.payload c.args.name c.if-results-begun.true }

pub returns : goal.returns
returns c =
    record {
      put = row_put_here c.args.results.now c.args.begun c.args.head c.args.payload c.args.name
          c.if-results-begun.false c.put_row.ensures.put;
    }
