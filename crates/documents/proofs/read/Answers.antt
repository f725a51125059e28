-- `documents::read` meets its contract. Assumes nothing.
use Rattle.definitions.specs.Operations.{source}
use Rattle.documents.proofs.Reading.{judges_json, judges_long}
use Rattle.documents.proofs.read.Goals as goal

pub returns-then-limits-document : goal.returns-then-limits-document
returns-then-limits-document c =
    record {
      judged = let a = c.args in
          judges_long (source a.format) a.limits a.document.now a.pool.now a.nodes.now a.pool.now a.top c.if-limits-document.true;
    }

pub returns : goal.returns
returns c =
    record {
      judged = let a = c.args in
          judges_json a.format a.limits a.document.now a.pool.now _ _ a.top c.read_json.result c.if-limits-document.false
          c.read_json.ensures.read;
    }
