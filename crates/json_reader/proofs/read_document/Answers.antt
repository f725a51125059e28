-- `json_reader::read_document` meets its contract: what its value does, and the end behind it. Assumes nothing.
use native.Mathlib.Omega.{arith}
use Rattle.reading.proofs.Passed.{passed}
use Rattle.json_reader.specs.JsonRead.{ReadsDocument}
use Rattle.json_reader.proofs.Answers.{as_word}
use Rattle.json_reader.proofs.Documents.{start_ready, document_refused, document_goes_on, document_read}
use Rattle.json_reader.proofs.read_document.Goals as goal

pub read_value-r-requires : goal.read_value-r-requires
read_value-r-requires c = start_ready c.args.top c.requires

pub returns-in_err-to : goal.returns-in_err-to
returns-in_err-to c =
    record {
      read = passed
          (ReadsDocument c.args.limits c.args.doc.now c.args.nodes.now c.args.pool.now c.read_value-r.new.nodes c.read_value-r.new.pool c.args.top)
          c.from_residual.ensures
          (document_refused c.args.limits c.args.top (as_word c.in_err-to.ensures.told c.read_value-r.ensures.read));
    }

pub skip_white-end-requires : goal.skip_white-end-requires
skip_white-end-requires c = (as_word c.in_ok-to.ensures.told c.read_value-r.ensures.read).answer.moves.within

pub returns-then-end-doc : goal.returns-then-end-doc
returns-then-end-doc c =
    record {
      read = document_goes_on c.args.limits c.args.top c.in_ok-to.to (as_word c.in_ok-to.ensures.told c.read_value-r.ensures.read)
          c.skip_white-end.ensures.skipped c.if-end-doc.true;
    }

pub overflow_mul-result : goal.overflow_mul-result
overflow_mul-result c =
    omega (arith, (as_word c.in_ok-to.ensures.told c.read_value-r.ensures.read).answer.moves.limit, c.requires.few)

pub returns : goal.returns
returns c =
    record {
      read = document_read c.args.limits c.args.top c.in_ok-to.to (as_word c.in_ok-to.ensures.told c.read_value-r.ensures.read)
          c.skip_white-end.ensures.skipped c.requires c.if-end-doc.false;
    }
