-- `workspace::run` meets its contract: what is accepted under fewer values is so at the set itself, and what is not keeps the output.
-- Assumes nothing.
use native.Mathlib.Omega.{arith}
use mathlib.Core.Path.{◌≡◌, ◌∙◌}
use Rattle.workspace.proofs.Trying.{few_small, few_reader_document, run_tried, accepted, keeps, again}
use Rattle.workspace.proofs.run.Goals as goal
use Rattle.workspace.proofs.run.Goals.{then-reader-lt384+then-document-lt384+else-tried-eq0, else-reader-lt384}

pub run_in-tried-requires-clause-small : goal.run_in-tried-requires-clause-small
run_in-tried-requires-clause-small c = few_small _ _ c.fewer.ensures.made c.requires

pub run_in-tried-requires-clause-long : goal.run_in-tried-requires-clause-long
run_in-tried-requires-clause-long c = few_reader_document _ _ c.fewer.ensures.made _ _ (omega arith) c.requires.nesting (omega arith)

pub returns-then-tried-eq0 : goal.returns-then-tried-eq0
returns-then-tried-eq0 c =
    let facts = accepted (run_tried _ _ c.fewer.ensures.made c.args.format c.args.reader.now
    c.args.document.now) c.args.output.now (c.run_in-tried.ensures.answered, c.run_in-tried.ensures.written) c.if-tried-eq0.true in
    record { answered = facts.0; written = facts.1 }

pub shape_of-output : goal.shape_of-output
shape_of-output c = c.full_run.auto.output ∙ c.if-reader-lt384.auto.output

-- where it is not accepted, or not tried, the output is as it was
pub returns : goal.returns
returns c =
    let kept : c.if-reader-lt384.output ≡ c.args.output.now =
    elim c.if-reader-lt384.branch [
      | then-reader-lt384+then-document-lt384+else-tried-eq0 w ↦
          w.output-is
          ∙ keeps (run_tried _ _ w.fewer.ensures.made c.args.format c.args.reader.now c.args.document.now) c.args.output.now (
            w.run_in-tried.ensures.answered,
            w.run_in-tried.ensures.written,
          )
          w.if-tried-eq0.false
      | else-reader-lt384 w ↦ w.output-is
    ] in
    let facts = again _ kept (c.full_run.ensures.answered, c.full_run.ensures.written) in
    record { answered = facts.0; written = facts.1 }
