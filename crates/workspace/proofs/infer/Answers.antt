-- `workspace::infer` meets its contract: what is accepted under fewer values is so at the set itself, and what is not keeps the output.
-- Assumes nothing.
use native.Mathlib.Omega.{arith}
use mathlib.Core.Path.{◌≡◌, ◌∙◌}
use Rattle.workspace.proofs.Trying.{few_small, few_grown_document, infer_tried, accepted, keeps, again}
use Rattle.workspace.proofs.infer.Goals as goal
use Rattle.workspace.proofs.infer.Goals.{then-shape-lt768+then-document-lt384+else-tried-eq0, else-shape-lt768}

pub infer_in-tried-requires-clause-small : goal.infer_in-tried-requires-clause-small
infer_in-tried-requires-clause-small c = few_small _ _ c.fewer.ensures.made c.requires

pub infer_in-tried-requires-clause-long : goal.infer_in-tried-requires-clause-long
infer_in-tried-requires-clause-long c = few_grown_document _ _ c.fewer.ensures.made _ _ (omega arith) (omega arith)

pub returns-then-tried-eq0 : goal.returns-then-tried-eq0
returns-then-tried-eq0 c =
    let facts = accepted (infer_tried _ _ c.fewer.ensures.made c.args.format c.args.shape.now
    c.args.document.now) c.args.output.now (c.infer_in-tried.ensures.answered, c.infer_in-tried.ensures.written) c.if-tried-eq0.true in
    record { answered = facts.0; written = facts.1 }

pub shape_of-output : goal.shape_of-output
shape_of-output c = c.full_infer.auto.output ∙ c.if-shape-lt768.auto.output

-- where it is not accepted, or not tried, the output is as it was
pub returns : goal.returns
returns c =
    let kept : c.if-shape-lt768.output ≡ c.args.output.now =
    elim c.if-shape-lt768.branch [
      | then-shape-lt768+then-document-lt384+else-tried-eq0 w ↦
          w.output-is
          ∙ keeps (infer_tried _ _ w.fewer.ensures.made c.args.format c.args.shape.now c.args.document.now) c.args.output.now
          (w.infer_in-tried.ensures.answered, w.infer_in-tried.ensures.written)
          w.if-tried-eq0.false
      | else-shape-lt768 w ↦ w.output-is
    ] in
    let facts = again _ kept (c.full_infer.ensures.answered, c.full_infer.ensures.written) in
    record { answered = facts.0; written = facts.1 }
