-- `workspace::plain` meets its contract: what is accepted under fewer values is so at the set itself, and what is not keeps the output.
-- Assumes nothing.
use native.Mathlib.Omega.{arith}
use mathlib.Core.Path.{◌≡◌, ◌∙◌}
use Rattle.workspace.proofs.Trying.{few_small, few_document, plain_tried, accepted, keeps, again}
use Rattle.workspace.proofs.plain.Goals as goal
use Rattle.workspace.proofs.plain.Goals.{then-document-lt384+else-tried-eq0, else-document-lt384}

pub plain_in-tried-requires-clause-small : goal.plain_in-tried-requires-clause-small
plain_in-tried-requires-clause-small c = few_small _ _ c.fewer.ensures.made c.requires

pub plain_in-tried-requires-clause-long : goal.plain_in-tried-requires-clause-long
plain_in-tried-requires-clause-long c = few_document _ _ c.fewer.ensures.made _ (omega arith)

pub returns-then-tried-eq0 : goal.returns-then-tried-eq0
returns-then-tried-eq0 c =
    let facts = accepted (plain_tried _ _ c.fewer.ensures.made c.args.format c.args.document.now)
    c.args.output.now (c.plain_in-tried.ensures.answered, c.plain_in-tried.ensures.written)
    c.if-tried-eq0.true in record { answered = facts.0; written = facts.1 }

pub shape_of-output : goal.shape_of-output
shape_of-output c = c.full_plain.auto.output ∙ c.if-document-lt384.auto.output

-- where it is not accepted, or not tried, the output is as it was
pub returns : goal.returns
returns c =
    let kept : c.if-document-lt384.output ≡ c.args.output.now =
    elim c.if-document-lt384.branch [
      | then-document-lt384+else-tried-eq0 w ↦
          w.output-is
          ∙ keeps (plain_tried _ _ w.fewer.ensures.made c.args.format c.args.document.now) c.args.output.now (
            w.plain_in-tried.ensures.answered,
            w.plain_in-tried.ensures.written,
          )
          w.if-tried-eq0.false
      | else-document-lt384 w ↦ w.output-is
    ] in
    let facts = again _ kept (c.full_plain.ensures.answered, c.full_plain.ensures.written) in
    record { answered = facts.0; written = facts.1 }
