-- `workspace::admits` meets its contract: what is accepted under fewer values is so at the set itself. Assumes nothing.
use native.Mathlib.Omega.{arith}
use Rattle.workspace.proofs.Trying.{few_small, few_shape_document, admits_tried, said_accepted}
use Rattle.workspace.proofs.admits.Goals as goal

pub admits_in-tried-requires-clause-small : goal.admits_in-tried-requires-clause-small
admits_in-tried-requires-clause-small c = few_small _ _ c.fewer.ensures.made c.requires

pub admits_in-tried-requires-clause-long : goal.admits_in-tried-requires-clause-long
admits_in-tried-requires-clause-long c = few_shape_document _ _ c.fewer.ensures.made _ _ (omega arith) (omega arith)

pub returns-then-tried-eq0 : goal.returns-then-tried-eq0
returns-then-tried-eq0 c =
    record {
      answered = said_accepted (admits_tried _ _ c.fewer.ensures.made c.args.format c.args.shape.now c.args.document.now)
          c.admits_in-tried.ensures.answered c.if-tried-eq0.true;
    }
