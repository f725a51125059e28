-- `infer::infer_at` meets its contract. Assumes nothing.
use Rattle.infer.proofs.Into.{into_joins}
use Rattle.infer.proofs.infer_at.Goals as goal

pub returns : goal.returns
returns c = record { joined = into_joins _ _ _ c.infer_into.new.shapes _ _ _ c.infer_into.result c.infer_into.ensures.inferred }
