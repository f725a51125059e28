-- `has` of the members of a record meets the contract of `growing::lacked::Names`. Assumes nothing.
use Rattle.infer.proofs.Nulling.{there_told}
use Rattle.infer.proofs.lacked.MembersNames.has.Goals as goal

pub returns : goal.returns
returns c = λ p n among u r t. there_told c.has_member.ensures.found u r t
