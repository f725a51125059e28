-- `has` of the results of a pack meets the contract of `growing::lacked::Names`. Assumes nothing.
use Rattle.result_shape.proofs.PairNames.{names_held, there_told}
use Rattle.result_shape.proofs.lacked.PairsNames.has.Goals as goal

pub has_name-requires : goal.has_name-requires
has_name-requires c = names_held c.requires

pub returns : goal.returns
returns c = λ p n among u r t. there_told c.text_word-word.ensures.split c.text_bytes.ensures.split c.has_name.ensures.found u r t
