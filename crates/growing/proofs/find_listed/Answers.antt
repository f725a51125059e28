-- `growing::find_listed` meets its contract: a member of the name is at its place, since names ascend. Assumes nothing.
use Rattle.growing.proofs.Places.{held_listed, named_found}
use Rattle.growing.proofs.find_listed.Goals as goal

pub find_named-requires : goal.find_named-requires
find_named-requires c = held_listed c.requires

pub returns : goal.returns
returns c = record { found = named_found c.find_named.result c.find_named.ensures.told }
