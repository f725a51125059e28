-- `json_reader::packed::refused` meets its contract. Assumes nothing.
use Rattle.json_reader.proofs.Words.{refused_word}
use Rattle.json_reader.proofs.packed.refused.Goals as goal

pub returns : goal.returns
returns c = record { packed = rw c.number.ensures.told (refused_word c.args.cause c.args.place c.requires.0 c.requires.1) }
