-- `json_reader::packed::done` meets its contract. Assumes nothing.
use Rattle.json_reader.proofs.Words.{done_word}
use Rattle.json_reader.proofs.packed.done.Goals as goal

pub returns : goal.returns
returns c = record { packed = done_word c.args.to c.requires }
