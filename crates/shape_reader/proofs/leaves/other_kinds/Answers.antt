-- `shape_reader::leaves::other_kinds` meets its contract. Assumes nothing.
use Rattle.shape_reader.proofs.LeafForms.{text_stands, bool_stands}
use Rattle.shape_reader.proofs.leaves.other_kinds.Goals as goal

pub returns-then-x-eq45580212859936 : goal.returns-then-x-eq45580212859936
returns-then-x-eq45580212859936 c = record { told = record { answer = text_stands c.eight_at-x.ensures.told c.if-x-eq45580212859936.true } }

pub returns-then-x-eq45545702777376 : goal.returns-then-x-eq45545702777376
returns-then-x-eq45545702777376 c = record { told = record { answer = bool_stands c.eight_at-x.ensures.told c.if-x-eq45545702777376.true } }
