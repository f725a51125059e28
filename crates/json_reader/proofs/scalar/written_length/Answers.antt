-- `json_reader::scalar::written_length` meets its contract. Assumes nothing.
use mathlib.Core.Path.{sym}
use Rattle.json_reader.proofs.scalar.written_length.Goals as goal

pub number_length-requires : goal.number_length-requires
number_length-requires c = c.requires.0

pub returns-then-x-eq0 : goal.returns-then-x-eq0
returns-then-x-eq0 c = c.number_length.ensures

pub overflow_sub-result : goal.overflow_sub-result
overflow_sub-result c = c.requires.1.behind

pub returns : goal.returns
returns c =
    sym (c.requires.1.long c.if-x-eq0.false)
