-- `form_reader::read_reader` meets its contract. Assumes nothing.
use Rattle.form_reader.proofs.TextReading.{more_begun, none_read}
use Rattle.form_reader.proofs.read_reader.Goals as goal

pub returns-in-Ok : goal.returns-in-Ok
returns-in-Ok c =
    record {
      read = none_read c.args.limits c.requires.tables c.requires.one c.in-Ok.ensures.read.answer c.put_row.ensures.put;
    }

pub read_form-requires : goal.read_form-requires
read_form-requires c = record { tables = c.requires.tables; begun = more_begun c.in-Err.ensures.read.answer }
