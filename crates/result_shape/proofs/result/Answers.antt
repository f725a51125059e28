-- `result_shape::result` meets its contract. Assumes nothing.
use Rattle.result_shape.proofs.ReaderSteps.{reader_short, reader_room, first_fits, reader_tables, reader_asked, reader_answer}
use Rattle.result_shape.proofs.result.Goals as goal

pub returns-then-res-lt2 : goal.returns-then-res-lt2
returns-then-res-lt2 c = record { given = reader_short _ _ _ _ c.args.res.now _ c.if-res-lt2.true }

pub bind-requires : goal.bind-requires
bind-requires c =
    record { slot_in_bounds = reader_room c.requires.reader_asked; fits = first_fits _ _ c.kinds-kinds.ensures.read }

pub result_into-requires : goal.result_into-requires
result_into-requires c =
    record {
      result_asked = reader_asked c.args.forms.now c.args.shapes.now c.args.pool.now c.args.bindings.now
          c.bind.new.bindings c.args.res.now c.put_row.new.shapes c.args.deep c.kinds-kinds.result.kinds
          c.requires.small c.requires.few c.if-res-lt2.false c.kinds-kinds.ensures.read c.put_row.ensures.put
          c.put_row.auto.shapes c.bind.ensures.put c.bind.auto.bindings c.requires.reader_asked;
      tables = reader_tables c.args.forms.now c.args.shapes.now c.args.pool.now c.args.bindings.now
          c.bind.new.bindings c.args.res.now c.put_row.new.shapes c.args.deep c.kinds-kinds.result.kinds
          c.requires.small c.requires.few c.if-res-lt2.false c.kinds-kinds.ensures.read c.put_row.ensures.put
          c.put_row.auto.shapes c.bind.ensures.put c.bind.auto.bindings;
    }

pub returns : goal.returns
returns c =
    record {
      given = reader_answer c.args.forms.now c.args.shapes.now c.args.pool.now c.args.bindings.now
          c.bind.new.bindings c.args.res.now c.put_row.new.shapes c.args.deep c.kinds-kinds.result.kinds
          c.requires.small c.requires.few c.if-res-lt2.false c.kinds-kinds.ensures.read c.put_row.ensures.put
          c.put_row.auto.shapes c.bind.ensures.put c.bind.auto.bindings
          c.result_into.new.into c.result_into.result c.result_into.ensures.given;
    }
