-- `checking::check` meets its contract. Assumes nothing.
use Rattle.checking.proofs.ReaderWalk.{some_bindings, reader_asked, reader_told}
use native.Mathlib.Omega.{arith}
use Rattle.checking.proofs.check.Goals as goal

pub bind-requires : goal.bind-requires
bind-requires c =
    record {
      slot_in_bounds = some_bindings c.args.forms.now c.args.shapes.now c.args.pool.now c.args.bindings.now c.requires.reader_asked;
      fits = omega (arith, c.kinds-kinds.ensures.read);
    }

pub check_form-requires : goal.check_form-requires
check_form-requires c =
    record {
      form_asked = reader_asked c.args.forms.now c.args.shapes.now c.args.pool.now c.args.bindings.now
          c.kinds-kinds.ensures.read c.bind.new.bindings c.bind.ensures.put c.requires.reader_asked;
      small = c.requires.small;
    }

pub returns : goal.returns
returns c =
    let facts = reader_told c.args.forms.now c.args.shapes.now c.args.pool.now c.args.bindings.now
    c.kinds-kinds.ensures.read c.bind.new.bindings c.bind.ensures.put c.requires.reader_asked
    c.check_form.new.bindings c.check_form.result c.check_form.ensures.checked in record { checked = facts.0; same = facts.1 }
