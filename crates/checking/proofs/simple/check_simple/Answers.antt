-- `checking::simple::check_simple` meets its contract. Assumes nothing.
use Rattle.checking.proofs.SimpleForms.{literal_told}
use Rattle.checking.proofs.simple.check_simple.Goals as goal

pub returns : goal.returns
returns c =
    record {
      checked = literal_told c.args.forms.now c.args.shapes.now c.args.pool.now c.args.bindings.now c.args.row
          c.code-code.ensures.read c.if-code-lt-EACH.false c.operand.ensures.read c.payload.ensures.read
          c.literal_kinds.ensures.told;
    }
