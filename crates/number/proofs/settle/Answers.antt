-- `number::settle` meets its contract. Assumes nothing.
use mathlib.Core.Path.{refl}
use Rattle.number.proofs.Caps.{settled_over, settled_meaning}
use Rattle.number.proofs.settle.Goals as goal

pub returns : goal.returns
returns c k e =
    record {
      end = refl;
      whole = refl;
      over = settled_over c.args.negative c.args.coefficient k c.args.digits e;
      meaning = settled_meaning c.args.negative c.args.coefficient k c.args.digits e;
    }
