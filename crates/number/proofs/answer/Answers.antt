-- `number::answer` meets its contract, each field by what its callee ensures. Assumes nothing.
use mathlib.Core.Path.{refl}
use Rattle.number.proofs.Caps.{held}
use Rattle.number.proofs.answer.Goals as goal

pub returns : goal.returns
returns c =
    record {
      end = refl;
      whole = c.is_complete.ensures;
      over = c.is_beyond.ensures;
      meaning = λ n s b. held s _ c.has_minus.ensures b;
    }
