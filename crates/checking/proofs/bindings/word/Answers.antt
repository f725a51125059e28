-- `checking::bindings::word` meets its contract: past the end stands 0. Assumes nothing.
use mathlib.Core.Path.{sym}
use lib.ListN.{get_or-eq_default}
use Rattle.checking.proofs.bindings.word.Goals as goal

pub returns-else-slot-bindings : goal.returns-else-slot-bindings
returns-else-slot-bindings c = record { read = sym (get_or-eq_default c.args.bindings.now 0 c.if-slot-bindings.false) }
