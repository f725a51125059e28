-- The measures and invariants of the cycle of calls. Assumes nothing.
use Prim.Native.Nat.{◌-◌}
use lib.ListN.{length}
use Rattle.checking.proofs.places.+locate.Given as goal

abbrev pub decreases-locate : goal.decreases-locate
decreases-locate l = length l.forms.now - l.row
