-- The measures and invariants of the cycle of calls. Assumes nothing.
use Prim.Native.Nat.{◌-◌}
use lib.ListN.{length}
use Rattle.running.proofs.places.+run_place.Given as goal

abbrev pub decreases-run_place : goal.decreases-run_place
decreases-run_place l = length l.t.now.forms.now - l.row
