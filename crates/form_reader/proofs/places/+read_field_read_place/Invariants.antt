-- The measures and invariants of the cycle of calls. Assumes nothing.
use Prim.Native.Nat.{◌+◌, ◌*◌}
use Rattle.form_reader.proofs.places.+read_field_read_place.Given as goal

abbrev pub decreases-read_field : goal.decreases-read_field
decreases-read_field l = 2 * l.left + 1

abbrev pub decreases-read_place : goal.decreases-read_place
decreases-read_place l = 2 * l.left
