-- A shape that was read is written so that it reads back as the same shape. Assumes nothing.
use Rattle.std.specs.Prelude.{◌≡◌}
use Rattle.definitions.specs.declared.Limits.{Limits}
use Rattle.definitions.specs.Bytes.{Bytes}
use Rattle.definitions.specs.Outcome.{ok}
use Rattle.definitions.specs.Shape.{Shape}
use Rattle.definitions.specs.ShapeText.{read_shape, write_shape}
use Rattle.laws.proofs.ShapeForms.{shape_accepted_to, shape_ascending}
use Rattle.laws.proofs.ShapeRound.{shape_reads_back}
use Rattle.laws.proofs.RoundShapeRead.{shape_read_good}

pub shape_idempotent
    : (l : Limits) (s : Bytes) (sh : Shape) → read_shape l s ≡ ok sh → read_shape l (write_shape sh) ≡ ok sh
shape_idempotent l s sh e =
    let (f, h, k) = shape_accepted_to l s sh e in
    shape_reads_back l sh (shape_read_good l s sh e) (shape_ascending l s sh e) h k
