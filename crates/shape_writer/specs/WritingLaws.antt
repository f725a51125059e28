-- How the tables of a reader or a join are what a writer asks. Assumes nothing.
use Rattle.std.specs.Prelude.{ℕ, ◌≤◌, List, length}
use Rattle.definitions.specs.Shape.{Shape}
use Rattle.shapes.specs.Held.{HoldsShape}
use Rattle.shape_writer.specs.Writing.{Deliverable}

-- in a table that is not too long
pub deliverable : {shapes pool : List ℕ} {s : Shape} → HoldsShape shapes pool 0 s → length shapes ≤ 65536 → Deliverable shapes pool
deliverable {s = s} h l = record { shape = s; holds = h; small = l }
