-- A value of a table whose nesting is judged. Assumes nothing.
use Rattle.std.specs.Prelude.{ℕ, ◌≤◌, List, length}
use Rattle.definitions.specs.Value.{Value}
use Rattle.nodes.specs.Standing.{ValueStands}

pub record SomeValue (nodes : List ℕ) (at : ℕ) : Type 0 where
  pub used : List ℕ
  pub name : ℕ
  pub value : Value
  pub stands : ValueStands nodes used at name value
  pub small : length nodes ≤ 65536
