-- The values of bindings and places: rows of the document's table, which is read and never written. Assumes nothing.
use Rattle.std.specs.Prelude.{ℕ, ◌≡◌, List, [], ◌∷◌, length, get_or}
use Rattle.definitions.specs.Value.{Value}
use Rattle.nodes.specs.Standing.{ValueStands}
use Rattle.plain.specs.Table.{BoundedNumbers}

-- the value at a row; where a member is missing, null stands past the end
pub data Bound (nodes p : List ℕ) (row : ℕ) : Value → Type 0 where
  standing : {m : ℕ} {v : Value} → ValueStands nodes p row m v → BoundedNumbers v → Bound nodes p row v
  missing : row ≡ length nodes → Bound nodes p row Value.null

-- the bindings' rows, the document's first; their values, innermost first
pub data Binds (nodes p bindings : List ℕ) : List Value → Type 0 where
  no_binding : Binds nodes p bindings []
  binding
      : {v : Value} {env : List Value} → Bound nodes p (get_or bindings (length env) 0) v → Binds nodes p bindings env
      → Binds nodes p bindings (v ∷ env)
