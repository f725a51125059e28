-- Sets of limits beside each other: what it is to be larger, and what a source does at a larger set. Assumes nothing.
use Rattle.std.specs.Prelude.{◌≤◌, ◌≡◌}
use Rattle.definitions.specs.declared.Limits.{Limits}
use Rattle.definitions.specs.Bytes.{Bytes}
use Rattle.definitions.specs.Outcome.{ok}
use Rattle.definitions.specs.Value.{Value}
use Rattle.definitions.specs.Operations.{Source}

-- no limit of the second set is smaller than that of the first
pub record Larger (l m : Limits) : Type 0 where
  pub bytes : l.bytes ≤ m.bytes
  pub values : l.values ≤ m.values
  pub nesting : l.nesting ≤ m.nesting
  pub steps : l.steps ≤ m.steps

-- what a source reads at a set, it reads as the same value at every larger one
abbrev pub ReadsOn : Source → Type 0
ReadsOn source = (l m : Limits) → Larger l m → (document : Bytes) (v : Value) → source l document ≡ ok v → source m document ≡ ok v
