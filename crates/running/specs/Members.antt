-- A record of the document's table, whose members are looked up by name. Assumes nothing.
use Rattle.std.specs.Prelude.{ℕ, ◌≤◌, List, length}
use Rattle.definitions.specs.Value.{Value, Members}
use Rattle.nodes.specs.Standing.{ValueStands}
use Rattle.plain.specs.Table.{BoundedNumbers, Used}

-- the record with these members stands at a row
pub record RecordAt (nodes pool : List ℕ) (at : ℕ) (p : List ℕ) (ms : Members) : Type 0 where
  pub name : ℕ
  pub stands : ValueStands nodes p at name (Value.rec ms)
  pub bounded : BoundedNumbers (Value.rec ms)
  pub pooled : Used pool p

pub record SomeRecord (nodes pool : List ℕ) (at : ℕ) : Type 0 where
  pub used : List ℕ
  pub members : Members
  pub held : RecordAt nodes pool at used members
  pub small : length nodes ≤ 65536
