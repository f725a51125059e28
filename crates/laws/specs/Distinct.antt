-- Values with distinct names: in every record, at all depths, no name comes twice. Refusal 5 sees to it for documents.
-- Assumes nothing.
use Rattle.std.specs.Prelude.{Bool, true, not, ◌&&◌}
use Rattle.definitions.specs.Value.{Value, Items, no_items, item, Members, no_members, member, has_name}

unfoldable mutual
  pub distinct : Value → Bool
  distinct Value.null = true
  distinct (Value.bool b) = true
  distinct (Value.number x) = true
  distinct (Value.text t) = true
  distinct (Value.list vs) = distinct_items vs
  distinct (Value.rec ms) = distinct_members ms

  pub distinct_items : Items → Bool
  distinct_items no_items = true
  distinct_items (item v vs) = distinct v && distinct_items vs

  pub distinct_members : Members → Bool
  distinct_members no_members = true
  distinct_members (member n v ms) = not (has_name n ms) && distinct v && distinct_members ms
