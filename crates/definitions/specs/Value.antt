-- Values: "A value is null, a bool, an int, a decimal, a text, a list or a record. A value holds lists and records, and
-- these hold values." Assumes nothing.
use Rattle.std.specs.Prelude.{ℕ, suc, ◌+◌, max, Bool, false, ◌||◌}
use Rattle.definitions.specs.Bytes.{Bytes, same}
use Rattle.definitions.specs.Number.{Number}

mutual
  pub data Value : Type 0 where
    null : Value
    bool : Bool → Value
    -- an int or a decimal: `is_int` tells
    number : Number → Value
    -- decoded bytes
    text : Bytes → Value
    list : Items → Value
    rec : Members → Value

  -- the elements of a list, in order
  pub data Items : Type 0 where
    no_items : Items
    item : Value → Items → Items

  -- the members of a record, in order, each under its decoded name
  pub data Members : Type 0 where
    no_members : Members
    member : Bytes → Value → Members → Members

-- the elements of the first, last one first, before those of the second
unfoldable pub items_onto : Items → Items → Items
items_onto no_items ws = ws
items_onto (item v vs) ws = items_onto vs (item v ws)

-- the members of the first, last one first, before those of the second
unfoldable pub members_onto : Members → Members → Members
members_onto no_members ns = ns
members_onto (member n v ms) ns = members_onto ms (member n v ns)

-- a record with these members has one of this name
unfoldable pub has_name : Bytes → Members → Bool
has_name n no_members = false
has_name n (member m v ms) = same n m || has_name n ms

-- how many elements a list has
unfoldable pub count : Items → ℕ
count no_items = 0
count (item v vs) = suc (count vs)

-- how many values a value is, itself and all that it holds; names are none
unfoldable mutual
  pub size : Value → ℕ
  size null = 1
  size (bool b) = 1
  size (number x) = 1
  size (text t) = 1
  size (list vs) = suc (size_items vs)
  size (rec ms) = suc (size_members ms)

  -- all that a list holds
  pub size_items : Items → ℕ
  size_items no_items = 0
  size_items (item v vs) = size v + size_items vs

  -- all that a record holds
  pub size_members : Members → ℕ
  size_members no_members = 0
  size_members (member n v ms) = size v + size_members ms

-- "Nesting counts the root as 1"
unfoldable mutual
  pub nesting : Value → ℕ
  nesting null = 1
  nesting (bool b) = 1
  nesting (number x) = 1
  nesting (text t) = 1
  nesting (list vs) = suc (nesting_items vs)
  nesting (rec ms) = suc (nesting_members ms)

  -- the deepest of a list's elements
  pub nesting_items : Items → ℕ
  nesting_items no_items = 0
  nesting_items (item v vs) = max (nesting v) (nesting_items vs)

  -- the deepest of a record's members
  pub nesting_members : Members → ℕ
  nesting_members no_members = 0
  nesting_members (member n v ms) = max (nesting v) (nesting_members ms)
