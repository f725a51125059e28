-- What a node table and a pool hold, and what a value's writer asks and answers. Assumes nothing.
use Rattle.std.specs.Prelude.{ℕ, ◌+◌, ◌≤◌, ◌<◌, ◌≡◌, List, ◌++◌, length, take, drop}
use Rattle.definitions.specs.Bytes.{Bytes}
use Rattle.definitions.specs.Value.{Value, Items, no_items, item, Members, no_members, member}
use Rattle.definitions.specs.Plain.{plain}
use Rattle.number.specs.NumberWrite.{Bounded}
use Rattle.text.specs.Writes.{Writes}
use Rattle.nodes.specs.Nodes.{Rows}

-- ---- what a table holds

-- refusal 4 is for no number of a value
unfoldable mutual
  pub BoundedNumbers : Value → Type 0
  BoundedNumbers Value.null = Unit
  BoundedNumbers (Value.bool b) = Unit
  BoundedNumbers (Value.number x) = Bounded x
  BoundedNumbers (Value.text t) = Unit
  BoundedNumbers (Value.list vs) = BoundedItems vs
  BoundedNumbers (Value.rec ms) = BoundedMembers ms

  pub BoundedItems : Items → Type 0
  BoundedItems no_items = Unit
  BoundedItems (item v vs) = BoundedNumbers v × BoundedItems vs

  pub BoundedMembers : Members → Type 0
  BoundedMembers no_members = Unit
  BoundedMembers (member n v ms) = BoundedNumbers v × BoundedMembers ms

-- the rows of v stand in the table from a row on; p is the used part of the pool
pub record SomeValueStands (nodes p : List ℕ) (row : ℕ) (v : Value) : Type 0 where
  pub name : ℕ
  pub rows : List ℕ
  pub rest : List ℕ
  pub encoded : Rows p name v rows
  pub placed : drop row nodes ≡ rows ++ rest

-- p is the used part of a pool: a reference has 16 bits for a text's first word
pub record Used (pool p : List ℕ) : Type 0 where
  pub front : take (length p) pool ≡ p
  pub small : length p < 65536

-- the value v stands in the table from a row on, and its texts in the pool
pub record Holds (nodes pool : List ℕ) (row : ℕ) (v : Value) : Type 0 where
  pub used : List ℕ
  pub stands : SomeValueStands nodes used row v
  pub pooled : Used pool used
  pub bounded : BoundedNumbers v

-- some value stands at the first row
pub record Held (nodes pool : List ℕ) : Type 0 where
  pub value : Value
  pub holds : Holds nodes pool 0 value

-- ---- what a writer asks and answers

-- a value stands there, and the output has room for it from a place on
pub record Writable (nodes pool : List ℕ) (row : ℕ) (out : Bytes) (at : ℕ) : Type 0 where
  pub value : Value
  pub holds : Holds nodes pool row value
  pub room : at + length (plain value) ≤ length out

-- the value that stands there is written from a place on, and r is the place behind it
abbrev pub WritesValue : (nodes pool : List ℕ) (row : ℕ) (out out' : Bytes) (at r : ℕ) → Type 0
WritesValue nodes pool row out out' at r = (v : Value) → Holds nodes pool row v → Writes out out' at (plain v) r

-- a text s at the front of the output, r bytes long; behind it nothing is changed
pub record Front (out out' s : Bytes) (r : ℕ) : Type 0 where
  pub bytes : out' ≡ s ++ drop r out
  pub size : r ≡ length s

-- the value that stands at the first row is written at the front
abbrev pub WritesFront : (nodes pool : List ℕ) (out out' : Bytes) (r : ℕ) → Type 0
WritesFront nodes pool out out' r = (v : Value) → Holds nodes pool 0 v → Front out out' (plain v) r
