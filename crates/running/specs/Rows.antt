-- Rows of results: what putting, copying and closing them asks and answers. Assumes nothing.
use Rattle.std.specs.Prelude.{ℕ, ◌+◌, ◌*◌, ◌^◌, ◌≤◌, ◌<◌, ◌≡◌, List, length, get_or, take}
use Rattle.definitions.specs.Bytes.{Bytes}
use Rattle.definitions.specs.Value.{Value, Items, Members, size}
use Rattle.definitions.specs.Running.{items_of}
use Rattle.nodes.specs.Nodes.{head_word, Refers}
use Rattle.nodes.specs.RowLaws.{with_row}
use Rattle.nodes.specs.Standing.{ItemsStand, MembersStand}
use Rattle.plain.specs.Table.{BoundedItems, BoundedMembers, Used}
use Rattle.running.specs.Bindings.{Bound}
use Rattle.running.specs.Walk.{Puts}

-- a row is put as number `begun`, where there is room for it
pub record PutRow (before after : List ℕ) (begun head payload name r : ℕ) : Type 0 where
  pub counted : r ≡ begun + 1
  pub put : 3 * begun + 3 ≤ length before → after ≡ with_row before begun head payload name
  pub front : take (3 * begun) after ≡ take (3 * begun) before

-- some value stands at a row of the document
pub record SomeBound (nodes : List ℕ) (at begun : ℕ) : Type 0 where
  pub used : List ℕ
  pub value : Value
  pub bound : Bound nodes used at value
  pub small : length nodes ≤ 65536
  pub few : begun < 2 ^ 60

pub record Keeps (nodes : List ℕ) (at : ℕ) (before after : List ℕ) (begun name r : ℕ) : Type 0 where
  pub front : take (3 * begun) after ≡ take (3 * begun) before
  pub puts : (p : List ℕ) (v : Value) → Bound nodes p at v → Puts p before after name begun v r

-- the elements of a value stand behind its row
pub record EndsItems (nodes p : List ℕ) (at : ℕ) (v : Value) (end : ℕ) : Type 0 where
  pub stand : ItemsStand nodes p (at + 3) end (items_of v)
  pub bounded : BoundedItems (items_of v)
  pub near : end ≤ length nodes + 3

-- ---- parts whose list or record is to be closed

pub record ItemsAt (results : List ℕ) (row end : ℕ) (p : List ℕ) (vs : Items) : Type 0 where
  pub stand : ItemsStand results p row end vs
  pub bounded : BoundedItems vs

pub record SomeItems (results : List ℕ) (row end : ℕ) : Type 0 where
  pub used : List ℕ
  pub items : Items
  pub held : ItemsAt results row end used items
  pub pooled : length used < 65536
  pub small : length results ≤ 65536

pub record NameAt (results pool : List ℕ) (row : ℕ) (p : List ℕ) (n : Bytes) : Type 0 where
  pub refers : Refers p n (get_or results (row + 2) 0)
  pub pooled : Used pool p

pub record SomeName (results pool : List ℕ) (row : ℕ) : Type 0 where
  pub used : List ℕ
  pub name : Bytes
  pub held : NameAt results pool row used name

pub record MembersAt (results pool : List ℕ) (row end : ℕ) (p : List ℕ) (ms : Members) : Type 0 where
  pub stand : MembersStand results p row end ms
  pub bounded : BoundedMembers ms
  pub pooled : Used pool p

pub record SomeMembers (results pool : List ℕ) (row end : ℕ) : Type 0 where
  pub used : List ℕ
  pub members : Members
  pub held : MembersAt results pool row end used members
  pub small : length results ≤ 65536

-- ---- closing, where there was room for all of the parts

pub record ListClosable (results : List ℕ) (begun to : ℕ) : Type 0 where
  pub items : 3 * to ≤ length results → SomeItems results (3 * begun + 3) (3 * to)
  pub later : begun < to
  pub few : to < 2 ^ 60

pub record ClosesList (before after : List ℕ) (begun to name : ℕ) : Type 0 where
  pub front : take (3 * begun) after ≡ take (3 * begun) before
  pub closed
      : 3 * to ≤ length before → (p : List ℕ) (vs : Items) → ItemsAt before (3 * begun + 3) (3 * to) p vs
      → after ≡ with_row before begun (head_word (Value.list vs)) (3 * size (Value.list vs)) name

pub record RecordClosable (results pool : List ℕ) (begun to : ℕ) : Type 0 where
  pub members : 3 * to ≤ length results → SomeMembers results pool (3 * begun + 3) (3 * to)
  pub later : begun < to
  pub few : to < 2 ^ 60

pub record ClosesRecord (before after pool : List ℕ) (begun to name : ℕ) : Type 0 where
  pub front : take (3 * begun) after ≡ take (3 * begun) before
  pub closed
      : 3 * to ≤ length before → (p : List ℕ) (ms : Members) → MembersAt before pool (3 * begun + 3) (3 * to) p ms
      → after ≡ with_row before begun (head_word (Value.rec ms)) (3 * size (Value.rec ms)) name
