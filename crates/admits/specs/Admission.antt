-- What admitting asks and answers: of a shape that a shape table holds and a value that a node table holds, the names and
-- texts of both in one pool. Assumes nothing.
use Rattle.std.specs.Prelude.{ℕ, ◌+◌, ◌/◌, ◌%◌, ◌≡◌, Bool, true, ◌||◌, List, get_or}
use Rattle.definitions.specs.Value.{Value, Items, Members, has_name}
use Rattle.definitions.specs.Shape.{Shape, Fields}
use Rattle.definitions.specs.Admits.{admits, admitted_items, admitted_members, missing_have_null}
use Rattle.laws.specs.Distinct.{distinct, distinct_items, distinct_members}
use Rattle.pool.specs.Pool.{text_in}
use Rattle.nodes.specs.Standing.{ItemsStand, MembersStand}
use Rattle.plain.specs.Table.{BoundedItems, BoundedMembers, Used, Holds}
use Rattle.shapes.specs.Shapes.{has_bit}
use Rattle.shapes.specs.Held.{HoldsShape, HoldsFields}

-- ---- what a value holds

-- elements stand in the table from a row up to an end
pub record HoldsItems (nodes pool : List ℕ) (at end : ℕ) (vs : Items) : Type 0 where
  pub used : List ℕ
  pub stand : ItemsStand nodes used at end vs
  pub pooled : Used pool used
  pub bounded : BoundedItems vs

-- members stand in the table from a row up to an end
pub record HoldsMembers (nodes pool : List ℕ) (at end : ℕ) (ms : Members) : Type 0 where
  pub used : List ℕ
  pub stand : MembersStand nodes used at end ms
  pub pooled : Used pool used
  pub bounded : BoundedMembers ms

-- ---- what is asked, of a value in which no name comes twice

pub record ValueAsked (shapes : List ℕ) (row : ℕ) (nodes : List ℕ) (at : ℕ) (pool : List ℕ) : Type 0 where
  pub shape : Shape
  pub held : HoldsShape shapes pool row shape
  pub value : Value
  pub holds : Holds nodes pool at value
  pub once : distinct value ≡ true

pub record ItemsAsked (shapes : List ℕ) (row : ℕ) (nodes : List ℕ) (at end : ℕ) (pool : List ℕ) : Type 0 where
  pub shape : Shape
  pub held : HoldsShape shapes pool row shape
  pub items : Items
  pub holds : HoldsItems nodes pool at end items
  pub once : distinct_items items ≡ true

pub record MembersAsked (shapes : List ℕ) (from to : ℕ) (nodes : List ℕ) (at end : ℕ) (pool : List ℕ) : Type 0 where
  pub fields : Fields
  pub held : HoldsFields shapes pool from to fields
  pub members : Members
  pub holds : HoldsMembers nodes pool at end members
  pub once : distinct_members members ≡ true

-- ---- what is answered

-- whether the shape admits the value
abbrev pub ValueTold : (shapes : List ℕ) (row : ℕ) (nodes : List ℕ) (at : ℕ) (pool : List ℕ) → Bool → Type 0
ValueTold shapes row nodes at pool r =
    (s : Shape) → HoldsShape shapes pool row s → (v : Value) → Holds nodes pool at v → r ≡ admits s v

-- whether the shape admits each element
abbrev pub ItemsTold : (shapes : List ℕ) (row : ℕ) (nodes : List ℕ) (at end : ℕ) (pool : List ℕ) → Bool → Type 0
ItemsTold shapes row nodes at end pool r =
    (s : Shape) → HoldsShape shapes pool row s → (vs : Items) → HoldsItems nodes pool at end vs → r ≡ admitted_items vs s

-- whether each member of the value is listed and admitted
abbrev pub MembersTold : (shapes : List ℕ) (from to : ℕ) (nodes : List ℕ) (at end : ℕ) (pool : List ℕ) → Bool → Type 0
MembersTold shapes from to nodes at end pool r =
    (fs : Fields) → HoldsFields shapes pool from to fs → (ms : Members) → HoldsMembers nodes pool at end ms
    → r ≡ admitted_members ms fs

-- whether every listed member that the value lacks has null
abbrev pub NullsTold : (shapes : List ℕ) (from to : ℕ) (nodes : List ℕ) (at end : ℕ) (pool : List ℕ) → Bool → Type 0
NullsTold shapes from to nodes at end pool r =
    (fs : Fields) → HoldsFields shapes pool from to fs → (ms : Members) → HoldsMembers nodes pool at end ms
    → r ≡ missing_have_null ms fs

-- ---- names

-- whether the members of a value have the name of the shape at a row, or it has null
abbrev pub Lacks : (shapes : List ℕ) (row : ℕ) (nodes : List ℕ) (at end : ℕ) (pool : List ℕ) → Bool → Type 0
Lacks shapes row nodes at end pool r =
    (ms : Members) → HoldsMembers nodes pool at end ms
    → r
    ≡ (has_name (text_in pool (get_or shapes (row + 1) 0 % 65536) (get_or shapes (row + 1) 0 / 65536)) ms
    || has_bit (get_or shapes row 0 % 128) 1)
