-- What joining a value into a table's shape asks and answers, for the whole and for its parts. Assumes nothing.
use Rattle.std.specs.Prelude.{ℕ, ◌+◌, ◌*◌, ◌≤◌, ◌≡◌, Bool, true, List}
use Rattle.definitions.specs.Bytes.{Bytes}
use Rattle.definitions.specs.Value.{Value, Items, Members, has_name}
use Rattle.definitions.specs.Shape.{Shape, Fields, ascending, ascending_fields, forms, forms_fields}
use Rattle.definitions.specs.Join.{join, shape_of}
use Rattle.laws.specs.Distinct.{distinct, distinct_items, distinct_members}
use Rattle.nodes.specs.Nodes.{Refers}
use Rattle.nodes.specs.Standing.{ValueStands, ItemsStand, MembersStand}
use Rattle.plain.specs.Table.{BoundedNumbers, BoundedItems, BoundedMembers, Used}
use Rattle.shapes.specs.Shapes.{Stands, FieldRows}
use Rattle.shapes.specs.AsMany.{AllListed}
use Rattle.join.specs.Replacing.{Put, Becomes}
use Rattle.std.specs.Prelude.{Option}
use Rattle.growing.specs.Growing.{member_start, place, null_others}
use Rattle.growing.specs.Rows.{MeetsFields, FieldsBecome}
use Rattle.infer.specs.Infer.{infer_into, infer_items, infer_members}

-- ---- a value into a shape

-- a shape s whose names ascend stands at a row under the name word m, and a value v in which no name comes twice in the node
-- table under the name word k
pub record Meets (shapes nodes pool : List ℕ) (used row at : ℕ) (p : List ℕ) (m : ℕ) (s : Shape) (k : ℕ) (v : Value) : Type 0 where
  pub pooled : Used pool p
  pub stands : Stands shapes p row m s
  pub within : row + 2 * forms s ≤ used
  pub held : ValueStands nodes p at k v
  pub bounded : BoundedNumbers v
  pub ascends : ascending s ≡ true
  pub once : distinct v ≡ true

pub record Inferable (shapes nodes pool : List ℕ) (used row at : ℕ) : Type 0 where
  pub part : List ℕ
  pub name : ℕ
  pub old : Shape
  pub label : ℕ
  pub value : Value
  pub meets : Meets shapes nodes pool used row at part name old label value

-- the value that stands there is joined into the shape that stands there
abbrev pub Infers : (shapes nodes pool shapes' : List ℕ) (used row at : ℕ) → Option ℕ → Type 0
Infers shapes nodes pool shapes' used row at r =
    (p : List ℕ) (m : ℕ) (s : Shape) (k : ℕ) (v : Value) → Meets shapes nodes pool used row at p m s k v
    → Becomes shapes shapes' p used row m s (infer_into v s) r

-- the same in the words of the definitions
abbrev pub Joins : (shapes nodes pool shapes' : List ℕ) (used row at : ℕ) → Option ℕ → Type 0
Joins shapes nodes pool shapes' used row at r =
    (p : List ℕ) (m : ℕ) (s : Shape) (k : ℕ) (v : Value) → Meets shapes nodes pool used row at p m s k v
    → ascending s ≡ true → distinct v ≡ true → Becomes shapes shapes' p used row m s (join s (shape_of v)) r

-- ---- elements into an element

pub record MeetsItems (shapes nodes pool : List ℕ) (used row at end : ℕ) (p : List ℕ) (m : ℕ) (s : Shape) (vs : Items) : Type 0 where
  pub pooled : Used pool p
  pub stands : Stands shapes p row m s
  pub within : row + 2 * forms s ≤ used
  pub held : ItemsStand nodes p at end vs
  pub bounded : BoundedItems vs
  pub ascends : ascending s ≡ true
  pub once : distinct_items vs ≡ true

pub record ItemsInferable (shapes nodes pool : List ℕ) (used row at end : ℕ) : Type 0 where
  pub part : List ℕ
  pub name : ℕ
  pub old : Shape
  pub items : Items
  pub meets : MeetsItems shapes nodes pool used row at end part name old items

abbrev pub InfersItems : (shapes nodes pool shapes' : List ℕ) (used row at end : ℕ) → Option ℕ → Type 0
InfersItems shapes nodes pool shapes' used row at end r =
    (p : List ℕ) (m : ℕ) (s : Shape) (vs : Items) → MeetsItems shapes nodes pool used row at end p m s vs
    → Becomes shapes shapes' p used row m s (infer_items vs s) r

-- ---- members into members

pub record MeetsMember
    (shapes nodes pool : List ℕ) (used first last at : ℕ) (p : List ℕ) (fs : Fields) (n : Bytes) (k : ℕ) (v : Value) : Type 0 where
  pub fields : MeetsFields shapes pool used first last p fs
  pub refers : Refers p n k
  pub held : ValueStands nodes p at k v
  pub bounded : BoundedNumbers v
  pub ascends : ascending_fields fs ≡ true
  pub once : distinct v ≡ true

pub record MemberInferable (shapes nodes pool : List ℕ) (used first last at : ℕ) : Type 0 where
  pub part : List ℕ
  pub olds : Fields
  pub label : Bytes
  pub word : ℕ
  pub value : Value
  pub meets : MeetsMember shapes nodes pool used first last at part olds label word value

abbrev pub InfersMember : (shapes nodes pool shapes' : List ℕ) (used first last at : ℕ) (had : Bool) → Option ℕ → Type 0
InfersMember shapes nodes pool shapes' used first last at had r =
    (p : List ℕ) (fs : Fields) (n : Bytes) (k : ℕ) (v : Value) → MeetsMember shapes nodes pool used first last at p fs n k v
    → FieldsBecome shapes shapes' p used first fs (place n (member_start had) (λ s. infer_into v s) fs) r

pub record MeetsMembers
    (shapes nodes pool : List ℕ) (used first last at end : ℕ) (p : List ℕ) (fs : Fields) (ms : Members) : Type 0 where
  pub fields : MeetsFields shapes pool used first last p fs
  pub held : MembersStand nodes p at end ms
  pub bounded : BoundedMembers ms
  pub ascends : ascending_fields fs ≡ true
  pub once : distinct_members ms ≡ true

pub record MembersInferable (shapes nodes pool : List ℕ) (used first last at end : ℕ) : Type 0 where
  pub part : List ℕ
  pub olds : Fields
  pub members : Members
  pub meets : MeetsMembers shapes nodes pool used first last at end part olds members

abbrev pub InfersMembers : (shapes nodes pool shapes' : List ℕ) (used first last at end : ℕ) (had : Bool) → Option ℕ → Type 0
InfersMembers shapes nodes pool shapes' used first last at end had r =
    (p : List ℕ) (fs : Fields) (ms : Members) → MeetsMembers shapes nodes pool used first last at end p fs ms
    → FieldsBecome shapes shapes' p used first fs (infer_members ms (member_start had) fs) r

-- ---- the names of a record's members

-- the members of a record stand in the node table, and `there` tells which names they have
pub record MembersThere (nodes : List ℕ) (at end : ℕ) (p : List ℕ) (there : Bytes → Bool) : Type 0 where
  pub members : Members
  pub held : MembersStand nodes p at end members
  pub tells : (n : Bytes) → has_name n members ≡ there n

-- null for the members that the record lacks, where each member of the record is listed and no name comes twice
abbrev pub NullsOthers : (shapes nodes pool shapes' : List ℕ) (used first last at end : ℕ) (had : Bool) → Type 0
NullsOthers shapes nodes pool shapes' used first last at end had =
    (p : List ℕ) (fs : Fields) (ms : Members) → MeetsFields shapes pool used first last p fs → MembersStand nodes p at end ms
    → distinct_members ms ≡ true → AllListed ms fs
    → Put shapes shapes' used 0 first (2 * forms_fields fs) (FieldRows p (null_others had (λ (n : Bytes). has_name n ms) fs))
