-- What the functions that join a shape into another ask and answer. Assumes nothing.
use Rattle.std.specs.Prelude.{ℕ, ◌+◌, ◌*◌, ◌%◌, ◌≤◌, ◌<◌, ◌≡◌, true, false, List, length, get_or, take, drop, Option}
use Rattle.std.specs.Int.Bits.{bit_or}
use Rattle.definitions.specs.Bytes.{Bytes}
use Rattle.definitions.specs.Shape.{Shape, shape, Fields, field, element_of, record_of, behind, ascending}
use Rattle.definitions.specs.Shape.{ascending_fields, forms, forms_fields, levels, levels_fields}
use Rattle.definitions.specs.Join.{with_null, join, join_element, join_record}
use Rattle.std.specs.declared.cmp.Ordering.{Ordering}
use Rattle.std.specs.declared.cmp.Ordering.TheVariants.{Less, Equal, Greater}
use Rattle.nodes.specs.Nodes.{Refers}
use Rattle.plain.specs.Table.{Used}
use Rattle.shapes.specs.Shapes.{has_bit, ShapeRows, FieldRows, Stands, FieldsStand, size_at}
use Rattle.join.specs.Replacing.{Puts, Becomes}
use Rattle.join.specs.Merge.{merge}

-- ---- words of a second table

-- words of a second table can be put at a place of the used words of a first
pub record Insertable (shapes second : List ℕ) (used at from count : ℕ) : Type 0 where
  pub before : at ≤ used
  pub used_within : used ≤ length shapes
  pub within : from + count ≤ length second

-- these are the words of a table from a place on, so many
abbrev pub Copied : (second : List ℕ) (from count : ℕ) → List ℕ → Type 0
Copied second from count rows = rows ≡ take count (drop from second)

-- ---- the first word of a row

-- a first word with null added
unfoldable pub null_head : ℕ → ℕ
null_head x = elim (has_bit (x % 128) 1) [ true ↦ x | false ↦ x + 1 ]

-- ---- members

-- the members of two shapes stand in two tables, each from a row up to an end; p is the used part of the pool
pub record MembersWalk (shapes second pool p : List ℕ) (row end other to : ℕ) (fs gs : Fields) : Type 0 where
  pub ours : FieldsStand shapes p row end fs
  pub theirs : FieldsStand second p other to gs
  pub ours_ascend : ascending_fields fs ≡ true
  pub theirs_ascend : ascending_fields gs ≡ true
  pub pooled : Used pool p

-- the next member of both: its name and its shape in the join, how many words of the first it takes the place of, and
-- the members left. A comparison tells whose it is: less is the first's alone
pub data Turn : Ordering → (fs gs : Fields) (n : Bytes) (u : Shape) (old : ℕ) (fs' gs' : Fields) → Type 0 where
  turn_first
      : {n : Bytes} {a : Shape} {fs gs : Fields} → behind n gs ≡ true
      → Turn Less (field n a fs) gs n (with_null a) (2 * forms a) fs gs
  turn_second
      : {m : Bytes} {b : Shape} {fs gs : Fields} → behind m fs ≡ true
      → Turn Greater fs (field m b gs) m (with_null b) 0 fs gs
  turn_both
      : {n : Bytes} {a b : Shape} {fs gs : Fields} → Turn Equal (field n a fs) (field n b gs) n (join a b) (2 * forms a) fs gs

pub record Next (o : Ordering) (fs gs : Fields) : Type 0 where
  pub name : Bytes
  pub shape : Shape
  pub old : ℕ
  pub ours : Fields
  pub theirs : Fields
  pub turn : Turn o fs gs name shape old ours theirs

-- where a member is left, a comparison tells which is the next
abbrev pub TellsNext : (shapes second pool : List ℕ) (row end other to : ℕ) → Ordering → Type 0
TellsNext shapes second pool row end other to o =
    (p : List ℕ) (fs gs : Fields) → MembersWalk shapes second pool p row end other to fs gs → row + other < end + to → Next o fs gs

-- the rows of a member
pub record MemberRows (p : List ℕ) (n : Bytes) (u : Shape) (rows : List ℕ) : Type 0 where
  pub name : ℕ
  pub refers : Refers p n name
  pub encoded : ShapeRows p name u rows

-- how many words of the second a turn passes
abbrev pub passed_words : List ℕ → ℕ → Ordering → ℕ
passed_words second other Less = 0
passed_words second other Equal = size_at second other
passed_words second other Greater = size_at second other

-- members to be joined in place, with nesting left for the second's
pub record Walks (shapes second pool p : List ℕ) (used row end other to left : ℕ) (fs gs : Fields) : Type 0 where
  pub walk : MembersWalk shapes second pool p row end other to fs gs
  pub within : end ≤ used
  pub used_within : used ≤ length shapes
  pub there : other ≤ length second
  pub nests : levels_fields gs ≤ left

pub record Mergeable (shapes second pool : List ℕ) (used row end other to left : ℕ) : Type 0 where
  pub p : List ℕ
  pub ours : Fields
  pub theirs : Fields
  pub walks : Walks shapes second pool p used row end other to left ours theirs
  pub small : length shapes ≤ 65536

abbrev pub Merges : (shapes shapes' second pool : List ℕ) (used row end other to left : ℕ) → Option ℕ → Type 0
Merges shapes shapes' second pool used row end other to left r =
    (p : List ℕ) (fs gs : Fields) → Walks shapes second pool p used row end other to left fs gs
    → Puts shapes shapes' used row (2 * forms_fields fs) (2 * forms_fields (merge fs gs)) (FieldRows p (merge fs gs)) r

-- one turn of it
pub record Turns (o : Ordering) (shapes second pool : List ℕ) (used row other left : ℕ) : Type 0 where
  pub p : List ℕ
  pub end : ℕ
  pub to : ℕ
  pub ours : Fields
  pub theirs : Fields
  pub walks : Walks shapes second pool p used row end other to left ours theirs
  pub next : Next o ours theirs
  pub small : length shapes ≤ 65536

abbrev pub Turned : (o : Ordering) (shapes shapes' second pool : List ℕ) (used row other left : ℕ) → Option ℕ → Type 0
Turned o shapes shapes' second pool used row other left r =
    (p : List ℕ) (end to : ℕ) (fs gs : Fields) (n : Bytes) (u : Shape) (old : ℕ) (fs' gs' : Fields)
    → Walks shapes second pool p used row end other to left fs gs → Turn o fs gs n u old fs' gs'
    → Puts shapes shapes' used row old (2 * forms u) (MemberRows p n u) r

-- a shape of a second table can be put at a place of a first
pub record Puttable (shapes second : List ℕ) (used at from : ℕ) : Type 0 where
  pub p : List ℕ
  pub name : ℕ
  pub shape : Shape
  pub stands : Stands second p from name shape
  pub before : at ≤ used
  pub used_within : used ≤ length shapes
  pub small : length shapes ≤ 65536

-- every such shape is put there with null added
abbrev pub PutsNull : (shapes shapes' second : List ℕ) (used at from : ℕ) → Option ℕ → Type 0
PutsNull shapes shapes' second used at from r =
    (p : List ℕ) (k : ℕ) (b : Shape) → Stands second p from k b
    → Puts shapes shapes' used at 0 (2 * forms b) (ShapeRows p k (with_null b)) r

-- ---- shapes

-- the shape at a row of a second table has no parts, and no kind that the one at a row of a first lacks
pub record AddsNothing (shapes second : List ℕ) (row other : ℕ) : Type 0 where
  pub no_list : has_bit (get_or second other 0 % 128) 32 ≡ false
  pub no_rec : has_bit (get_or second other 0 % 128) 64 ≡ false
  pub within : bit_or (get_or shapes row 0 % 128) (get_or second other 0 % 128) ≡ get_or shapes row 0 % 128

-- the shape s stands in the used words of a table at a row, under the name word m, and t in a second
pub record Both (shapes second p : List ℕ) (used row m other k : ℕ) (s t : Shape) : Type 0 where
  pub ours : Stands shapes p row m s
  pub theirs : Stands second p other k t
  pub within : row + 2 * forms s ≤ used
  pub used_within : used ≤ length shapes

-- some shapes do
pub record Beside (shapes second : List ℕ) (used row other : ℕ) : Type 0 where
  pub p : List ℕ
  pub name : ℕ
  pub other_name : ℕ
  pub ours : Shape
  pub theirs : Shape
  pub both : Both shapes second p used row name other other_name ours theirs
  pub small : length shapes ≤ 65536

-- for every such two shapes, the first becomes what `f` makes of both
abbrev pub BecomesBoth : (f : Shape → Shape → Shape) (shapes shapes' second : List ℕ) (used row other : ℕ) → Option ℕ → Type 0
BecomesBoth f shapes shapes' second used row other r =
    (p : List ℕ) (m k : ℕ) (s t : Shape) → Both shapes second p used row m other k s t
    → Becomes shapes shapes' p used row m s (f s t) r

-- the same, where names ascend in both, with nesting left for the second; p is the used part of the pool
pub record Joins (shapes second pool p : List ℕ) (used row m other k left : ℕ) (s t : Shape) : Type 0 where
  pub both : Both shapes second p used row m other k s t
  pub ours_ascend : ascending s ≡ true
  pub theirs_ascend : ascending t ≡ true
  pub nests : levels t ≤ left
  pub pooled : Used pool p

pub record Joinable (shapes second pool : List ℕ) (used row other left : ℕ) : Type 0 where
  pub p : List ℕ
  pub name : ℕ
  pub other_name : ℕ
  pub ours : Shape
  pub theirs : Shape
  pub joins : Joins shapes second pool p used row name other other_name left ours theirs
  pub small : length shapes ≤ 65536

abbrev pub JoinsTo
    : (f : Shape → Shape → Shape) (shapes shapes' second pool : List ℕ) (used row other left : ℕ) → Option ℕ → Type 0
JoinsTo f shapes shapes' second pool used row other left r =
    (p : List ℕ) (m k : ℕ) (s t : Shape) → Joins shapes second pool p used row m other k left s t
    → Becomes shapes shapes' p used row m s (f s t) r

-- the first with the members of both
unfoldable pub join_records : Shape → Shape → Shape
join_records (shape n b m t e r) s = shape n b m t e (join_record r (record_of s))

-- the first with the elements of both
unfoldable pub join_elements : Shape → Shape → Shape
join_elements (shape n b m t e r) s = shape n b m t (join_element e (element_of s)) r
