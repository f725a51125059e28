-- What opening rows of a shape and finding a name among its members ask and answer. Assumes nothing.
use Prim.Native.Nat.{Ordering}
use Rattle.std.specs.Prelude.{ℕ, ◌+◌, ◌*◌, ◌^◌, ◌≤◌, ◌<◌, ◌≡◌, Bool, true, false, List, [], ◌∷◌, ◌++◌, length, drop}
use Rattle.std.proofs.Math.Option.{none}
use Rattle.definitions.specs.Bytes.{Bytes, order}
use Rattle.definitions.specs.Shape.{Shape, Fields, field, find, element_of, ascending_fields, forms, forms_element, forms_fields}
use Rattle.nodes.specs.Nodes.{Refers}
use Rattle.plain.specs.Table.{Used}
use Rattle.shapes.specs.Shapes.{head_of, ShapeRows, FieldRows, Stands, FieldsStand}
use Rattle.std.specs.Prelude.{Option, Some, None, Result, Ok, Err}
use Rattle.join.specs.Replacing.{Put, Puts}
use Rattle.growing.specs.Growing.{element_start, place, null_if_lacked, null_others}

-- ---- a table

-- so many words of a table are used, and sizes up to its length fit into a row's first word
pub record Room (shapes : List ℕ) (used : ℕ) : Type 0 where
  pub enough : used ≤ length shapes
  pub small : length shapes < 2 ^ 56

-- the row of a shape of these kinds that has no parts
abbrev pub NewRow : (kinds name : ℕ) → List ℕ → Type 0
NewRow kinds name rows = rows ≡ head_of kinds 2 ∷ name ∷ []

-- ---- an element's row

pub record ShapeHeld (shapes : List ℕ) (used row : ℕ) : Type 0 where
  pub part : List ℕ
  pub name : ℕ
  pub old : Shape
  pub stands : Stands shapes part row name old
  pub within : row + 2 * forms old ≤ used

-- behind the first row of the shape stands its element, which is nothing where it had none
abbrev pub Readies : (shapes shapes' : List ℕ) (used row : ℕ) → Option ℕ → Type 0
Readies shapes shapes' used row r =
    (p : List ℕ) (m : ℕ) (s : Shape) → Stands shapes p row m s → row + 2 * forms s ≤ used
    → Puts
    shapes
    shapes'
    used
    (row + 2)
    (2 * forms_element (element_of s))
    (2 * forms (element_start (element_of s)))
    (ShapeRows p 0 (element_start (element_of s)))
    r

-- ---- members

-- members fs stand in the table from a first row up to a last
pub record MeetsFields (shapes pool : List ℕ) (used first last : ℕ) (p : List ℕ) (fs : Fields) : Type 0 where
  pub pooled : Used pool p
  pub stand : FieldsStand shapes p first last fs
  pub begins : first ≤ last
  pub within : last ≤ used

pub record FieldsHeld (shapes pool : List ℕ) (used first last : ℕ) : Type 0 where
  pub part : List ℕ
  pub fields : Fields
  pub meets : MeetsFields shapes pool used first last part fields

-- the members fs become gs
abbrev pub FieldsBecome : (shapes shapes' p : List ℕ) (used first : ℕ) (fs gs : Fields) → Option ℕ → Type 0
FieldsBecome shapes shapes' p used first fs gs =
    Puts shapes shapes' used first (2 * forms_fields fs) (2 * forms_fields gs) (FieldRows p gs)

-- ---- null for the members that are lacked: `There p there` says that `there` tells which names are there

-- the names of some table, in a pool
pub record SomeNames (There : List ℕ → (Bytes → Bool) → Type 0) (pool : List ℕ) : Type 0 where
  pub part : List ℕ
  pub there : Bytes → Bool
  pub pooled : Used pool part
  pub tells : There part there

-- a member n of a shape
pub record MeetsListed (shapes pool : List ℕ) (used row : ℕ) (p : List ℕ) (n : Bytes) (k : ℕ) (s : Shape) : Type 0 where
  pub pooled : Used pool p
  pub refers : Refers p n k
  pub stands : Stands shapes p row k s
  pub within : row + 2 * forms s ≤ used

pub record ListedHeld (There : List ℕ → (Bytes → Bool) → Type 0) (shapes pool : List ℕ) (used row : ℕ) : Type 0 where
  pub part : List ℕ
  pub label : Bytes
  pub word : ℕ
  pub old : Shape
  pub there : Bytes → Bool
  pub meets : MeetsListed shapes pool used row part label word old
  pub tells : There part there

abbrev pub NullsListed : (There : List ℕ → (Bytes → Bool) → Type 0) (shapes pool shapes' : List ℕ) (used row : ℕ) → Type 0
NullsListed There shapes pool shapes' used row =
    (p : List ℕ) (n : Bytes) (k : ℕ) (s : Shape) (there : Bytes → Bool) → MeetsListed shapes pool used row p n k s → There p there
    → Put shapes shapes' used 0 row (2 * forms s) (ShapeRows p k (null_if_lacked (there n) s))

-- some members stand there
pub record Nullable (There : List ℕ → (Bytes → Bool) → Type 0) (shapes pool : List ℕ) (used first last : ℕ) : Type 0 where
  pub part : List ℕ
  pub fields : Fields
  pub there : Bytes → Bool
  pub meets : MeetsFields shapes pool used first last part fields
  pub tells : There part there

abbrev pub Nulls : (There : List ℕ → (Bytes → Bool) → Type 0) (shapes pool shapes' : List ℕ) (used first last : ℕ) (had : Bool) → Type 0
Nulls There shapes pool shapes' used first last had =
    (p : List ℕ) (fs : Fields) (there : Bytes → Bool) → MeetsFields shapes pool used first last p fs → There p there
    → Put shapes shapes' used 0 first (2 * forms_fields fs) (FieldRows p (null_others had there fs))

-- ---- the place of a name among members

-- the members fs up to some of them: what stands around those, before them the rows front
pub record Around (n : Bytes) (p : List ℕ) (fs back : Fields) (front : List ℕ) : Type 0 where
  pub around : Fields → Fields
  pub same : fs ≡ around back
  pub ascends : ascending_fields fs ≡ true → ascending_fields back ≡ true
  pub encodes : (hs : Fields) (rows : List ℕ) → FieldRows p hs rows → FieldRows p (around hs) (front ++ rows)
  pub counts : (hs : Fields) → 2 * forms_fields (around hs) ≡ length front + 2 * forms_fields hs
  pub places : (st : Shape) (f : Shape → Shape) → place n st f fs ≡ around (place n st f back)

-- whether the first of these members has the name; a name that is not listed has its place before them
abbrev pub Listed : (n : Bytes) (back : Fields) → Bool → Type 0
Listed n back true = (m : Bytes) × (b : Shape) × (gs : Fields) × (back ≡ field m b gs) × (order n m ≡ Ordering.eq)
Listed n back false = (st : Shape) (f : Shape → Shape) → place n st f back ≡ field n (f st) back

-- the place of the name n among the members fs: the row of the first of them that does not stand before it
pub record Finds (shapes : List ℕ) (first last : ℕ) (n : Bytes) (p : List ℕ) (fs : Fields) (row : ℕ) (listed : Bool) : Type 0 where
  pub front : List ℕ
  pub back : Fields
  pub around : Around n p fs back front
  pub before : drop first shapes ≡ front ++ drop row shapes
  pub reached : row ≡ first + length front
  pub stand : FieldsStand shapes p row last back
  pub case : Listed n back listed

-- what an answer says: the row of the member that has the name, or the one that the name would take
abbrev pub FindsPlace : (shapes : List ℕ) (first last : ℕ) (n : Bytes) (p : List ℕ) (fs : Fields) → Result ℕ ℕ → Type 0
FindsPlace shapes first last n p fs (Ok row) = Finds shapes first last n p fs row true
FindsPlace shapes first last n p fs (Err row) = Finds shapes first last n p fs row false

-- what a search for the name n among the members fs tells
abbrev pub FindsNamed : (shapes : List ℕ) (first last : ℕ) (n : Bytes) (p : List ℕ) (fs : Fields) → Option ℕ → Type 0
FindsNamed shapes first last n p fs (Some row) = Finds shapes first last n p fs row true
FindsNamed shapes first last n p fs None = find n fs ≡ none
