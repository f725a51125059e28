-- Shapes: "a set of kinds from null, bool, int, dec, text, list, rec; dec only together with int. With list it has one
-- element shape; with rec it has members, each a name and a shape". These hold by construction; "names strictly
-- ascending by bytes" is `ascending`. Assumes nothing.
use Prim.Native.Nat.{Ordering}
use Rattle.std.specs.Prelude.{ℕ, suc, ◌+◌, max, Bool, true, false, not, ◌&&◌, ◌||◌, List, [], ◌∷◌, eqb}
use Rattle.std.proofs.Math.Option.{Option, none, some}
use Rattle.definitions.specs.Bytes.{Bytes, order, same}

-- ---- kinds

-- "null, bool, int, dec, text, list, rec"
pub data Kind : Type 0 where
  null bool int dec text list rec : Kind

-- the seven in the order of the paper
unfoldable pub all_kinds : List Kind
all_kinds = Kind.null ∷ Kind.bool ∷ Kind.int ∷ Kind.dec ∷ Kind.text ∷ Kind.list ∷ Kind.rec ∷ []

-- a kind's place in that order
unfoldable pub rank : Kind → ℕ
rank Kind.null = 0
rank Kind.bool = 1
rank Kind.int = 2
rank Kind.dec = 3
rank Kind.text = 4
rank Kind.list = 5
rank Kind.rec = 6

-- k is one of these kinds
unfoldable pub among : Kind → List Kind → Bool
among k [] = false
among k (j ∷ js) = eqb (rank k) (rank j) || among k js

-- each of these kinds passes
unfoldable pub every : (Kind → Bool) → List Kind → Bool
every p [] = true
every p (k ∷ ks) = p k && every p ks

-- ---- shapes

-- "dec only together with int"
pub data Numeric : Type 0 where
  no_number int_only int_and_dec : Numeric

mutual
  pub data Shape : Type 0 where
    shape : (null bool : Bool) (numeric : Numeric) (text : Bool) (element : Element) (fields : Record) → Shape

  -- "With list it has one element shape"
  pub data Element : Type 0 where
    no_list : Element
    list_of : Shape → Element

  -- "with rec it has members"
  pub data Record : Type 0 where
    no_rec : Record
    rec_of : Fields → Record

  -- the members of a shape, "each a name and a shape"
  pub data Fields : Type 0 where
    no_fields : Fields
    field : Bytes → Shape → Fields → Fields

-- "Nothing, written `(shape)`, is the shape with no kind."
unfoldable pub nothing : Shape
nothing = shape false false no_number false no_list no_rec

-- int is there
unfoldable pub has_int : Numeric → Bool
has_int no_number = false
has_int int_only = true
has_int int_and_dec = true

-- dec is there
unfoldable pub has_dec : Numeric → Bool
has_dec no_number = false
has_dec int_only = false
has_dec int_and_dec = true

-- list is there
unfoldable pub has_list : Element → Bool
has_list no_list = false
has_list (list_of e) = true

-- rec is there
unfoldable pub has_rec : Record → Bool
has_rec no_rec = false
has_rec (rec_of fs) = true

-- the shape has the kind
unfoldable pub has : Kind → Shape → Bool
has Kind.null (shape n b m t e r) = n
has Kind.bool (shape n b m t e r) = b
has Kind.int (shape n b m t e r) = has_int m
has Kind.dec (shape n b m t e r) = has_dec m
has Kind.text (shape n b m t e r) = t
has Kind.list (shape n b m t e r) = has_list e
has Kind.rec (shape n b m t e r) = has_rec r

-- the shape's kinds are all among these
unfoldable pub within : List Kind → Shape → Bool
within ks s = every (λ k. not (has k s) || among k ks) all_kinds

-- the shape's element, if it has list
unfoldable pub element_of : Shape → Element
element_of (shape n b m t e r) = e

-- the shape's members, if it has rec
unfoldable pub record_of : Shape → Record
record_of (shape n b m t e r) = r

-- the shape of the member of this name
unfoldable pub find : Bytes → Fields → Option Shape
find n no_fields = none
find n (field m s fs) = elim (same n m) [ true ↦ some s | false ↦ find n fs ]

-- ---- shapes of one kind

-- null alone
unfoldable pub only_null : Shape
only_null = shape true false no_number false no_list no_rec

-- bool alone
unfoldable pub only_bool : Shape
only_bool = shape false true no_number false no_list no_rec

-- int alone, or int and dec
unfoldable pub only_numeric : Numeric → Shape
only_numeric m = shape false false m false no_list no_rec

-- text alone
unfoldable pub only_text : Shape
only_text = shape false false no_number true no_list no_rec

-- list alone
unfoldable pub only_list : Element → Shape
only_list e = shape false false no_number false e no_rec

-- rec alone
unfoldable pub only_rec : Record → Shape
only_rec r = shape false false no_number false no_list r

-- ---- "names strictly ascending by bytes"

-- the first name stands before the second
unfoldable pub before : Bytes → Bytes → Bool
before n m = elim (order n m) [ Ordering.lt ↦ true | Ordering.eq ↦ false | Ordering.gt ↦ false ]

-- the first of these names, if there is one, stands behind n
unfoldable pub behind : Bytes → Fields → Bool
behind n no_fields = true
behind n (field m s fs) = before n m

-- at all depths
unfoldable mutual
  pub ascending : Shape → Bool
  ascending (shape n b m t e r) = ascending_element e && ascending_record r

  pub ascending_element : Element → Bool
  ascending_element no_list = true
  ascending_element (list_of s) = ascending s

  pub ascending_record : Record → Bool
  ascending_record no_rec = true
  ascending_record (rec_of fs) = ascending_fields fs

  pub ascending_fields : Fields → Bool
  ascending_fields no_fields = true
  ascending_fields (field n s fs) = ascending s && behind n fs && ascending_fields fs

-- ---- how large a shape is: "in a shape only shape forms count, for both"

-- how many shape forms its text has
unfoldable mutual
  pub forms : Shape → ℕ
  forms (shape n b m t e r) = suc (forms_element e + forms_record r)

  pub forms_element : Element → ℕ
  forms_element no_list = 0
  forms_element (list_of s) = forms s

  pub forms_record : Record → ℕ
  forms_record no_rec = 0
  forms_record (rec_of fs) = forms_fields fs

  pub forms_fields : Fields → ℕ
  forms_fields no_fields = 0
  forms_fields (field n s fs) = forms s + forms_fields fs

-- how deep they are nested, the root counting 1
unfoldable mutual
  pub levels : Shape → ℕ
  levels (shape n b m t e r) = suc (max (levels_element e) (levels_record r))

  pub levels_element : Element → ℕ
  levels_element no_list = 0
  levels_element (list_of s) = levels s

  pub levels_record : Record → ℕ
  levels_record no_rec = 0
  levels_record (rec_of fs) = levels_fields fs

  pub levels_fields : Fields → ℕ
  levels_fields no_fields = 0
  levels_fields (field n s fs) = max (levels s) (levels_fields fs)
