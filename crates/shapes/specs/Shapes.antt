-- The shape table: a shape as rows of two words in preorder, the names of its members in a pool. The first word has the
-- kinds and how many words the shape's rows take, their own among them; the second the name, if the shape is a member's.
-- Assumes nothing.
use Rattle.std.specs.Prelude.{ℕ, ◌+◌, ◌*◌, ◌/◌, ◌%◌, ◌≡◌, Bool, true, false, not, List, [], ◌∷◌, ◌++◌, eqb, length, get_or, drop}
use Rattle.std.specs.Int.Bits.{bit_and}
use Rattle.definitions.specs.Bytes.{Bytes}
use Rattle.definitions.specs.Shape.{Kind, Numeric, no_number, int_only, int_and_dec, Shape, shape, Element, no_list}
use Rattle.definitions.specs.Shape.{list_of, Record, no_rec, rec_of, Fields, no_fields, field, has_list, has_rec, forms}
use Rattle.nodes.specs.Nodes.{Refers}

-- ---- the words of a row

-- the bit of a kind
unfoldable pub kind_bit : Kind → ℕ
kind_bit Kind.null = 1
kind_bit Kind.bool = 2
kind_bit Kind.int = 4
kind_bit Kind.dec = 8
kind_bit Kind.text = 16
kind_bit Kind.list = 32
kind_bit Kind.rec = 64

unfoldable pub bit : Bool → ℕ
bit true = 1
bit false = 0

-- int's bit is the lower one
unfoldable pub numeric_bits : Numeric → ℕ
numeric_bits no_number = 0
numeric_bits int_only = 1
numeric_bits int_and_dec = 3

-- the kinds of a shape: the sum of their bits
unfoldable pub kind_bits : Shape → ℕ
kind_bits (shape n b m t e r) =
    bit n + 2 * bit b + 4 * numeric_bits m + 16 * bit t + 32 * bit (has_list e) + 64 * bit (has_rec r)

-- whether a set of kinds has a kind
unfoldable pub has_bit : (kinds kind : ℕ) → Bool
has_bit kinds kind = not (eqb (bit_and kinds kind) 0)

-- a first word of these parts
abbrev pub head_of : (kinds size : ℕ) → ℕ
head_of kinds size = kinds + 128 * size

-- the first word of a shape: its kinds and how many words its rows take
unfoldable pub head_word : Shape → ℕ
head_word s = kind_bits s + 128 * (2 * forms s)

-- ---- the rows of a shape, where p is the used part of the pool and m the name word

mutual
  pub data ShapeRows (p : List ℕ) : (m : ℕ) → Shape → List ℕ → Type 0 where
    shape_rows
        : {m : ℕ} {n b t : Bool} {k : Numeric} {e : Element} {r : Record} {es rs : List ℕ} → ElementRows p e es
        → RecordRows p r rs → ShapeRows p m (shape n b k t e r) (head_word (shape n b k t e r) ∷ m ∷ es ++ rs)

  -- the rows of an element, which has no name
  pub data ElementRows (p : List ℕ) : Element → List ℕ → Type 0 where
    no_element_rows : ElementRows p no_list []
    element_rows : {s : Shape} {rs : List ℕ} → ShapeRows p 0 s rs → ElementRows p (list_of s) rs

  pub data RecordRows (p : List ℕ) : Record → List ℕ → Type 0 where
    no_record_rows : RecordRows p no_rec []
    record_rows : {fs : Fields} {rs : List ℕ} → FieldRows p fs rs → RecordRows p (rec_of fs) rs

  -- the rows of members, each under its name
  pub data FieldRows (p : List ℕ) : Fields → List ℕ → Type 0 where
    no_field_rows : FieldRows p no_fields []
    field_rows
        : {n : Bytes} {k : ℕ} {s : Shape} {fs : Fields} {rs qs : List ℕ} → Refers p n k → ShapeRows p k s rs → FieldRows p fs qs
        → FieldRows p (field n s fs) (rs ++ qs)

-- ---- what a table holds

-- the rows of s stand in the table from a row on, under the name word m
pub record Stands (shapes p : List ℕ) (row m : ℕ) (s : Shape) : Type 0 where
  pub rows : List ℕ
  pub rest : List ℕ
  pub encoded : ShapeRows p m s rows
  pub placed : drop row shapes ≡ rows ++ rest

-- the rows of members stand in the table from a row up to an end
pub record FieldsStand (shapes p : List ℕ) (row end : ℕ) (fs : Fields) : Type 0 where
  pub rows : List ℕ
  pub rest : List ℕ
  pub encoded : FieldRows p fs rows
  pub placed : drop row shapes ≡ rows ++ rest
  pub reaches : row + length rows ≡ end

-- ---- finding one's way

-- how many words the shape at a row takes
unfoldable pub size_at : List ℕ → ℕ → ℕ
size_at shapes row = get_or shapes row 0 / 128

-- where the members of the shape at a row begin: behind its element, if it has one
unfoldable pub members_at : List ℕ → ℕ → ℕ
members_at shapes row =
    elim (has_bit (get_or shapes row 0 % 128) 32) [ true ↦ row + 2 + size_at shapes (row + 2) | false ↦ row + 2 ]
