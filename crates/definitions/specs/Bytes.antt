-- Texts as lists of bytes, tables of ranges of bytes, white space, and byte order. Assumes nothing.
use Prim.Native.Nat.{ℕ, compare, Ordering}
use Prim.Native.Char.{Char, code}
use Prim.Native.String.{String, [] as no_chars, ◌∷◌ as ◌then◌}
use Rattle.std.specs.Prelude.{Bool, true, false, ◌&&◌, List, [], ◌∷◌, leb, eqb}
use Rattle.std.proofs.Math.Option.{Option, none, some}
use Rattle.std.proofs.Math.Dec.{compare_is_eq}

-- a text, or a part of one: bytes 0 to 255
abbrev pub Bytes : Type 0
Bytes = List ℕ

-- the bytes of a quoted ASCII text
unfoldable pub bytes : String → Bytes
bytes no_chars = []
bytes (c then s) = code c ∷ bytes s

-- ---- tables of ranges

-- the bytes from one up to another, and what they stand for
pub data Row (A : Type 0) : Type 0 where
  row : ℕ → ℕ → A → Row A

-- a row of one ASCII character
abbrev pub one : {A : Type 0} → Char → A → Row A
one c a = row (code c) (code c) a

-- a row of the ASCII characters from one up to another
abbrev pub span : {A : Type 0} → Char → Char → A → Row A
span c d a = row (code c) (code d) a

-- b is neither below lo nor above hi
unfoldable pub between : ℕ → ℕ → ℕ → Bool
between lo hi b = leb lo b && leb b hi

-- what the first row that has b says
unfoldable pub look : {A : Type 0} → List (Row A) → ℕ → Option A
look [] b = none
look (row lo hi a ∷ rows) b = elim (between lo hi b) [ true ↦ some a | false ↦ look rows b ]

-- b is this ASCII character
unfoldable pub is : Char → ℕ → Bool
is c b = eqb b (code c)

-- ---- white space

-- RFC 8259: ws = *( %x20 / %x09 / %x0A / %x0D )
unfoldable pub white_table : List (Row (Unit {0}))
white_table = one " " tt ∷ one "\t" tt ∷ one "\n" tt ∷ one "\r" tt ∷ []

-- there is something
unfoldable pub found : {A : Type 0} → Option A → Bool
found none = false
found (some a) = true

-- b is white space of JSON
unfoldable pub white : ℕ → Bool
white b = found (look white_table b)

-- ---- byte order

-- two texts by their first different byte; one that the other begins with comes first
unfoldable pub order : Bytes → Bytes → Ordering
order [] [] = Ordering.eq
order [] (y ∷ ys) = Ordering.lt
order (x ∷ xs) [] = Ordering.gt
order (x ∷ xs) (y ∷ ys) =
    elim (compare x y) [ Ordering.lt ↦ Ordering.lt | Ordering.eq ↦ order xs ys | Ordering.gt ↦ Ordering.gt ]

-- "Texts and names are compared after escapes are decoded": the same bytes
unfoldable pub same : Bytes → Bytes → Bool
same xs ys = compare_is_eq (order xs ys)
