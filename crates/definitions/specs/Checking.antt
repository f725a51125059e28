-- Checking a reader against a shape: "parts left to right, then the form itself; a part that is refused stops the form
-- that holds it." Refusals 9 and 10 stand at the form's bracket. Assumes nothing.
use Rattle.std.specs.Prelude.{ℕ, Bool, true, false, not, ◌&&◌, List, [], ◌∷◌, get_or}
use Rattle.std.proofs.Math.Option.{none, some}
use Rattle.definitions.specs.Bytes.{Bytes}
use Rattle.definitions.specs.Outcome.{Outcome, ok, refused, ◌>>=◌}
use Rattle.definitions.specs.Shape.{Kind, among, Numeric, no_number, int_only, int_and_dec, Shape, shape, Element}
use Rattle.definitions.specs.Shape.{no_list, list_of, Record, no_rec, rec_of, Fields, no_fields, nothing, has, within}
use Rattle.definitions.specs.Shape.{element_of, record_of, find, only_bool, only_numeric, only_text, only_list, only_rec}
use Rattle.definitions.specs.Join.{with_null, join, insert, shape_of}
use Rattle.definitions.specs.Reader.{Place, Conversion, to_int, to_dec, to_bool, to_text, Test, Result, Pairs, no_pairs, pair}

-- ---- the kinds that each form wants

-- request Q-2: "Let `field` accept kinds within rec and null."
unfoldable pub field_kinds : List Kind
field_kinds = Kind.rec ∷ Kind.null ∷ []

-- "`int`, `bool`, `text` want kinds within their own ..; `dec` wants kinds within int and dec"
unfoldable pub convert_kinds : Conversion → List Kind
convert_kinds to_int = Kind.int ∷ []
convert_kinds to_dec = Kind.int ∷ Kind.dec ∷ []
convert_kinds to_bool = Kind.bool ∷ []
convert_kinds to_text = Kind.text ∷ []

-- "`count` and `each` want kinds within list and null"
unfoldable pub list_kinds : List Kind
list_kinds = Kind.list ∷ Kind.null ∷ []

-- "`if` wants its first R within bool"
unfoldable pub if_kinds : List Kind
if_kinds = Kind.bool ∷ []

-- "at one form 9 before 10": refusal 9 at the form unless the shape's kinds are within these
unfoldable pub wants : {A : Type 0} → (at : ℕ) → List Kind → Shape → Outcome ℕ A → Outcome ℕ A
wants at ks s out = elim (within ks s) [ true ↦ out | false ↦ refused 9 at ]

-- ---- what each form gives

-- the shape of a listed member; refusal 10 at the form where the name isn't listed
unfoldable pub listed : (at : ℕ) → Bytes → Record → Outcome ℕ Shape
listed at n no_rec = refused 10 at
listed at n (rec_of fs) = elim (find n fs) [ none ↦ refused 10 at | some s ↦ ok s ]

-- request Q-2: "the member's shape gains null where the place has null"
unfoldable pub gain_null : Bool → Shape → Shape
gain_null true s = with_null s
gain_null false s = s

-- "`field` wants .. the name listed, and gives that member's shape", with null where the place has it
unfoldable pub field_shape : (at : ℕ) → Bytes → Shape → Outcome ℕ Shape
field_shape at n s = wants at field_kinds s (listed at n (record_of s) >>= λ t. ok (gain_null (has Kind.null s) t))

-- "and give it; `dec` .. gives both"
unfoldable pub convert_shape : Conversion → Shape
convert_shape to_int = only_numeric int_only
convert_shape to_dec = only_numeric int_and_dec
convert_shape to_bool = only_bool
convert_shape to_text = only_text

-- "(the element is nothing where list is absent)"
unfoldable pub element_shape : Element → Shape
element_shape no_list = nothing
element_shape (list_of s) = s

-- ---- what `when` binds

-- the kinds that K means: "(num: int and dec; int: int alone)"
unfoldable pub test_kinds : Test → List Kind
test_kinds Test.null = Kind.null ∷ []
test_kinds Test.bool = Kind.bool ∷ []
test_kinds Test.int = Kind.int ∷ []
test_kinds Test.num = Kind.int ∷ Kind.dec ∷ []
test_kinds Test.text = Kind.text ∷ []
test_kinds Test.list = Kind.list ∷ []
test_kinds Test.rec = Kind.rec ∷ []

-- where int stays, or dec
unfoldable pub stay_numeric : (int dec : Bool) → Numeric → Numeric
stay_numeric int dec no_number = no_number
stay_numeric true dec int_only = int_only
stay_numeric false dec int_only = no_number
stay_numeric true true int_and_dec = int_and_dec
stay_numeric true false int_and_dec = int_only
-- "except that taking out int leaves int and dec where dec is there"
stay_numeric false true int_and_dec = int_and_dec
stay_numeric false false int_and_dec = no_number

-- the element goes with list
unfoldable pub stay_element : Bool → Element → Element
stay_element true e = e
stay_element false e = no_list

-- the members go with rec
unfoldable pub stay_record : Bool → Record → Record
stay_record true r = r
stay_record false r = no_rec

-- the shape with the kinds that stay
unfoldable pub stay : (Kind → Bool) → Shape → Shape
stay kept (shape n b m t e r) =
    shape
    (kept Kind.null && n)
    (kept Kind.bool && b)
    (stay_numeric (kept Kind.int) (kept Kind.dec) m)
    (kept Kind.text && t)
    (stay_element (kept Kind.list) e)
    (stay_record (kept Kind.rec) r)

-- "P's shape cut to K"
unfoldable pub cut_to : Test → Shape → Shape
cut_to k s = stay (λ j. among j (test_kinds k)) s

-- "K's kinds taken out"
unfoldable pub taken_out : Test → Shape → Shape
taken_out k s = stay (λ j. not (among j (test_kinds k))) s

-- ---- checking, with the shapes of the bindings, innermost first

-- the shape of a place
unfoldable pub check_place : Place → List Shape → Outcome ℕ Shape
check_place (Place.it at n) env = ok (get_or env n nothing)
check_place (Place.field at n p) env = check_place p env >>= λ s. field_shape at n s

-- the shape of a result; "`keep` gives the place's shape", "Literals give their value's shape; `pack` gives rec"
unfoldable mutual
  pub check : Result → List Shape → Outcome ℕ Shape
  check (Result.convert at c p) env = check_place p env >>= λ s. wants at (convert_kinds c) s (ok (convert_shape c))
  check (Result.keep at p) env = check_place p env
  check (Result.count at p) env = check_place p env >>= λ s. wants at list_kinds s (ok (only_numeric int_only))
  check (Result.each at p r) env =
      check_place p env
      >>= λ s. check r (element_shape (element_of s) ∷ env) >>= λ t. wants at list_kinds s (ok (only_list (list_of t)))
  check (Result.when at k p r₁ r₂) env =
      check_place p env
      >>= λ s. check r₁ (cut_to k s ∷ env) >>= λ t₁. check r₂ (taken_out k s ∷ env) >>= λ t₂. ok (join t₁ t₂)
  check (Result.choose at r₁ r₂ r₃) env =
      check r₁ env >>= λ t₁. check r₂ env >>= λ t₂. check r₃ env >>= λ t₃. wants at if_kinds t₁ (ok (join t₂ t₃))
  check (Result.literal at v) env = ok (shape_of v)
  check (Result.pack at ps) env = check_pairs ps env >>= λ fs. ok (only_rec (rec_of fs))

  -- the members of a pack's shape, in byte order
  pub check_pairs : Pairs → List Shape → Outcome ℕ Fields
  check_pairs no_pairs env = ok no_fields
  check_pairs (pair n r ps) env = check r env >>= λ s. check_pairs ps env >>= λ fs. ok (insert n s fs)

-- the result shape of a reader, with the document bound to a shape
unfoldable pub check_reader : Result → Shape → Outcome ℕ Shape
check_reader r s = check r (s ∷ [])
