-- The text of a shape in a table of at most 65,536 words is shorter than 2 ^ 64 bytes. Assumes nothing.
use Prim.Native.Nat.{ℕ, suc, ◌+◌, ◌*◌, ◌^◌, ◌≤◌, ◌<◌}
use native.Mathlib.Omega.{arith}
use mathlib.Core.Path.{◌≡◌, refl, ap}
use mathlib.Core.Bool.{Bool, true, false}
use mathlib.Core.List.{List, [], ◌∷◌, ◌++◌}
use lib.ListN.{length, length-append}
use Rattle.definitions.specs.Bytes.{Bytes, bytes}
use Rattle.definitions.specs.Shape.{all_kinds, Shape, shape, Element, no_list, list_of, Record, no_rec, rec_of}
use Rattle.definitions.specs.Shape.{Fields, no_fields, field, forms, forms_element, forms_record, forms_fields}
use Rattle.definitions.specs.Plain.{plain_text}
use Rattle.definitions.specs.ShapeText.{write, write_element, write_record, write_fields, write_kinds, new_line}
use Rattle.laws.proofs.StringWritten.{plain_most}
use Rattle.pool.specs.Pool.{words}
use Rattle.nodes.specs.Nodes.{Refers, refers}
use Rattle.shapes.specs.Shapes.{kind_bits, has_bit, ShapeRows, shape_rows, ElementRows, no_element_rows, element_rows}
use Rattle.shapes.specs.Shapes.{RecordRows, no_record_rows, record_rows, FieldRows, no_field_rows, field_rows}
use Rattle.shape_writer.specs.Layout.{word_of, head_text, label_text}
use Rattle.shape_writer.specs.Writing.{Deliverable, Printable}
use Rattle.shape_writer.proofs.Lines.{length_new_line}
use Rattle.shape_writer.proofs.Names.{length_label}
use Rattle.shape_writer.proofs.Heads.{length_head, head_of_kinds}
use Rattle.shape_writer.proofs.Forms.{holds_within}

-- ---- names

name_bound : {p : List ℕ} {n : Bytes} {k : ℕ} → Refers p n k → length p < 65536 → length (plain_text n) ≤ 3145682
unfolding words
name_bound {n = n} (refers w h e) l = omega (arith, plain_most n, h, l)

-- ---- heads

word_bound : (b : Bool) (w : Bytes) → length (word_of b w) ≤ length w
unfolding word_of
word_bound true w = omega arith
word_bound false w = omega arith

head_bound : (kinds : ℕ) → length (head_text kinds) ≤ 38
unfolding bytes
head_bound kinds =
    omega (
      arith,
      length_head kinds,
      word_bound (has_bit kinds 1) (bytes " null"),
      word_bound (has_bit kinds 2) (bytes " bool"),
      word_bound (has_bit kinds 4) (bytes " int"),
      word_bound (has_bit kinds 8) (bytes " dec"),
      word_bound (has_bit kinds 16) (bytes " text"),
      word_bound (has_bit kinds 32) (bytes " list"),
      word_bound (has_bit kinds 64) (bytes " rec"),
    )

-- ---- forms: each has at most 39 bytes of its own and 3,276,766 before and behind it

length_form
    : (s : Shape) (around : ℕ) (e : Element) (r : Record)
    → write s around
    ≡ bytes "(shape" ++ write_kinds s all_kinds ++ write_element e (suc around) ++ write_record r (suc around) ++ bytes ")"
    → length (write s around)
    ≡ length (head_text (kind_bits s)) + length (write_element e (suc around)) + length (write_record r (suc around)) + 1
unfolding bytes
length_form s around e r f =
    omega (
      arith,
      ap length f,
      ap length (head_of_kinds s),
      length-append
          (bytes "(shape" ++ write_kinds s all_kinds ++ write_element e (suc around) ++ write_record r (suc around))
          (bytes ")"),
      length-append (bytes "(shape" ++ write_kinds s all_kinds ++ write_element e (suc around)) (write_record r (suc around)),
      length-append (bytes "(shape" ++ write_kinds s all_kinds) (write_element e (suc around)),
    )

length_field
    : (n : Bytes) (s : Shape) (fs : Fields) (around : ℕ)
    → length (write_fields (field n s fs) around)
    ≡ length (label_text n around) + length (write s (suc around)) + 1 + length (write_fields fs around)
unfolding write label_text bytes
length_field n s fs around =
    omega (
      arith,
      length-append (label_text n around ++ write s (suc around) ++ (41 ∷ [])) (write_fields fs around),
      length-append (label_text n around ++ write s (suc around)) (41 ∷ []),
      length-append (label_text n around) (write s (suc around)),
    )

mutual
  unfolding write forms

  form_bound
      : (s : Shape) {p : List ℕ} {m : ℕ} {rows : List ℕ} → ShapeRows p m s rows → length p < 65536 → (around : ℕ)
      → around + 2 * forms s ≤ 65536
      → length (write s around) + 3276766 ≤ 3276805 * forms s
  form_bound (shape n b k x e r) (shape_rows is js) l around h =
      omega (
        arith,
        length_form (shape n b k x e r) around e r refl,
        head_bound (kind_bits (shape n b k x e r)),
        element_bound e is l (suc around) (omega arith),
        record_bound r js l (suc around) (omega arith),
      )

  element_bound
      : (e : Element) {p rows : List ℕ} → ElementRows p e rows → length p < 65536 → (around : ℕ)
      → around + 2 * forms_element e ≤ 65536
      → length (write_element e around) ≤ 3276805 * forms_element e
  element_bound no_list no_element_rows l around h = omega arith
  element_bound (list_of s) (element_rows is) l around h =
      omega (
        arith,
        length-append (new_line around) (write s around),
        length_new_line around,
        form_bound s is l around h,
      )

  record_bound
      : (r : Record) {p rows : List ℕ} → RecordRows p r rows → length p < 65536 → (around : ℕ)
      → 1 + around + 2 * forms_record r ≤ 65536
      → length (write_record r around) ≤ 3276805 * forms_record r
  record_bound no_rec no_record_rows l around h = omega arith
  record_bound (rec_of fs) (record_rows js) l around h = fields_bound fs js l around h

  fields_bound
      : (fs : Fields) {p rows : List ℕ} → FieldRows p fs rows → length p < 65536 → (around : ℕ)
      → 1 + around + 2 * forms_fields fs ≤ 65536
      → length (write_fields fs around) ≤ 3276805 * forms_fields fs
  fields_bound no_fields no_field_rows l around h = omega arith
  fields_bound (field n s fs) (field_rows f is js) l around h =
      omega (
        arith,
        length_field n s fs around,
        length_label n around,
        name_bound f l,
        form_bound s is l (suc around) (omega (arith, h)),
        fields_bound fs js l around (omega (arith, h)),
      )

pub text_bound : {shapes pool : List ℕ} (d : Deliverable shapes pool) → length (write d.shape 0) + 2 < 2 ^ 64
text_bound {shapes} d =
    let w = holds_within d.holds in
    omega (
      arith,
      d.small,
      form_bound d.shape d.holds.stands.encoded d.holds.small 0 (omega (arith, d.small, w)),
      w,
    )

pub printable
    : {shapes pool : List ℕ} (d : Deliverable shapes pool) {below : ℕ} → length (write d.shape 0) < below → Printable shapes pool 0 0 0 below
printable d l = record { shape = d.shape; holds = d.holds; room = omega (arith, l); deep = omega arith }
