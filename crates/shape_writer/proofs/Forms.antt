-- A form as what the writer writes: its head, its element, its members and a bracket. Assumes nothing.
use Prim.Native.Nat.{ℕ, suc, ◌+◌, ◌*◌, ◌%◌, ◌≤◌}
use native.Mathlib.Numerals.{add-one}
use native.Mathlib.Omega.{arith}
use mathlib.Core.Path.{◌≡◌, refl, sym, ap, subst, ◌∙◌}
use mathlib.Core.Bool.{Bool, true, false, true≢false}
use mathlib.Core.List.{List, [], ◌∷◌, ◌++◌, append_assoc}
use lib.ListN.{length, get_or, drop, length-append}
use Rattle.definitions.specs.Bytes.{Bytes, bytes}
use Rattle.definitions.specs.Shape.{Kind, all_kinds, Numeric, Shape, shape, Element, no_list, list_of, Record}
use Rattle.definitions.specs.Shape.{no_rec, rec_of, Fields, no_fields, field, has, has_list, forms, forms_element}
use Rattle.definitions.specs.ShapeText.{write, write_element, write_record, write_fields, write_kinds, new_line}
use Rattle.shapes.specs.Shapes.{kind_bit, kind_bits, has_bit, Stands, FieldsStand, no_field_rows, size_at}
use Rattle.shapes.specs.ShapesLaws.{forms_some, stands_size, stands_within, stands_element, stands_members, members_at_is}
use Rattle.shape_writer.specs.Layout.{head_text}
use Rattle.shapes.specs.Held.{HoldsShape, HoldsFields}
use Rattle.shapes.specs.HeldLaws.{held_kinds, held_has, held_element}
use Rattle.shape_writer.proofs.Heads.{head_of_kinds}

-- ---- members

-- the members, none where rec is absent
unfoldable pub fields_of : Record → Fields
fields_of no_rec = no_fields
fields_of (rec_of fs) = fs

write_fields_of : (r : Record) (around : ℕ) → write_fields (fields_of r) around ≡ write_record r around
unfolding write fields_of
write_fields_of no_rec around = refl
write_fields_of (rec_of fs) around = refl

fields_from
    : {shapes p : List ℕ} {row row' end : ℕ} {fs : Fields} → FieldsStand shapes p row end fs → row ≡ row'
    → FieldsStand shapes p row' end fs
fields_from {shapes} {p} {end = end} {fs = fs} h e = subst (λ (i : ℕ). FieldsStand shapes p i end fs) e h

fields_behind
    : {shapes p : List ℕ} {row m : ℕ} {n b x : Bool} {k : Numeric} {e : Element} (r : Record)
    → Stands shapes p row m (shape n b k x e r)
    → FieldsStand shapes p (row + 2 + 2 * forms_element e) (row + size_at shapes row) (fields_of r)
unfolding fields_of forms
fields_behind {shapes} {row = row} {e = e} no_rec h =
    record {
      rows = [];
      rest = drop (row + 2 + 2 * forms_element e) shapes;
      encoded = no_field_rows;
      placed = refl;
      reaches = omega (arith, stands_size h);
    }
fields_behind (rec_of fs) h = fields_from (stands_members h) (members_at_is h)

-- ---- forms

pub holds_size : {shapes pool : List ℕ} {row : ℕ} {s : Shape} → HoldsShape shapes pool row s → size_at shapes row ≡ 2 * forms s
holds_size h = stands_size h.stands

pub holds_within : {shapes pool : List ℕ} {row : ℕ} {s : Shape} → HoldsShape shapes pool row s → row + 2 * forms s ≤ length shapes
holds_within h = stands_within h.stands

regroup_listed : (h l w f c : Bytes) → h ++ l ++ w ++ (f ++ c) ≡ h ++ (l ++ w) ++ f ++ c
regroup_listed h l w f c = simp append_assoc

regroup_unlisted : (h f c : Bytes) → h ++ (f ++ c) ≡ h ++ [] ++ f ++ c
regroup_unlisted h f c = sym (append_assoc h f c) ∙ ap (λ (t : Bytes). t ++ f ++ c) (sym (nil h))
  where
    nil : (h : Bytes) → h ++ [] ≡ h
    nil [] = refl
    nil (x ∷ h) = ap (λ (t : Bytes). x ∷ t) (nil h)

-- a shape with list: its element, its members and its form
pub record Listed (shapes pool : List ℕ) (row around : ℕ) (s : Shape) : Type 0 where
  pub element : Shape
  pub fields : Fields
  pub holds : HoldsShape shapes pool (row + 2) element
  pub members : HoldsFields shapes pool (row + 2 + size_at shapes (row + 2)) (row + size_at shapes row) fields
  pub text
      : head_text (kind_bits s) ++ new_line (around + 1) ++ write element (around + 1) ++ (write_fields fields (around + 1) ++ bytes ")")
      ≡ write s around

-- a shape without list
pub record Unlisted (shapes pool : List ℕ) (row around : ℕ) (s : Shape) : Type 0 where
  pub fields : Fields
  pub members : HoldsFields shapes pool (row + 2) (row + size_at shapes row) fields
  pub text : head_text (kind_bits s) ++ (write_fields fields (around + 1) ++ bytes ")") ≡ write s around

listed_text
    : (n b x : Bool) (k : Numeric) (a : Shape) (r : Record) (around next : ℕ) → next ≡ suc around
    → head_text (kind_bits (shape n b k x (list_of a) r))
    ++ new_line next
    ++ write a next
    ++ (write_fields (fields_of r) next ++ bytes ")")
    ≡ write (shape n b k x (list_of a) r) around
unfolding write
listed_text n b x k a r around next e =
    ap
    (λ (t : Bytes). t ++ new_line next ++ write a next ++ (write_fields (fields_of r) next ++ bytes ")"))
    (head_of_kinds (shape n b k x (list_of a) r))
    ∙ regroup_listed
    (bytes "(shape" ++ write_kinds (shape n b k x (list_of a) r) all_kinds)
    (new_line next)
    (write a next)
    (write_fields (fields_of r) next)
    (bytes ")")
    ∙ ap
    (λ (i : ℕ).
    bytes "(shape"
    ++ write_kinds (shape n b k x (list_of a) r) all_kinds
    ++ (new_line i ++ write a i)
    ++ write_fields (fields_of r) i
    ++ bytes ")")
    e
    ∙ ap
    (λ (t : Bytes).
    bytes "(shape"
    ++ write_kinds (shape n b k x (list_of a) r) all_kinds
    ++ (new_line (suc around) ++ write a (suc around))
    ++ t
    ++ bytes ")")
    (write_fields_of r (suc around))

unlisted_text
    : (n b x : Bool) (k : Numeric) (r : Record) (around next : ℕ) → next ≡ suc around
    → head_text (kind_bits (shape n b k x no_list r)) ++ (write_fields (fields_of r) next ++ bytes ")")
    ≡ write (shape n b k x no_list r) around
unfolding write
unlisted_text n b x k r around next e =
    ap (λ (t : Bytes). t ++ (write_fields (fields_of r) next ++ bytes ")")) (head_of_kinds (shape n b k x no_list r))
    ∙ regroup_unlisted
    (bytes "(shape" ++ write_kinds (shape n b k x no_list r) all_kinds)
    (write_fields (fields_of r) next)
    (bytes ")")
    ∙ ap
    (λ (t : Bytes). bytes "(shape" ++ write_kinds (shape n b k x no_list r) all_kinds ++ [] ++ t ++ bytes ")")
    (ap (write_fields (fields_of r)) e ∙ write_fields_of r (suc around))

module _ {shapes pool : List ℕ} {row : ℕ} (around : ℕ) where
  pub listed : {s : Shape} → HoldsShape shapes pool row s → has_bit (get_or shapes row 0 % 128) 32 ≡ true → Listed shapes pool row around s
  unfolding kind_bit has has_list forms
  listed {s = shape n b k x no_list r} h e = absurd (true≢false (sym e ∙ held_has Kind.list h))
  listed {s = shape n b k x (list_of a) r} h e =
      record {
        element = a;
        fields = fields_of r;
        holds = held_element h;
        members = record {
          used = h.used;
          listed = record {
            stand = fields_from (fields_behind r h.stands)
                (ap (λ (i : ℕ). row + 2 + i) (sym (stands_size (stands_element h.stands))));
            front = h.front;
            small = h.small;
          };
        };
        text = listed_text n b x k a r around (around + 1) (add-one around);
      }

  pub unlisted : {s : Shape} → HoldsShape shapes pool row s → has_bit (get_or shapes row 0 % 128) 32 ≡ false → Unlisted shapes pool row around s
  unfolding kind_bit has has_list forms
  unlisted {s = shape n b k x (list_of a) r} h e = absurd (true≢false (sym (held_has Kind.list h) ∙ e))
  unlisted {s = shape n b k x no_list r} h e =
      record {
        fields = fields_of r;
        members = record {
          used = h.used;
          listed = record {
            stand = fields_from (fields_behind r h.stands) (omega arith);
            front = h.front;
            small = h.small;
          };
        };
        text = unlisted_text n b x k r around (around + 1) (add-one around);
      }

-- a shape that takes one row holds no other shape
pub leaf_text
    : {shapes pool : List ℕ} {row : ℕ} (around : ℕ) {s : Shape} → HoldsShape shapes pool row s → size_at shapes row ≡ 2
    → head_text (get_or shapes row 0 % 128) ++ bytes ")" ≡ write s around
unfolding write forms fields_of
leaf_text around {s = shape n b k x (list_of a) r} h e = absurd (let z : ⊥ = omega (arith, holds_size h, e, forms_some a) in z)
leaf_text around {s = shape n b k x no_list (rec_of (field m a fs))} h e =
    absurd (let z : ⊥ = omega (arith, holds_size h, e, forms_some a) in z)
leaf_text around {s = shape n b k x no_list (rec_of no_fields)} h e =
    ap (λ (i : ℕ). head_text i ++ bytes ")") (held_kinds h) ∙ unlisted_text n b x k (rec_of no_fields) around (suc around) refl
leaf_text around {s = shape n b k x no_list no_rec} h e =
    ap (λ (i : ℕ). head_text i ++ bytes ")") (held_kinds h) ∙ unlisted_text n b x k no_rec around (suc around) refl

-- ---- lengths

module _ {shapes pool : List ℕ} {row around : ℕ} {s : Shape} where
  pub length_listed
      : (l : Listed shapes pool row around s)
      → length (write s around)
      ≡ length (head_text (kind_bits s))
      + length (new_line (around + 1))
      + length (write l.element (around + 1))
      + length (write_fields l.fields (around + 1) ++ bytes ")")
  length_listed l =
      ap length (sym l.text)
      ∙ length-append
      (head_text (kind_bits s) ++ new_line (around + 1) ++ write l.element (around + 1))
      (write_fields l.fields (around + 1) ++ bytes ")")
      ∙ ap
      (λ (n : ℕ). n + length (write_fields l.fields (around + 1) ++ bytes ")"))
      (length-append (head_text (kind_bits s) ++ new_line (around + 1)) (write l.element (around + 1))
      ∙ ap (λ (n : ℕ). n + length (write l.element (around + 1))) (length-append (head_text (kind_bits s)) (new_line (around + 1))))

  pub length_unlisted
      : (l : Unlisted shapes pool row around s)
      → length (write s around) ≡ length (head_text (kind_bits s)) + length (write_fields l.fields (around + 1) ++ bytes ")")
  length_unlisted l =
      ap length (sym l.text) ∙ length-append (head_text (kind_bits s)) (write_fields l.fields (around + 1) ++ bytes ")")

-- a form is at least as long as its head
pub head_short : (s : Shape) (around : ℕ) → length (head_text (kind_bits s)) ≤ length (write s around)
unfolding write
head_short (shape n b k x e r) around =
    omega (
      arith,
      ap length (head_of_kinds (shape n b k x e r)),
      length-append
          (bytes "(shape" ++ write_kinds (shape n b k x e r) all_kinds ++ write_element e (suc around) ++ write_record r (suc around))
          (bytes ")"),
      length-append
          (bytes "(shape" ++ write_kinds (shape n b k x e r) all_kinds ++ write_element e (suc around))
          (write_record r (suc around)),
      length-append (bytes "(shape" ++ write_kinds (shape n b k x e r) all_kinds) (write_element e (suc around)),
    )
