-- Members joined into the members of a shape, and null for those that are lacked: the shape's rows. Assumes nothing.
use Rattle.std.specs.Prelude.{ℕ, ◌+◌, ◌*◌, ◌%◌, ◌^◌, ◌≤◌, ◌<◌, ◌≡◌, Bool, length, get_or}
use native.Mathlib.Omega.{arith}
use Rattle.std.proofs.Math.Path.{refl, ap, subst}
use Rattle.std.proofs.Common.{sym, ◌∙◌}
use mathlib.Core.List.{List, [], ◌∷◌, ◌++◌, append-nil}
use Rattle.std.proofs.Math.ListN.{take, drop}
use Rattle.definitions.specs.Shape.{Kind, Shape, shape, Element, Record, rec_of, Fields, has, has_rec}
use Rattle.definitions.specs.Shape.{element_of, record_of, forms, forms_element, forms_fields}
use Rattle.plain.specs.Table.{Used}
use Rattle.shapes.specs.Shapes.{kind_bit, has_bit, head_word, size_at, members_at, ElementRows}
use Rattle.shapes.specs.Shapes.{RecordRows, no_record_rows, record_rows, FieldRows, no_field_rows, Stands, FieldsStand}
use Rattle.shapes.specs.ShapesLaws.{has_kind, stands_kinds, stands_size, stands_row, members_at_is, length_field_rows, length_element_rows}
use Rattle.join.specs.Replacing.{Put, Over}
use Rattle.join.specs.ReplacingLaws.{Split, stands_split, split_inner, split_outer, split_fields, replaced_split}
use Rattle.growing.specs.Growing.{fields_start, with_fields}
use Rattle.growing.specs.GrowingForms.{forms_by, forms_with_fields, forms_fields_start}
use Rattle.growing.specs.Rows.{Room, MeetsFields}
use Rattle.growing.specs.StepLaws.{split_as, replaced_then}
use Rattle.growing.specs.HeadLaws.{Apart, apart, together, Risen}

element_with : (fs : Fields) (s : Shape) → element_of (with_fields fs s) ≡ element_of s
unfolding element_of with_fields
element_with fs (shape n b m t e r) = refl

record_with : (fs : Fields) (s : Shape) → record_of (with_fields fs s) ≡ rec_of fs
unfolding record_of with_fields
record_with fs (shape n b m t e r) = refl

start_rows : {p rs : List ℕ} {r : Record} → RecordRows p r rs → FieldRows p (fields_start r) rs
unfolding fields_start
start_rows no_record_rows = no_field_rows
start_rows (record_rows q) = q

has_record : (s : Shape) → has Kind.rec s ≡ has_rec (record_of s)
unfolding has record_of
has_record (shape n b m t e r) = refl

pub had_told
    : {t p : List ℕ} {row m kinds : ℕ} {had : Bool} {s : Shape} → Stands t p row m s → kinds ≡ get_or t row 0 % 128 → had ≡ has_bit kinds 64
    → had ≡ has_rec (record_of s)
unfolding kind_bit
had_told {s = s} h e f =
    f ∙ ap (λ (x : ℕ). has_bit x 64) (e ∙ stands_kinds h) ∙ has_kind Kind.rec s ∙ has_record s

members_first : {t p : List ℕ} {row m : ℕ} (s : Shape) → Stands t p row m s → members_at t row ≡ row + 2 + 2 * forms_element (element_of s)
unfolding element_of
members_first (shape n b k x e r) h = members_at_is h

-- where the members begin is within the table
pub record_first
    : {shapes p : List ℕ} {used row m : ℕ} {s : Shape} → Stands shapes p row m s → row + 2 * forms s ≤ used → Room shapes used
    → (row + 2 ≤ length shapes) × (members_at shapes row < 2 ^ 64)
record_first {s = s} stands within room = (
  stands_row stands,
  omega (arith, members_first s stands, forms_by s, within, room.enough, room.small),
)

module _
    {shapes pool p : List ℕ} {used row m : ℕ} {s : Shape} {had : Bool} {first last : ℕ}
    (pooled : Used pool p)
    (stands : Stands shapes p row m s)
    (within : row + 2 * forms s ≤ used)
    (room : Room shapes used)
    (had_is : had ≡ has_rec (record_of s))
    (first_is : first ≡ members_at shapes row)
    (last_is : last ≡ row + size_at shapes row)
  where
    abbrev pub olds : Fields
    olds = fields_start (record_of s)

    rows_apart : Apart p m s stands.rows
    rows_apart = apart stands.encoded

    -- the row's own words and the element's
    before : List ℕ
    before = head_word s ∷ m ∷ rows_apart.es

    whole
        : Split
        shapes
        used
        row
        (2 * forms s)
        (take row shapes)
        (before ++ (rows_apart.rs ++ []))
        (drop (row + 2 * forms s) (take used shapes))
    unfolding before
    whole =
        subst
        (λ (l : List ℕ). Split shapes used row (2 * forms s) (take row shapes) l (drop (row + 2 * forms s) (take used shapes)))
        (rows_apart.same ∙ ap (λ (l : List ℕ). before ++ l) (sym (append-nil rows_apart.rs)))
        (stands_split stands within room.enough)

    old_rows : FieldRows p olds rows_apart.rs
    old_rows = start_rows rows_apart.fields

    before_length : length before ≡ 2 + 2 * forms_element (element_of s)
    unfolding before
    before_length = omega (arith, length_element_rows rows_apart.element)

    first_at : row + length before ≡ first
    first_at = omega (arith, before_length, first_is, members_first s stands)

    last_at : last ≡ row + 2 * forms s
    last_at = omega (arith, last_is, stands_size stands)

    inner
        : Split
        shapes
        used
        first
        (2 * forms_fields olds)
        (take row shapes ++ before)
        rows_apart.rs
        ([] ++ drop (row + 2 * forms s) (take used shapes))
    inner = split_as refl first_at (length_field_rows old_rows) (split_inner before rows_apart.rs [] whole)

    fields_last : first + 2 * forms_fields olds ≡ last
    fields_last = omega (arith, first_at, before_length, last_at, forms_by s, forms_fields_start (record_of s))

    pub record_meets : MeetsFields shapes pool used first last p olds
    record_meets =
        record {
          pooled = pooled;
          stand = subst (λ (x : ℕ). FieldsStand shapes p first x olds) fields_last (split_fields inner old_rows);
          begins = omega (arith, fields_last);
          within = omega (arith, last_at, within);
        }

    pub record_over
        : {shapes₁ : List ℕ} (joined reached : Fields) → forms_fields reached ≡ forms_fields joined
        → Over shapes shapes₁ used (2 * forms_fields olds) (2 * forms_fields joined)
        → Over shapes shapes₁ used (2 * forms s) (2 * forms (with_fields reached s))
    record_over joined reached e o =
        record {
          over =
              omega (
                arith,
                o.over,
                forms_by s,
                forms_fields_start (record_of s),
                forms_with_fields reached s,
                e,
              );
          same = o.same;
        }

    module _ {shapes₁ : List ℕ} {words : ℕ} (joined : Fields) (q : Put shapes shapes₁ used words first (2 * forms_fields olds) (FieldRows p joined)) where
      first_split
          : Split
          shapes₁
          (used + words)
          first
          (2 * forms_fields olds + words)
          (take row shapes ++ before)
          q.rows
          ([] ++ drop (row + 2 * forms s) (take used shapes))
      first_split = replaced_split inner q.replaced

      counts : 2 * forms_fields joined ≡ 2 * forms_fields olds + words
      counts = sym (length_field_rows q.encoded) ∙ q.replaced.grown

      pub nulls_meet : MeetsFields shapes₁ pool (used + words) first (last + words) p joined
      nulls_meet =
          record {
            pooled = pooled;
            stand =
                subst
                (λ (x : ℕ). FieldsStand shapes₁ p first x joined)
                (let e : first + (2 * forms_fields olds + words) ≡ last + words = omega (arith, fields_last) in e)
                (split_fields first_split q.encoded);
            begins = omega (arith, fields_last);
            within = omega (arith, last_at, within);
          }

      pub nulls_room : Room shapes₁ (used + words)
      nulls_room = record { enough = first_split.fits; small = omega (arith, room.small, q.replaced.same) }

      pub record_risen
          : {shapes₂ : List ℕ} (reached : Fields) → forms_fields reached ≡ forms_fields joined
          → Put shapes₁ shapes₂ (used + words) 0 first (2 * forms_fields joined) (FieldRows p reached)
          → Risen shapes shapes₂ p used row m s (with_fields reached s) words
      unfolding before
      record_risen {shapes₂} reached same_forms o =
          let r = replaced_then inner q.replaced counts o.replaced in
          let w =
          split_as
          (let e : used + (words + 0) ≡ used + words = omega arith in e)
          (sym first_at)
          (let e : 2 * forms_fields olds + (words + 0) ≡ 2 * forms_fields olds + words = omega arith in e)
          (replaced_split inner r) in
          let c : 2 * forms s + words ≡ 2 * forms (with_fields reached s)
          = omega (
            arith,
            forms_by s,
            forms_fields_start (record_of s),
            forms_with_fields reached s,
            same_forms,
            counts,
          ) in
          record {
            front = take row shapes;
            middle = before ++ (rows_apart.rs ++ []);
            rest = m ∷ rows_apart.es ++ o.rows;
            behind = drop (row + 2 * forms s) (take used shapes);
            split₀ = whole;
            split =
                subst
                (λ (l : List ℕ).
                Split
                shapes₂
                (used + words)
                row
                (2 * forms (with_fields reached s))
                (take row shapes)
                (before ++ l)
                (drop (row + 2 * forms s) (take used shapes)))
                (append-nil o.rows)
                (split_as refl refl
                (omega (
                  arith,
                  c,
                  before_length,
                  forms_by s,
                  forms_fields_start (record_of s),
                ))
                (split_outer before o.rows [] whole.at w));
            encoded =
                together (with_fields reached s)
                (subst (λ (x : Element). ElementRows p x rows_apart.es) (sym (element_with reached s)) rows_apart.element)
                (subst (λ (x : Record). RecordRows p x o.rows) (sym (record_with reached s)) (record_rows o.encoded));
            counts = c;
            same = o.replaced.same ∙ q.replaced.same;
          }
