-- An element joined into the element of a shape: there, or made ready. Assumes nothing.
use Rattle.std.specs.Prelude.{ℕ, ◌+◌, ◌*◌, ◌≤◌, ◌≡◌, refl, List, [], ◌∷◌, ◌++◌, take, drop}
use Rattle.std.proofs.Common.{arith, sym, subst, ◌∙◌, length-append}
use Rattle.definitions.specs.Shape.{Shape, shape, Element, list_of, Record, element_of, record_of, forms, forms_element}
use Rattle.shapes.specs.Shapes.{head_word, ShapeRows, ElementRows, element_rows, RecordRows, Stands}
use Rattle.shapes.specs.ShapesLaws.{length_shape_rows, length_element_rows}
use Rattle.join.specs.Replacing.{Put, Puts, Over}
use Rattle.join.specs.ReplacingLaws.{Split, split_used, stands_split, split_stands, split_inner, split_outer, replaced_split}
use Rattle.std.specs.Prelude.{Option, Some, None}
use Rattle.growing.specs.Growing.{element_start, with_element}
use Rattle.growing.specs.GrowingForms.{forms_by, forms_with_element}
use Rattle.growing.specs.Rows.{Room}
use Rattle.growing.specs.StepLaws.{split_as, replaced_then}
use Rattle.growing.specs.HeadLaws.{Apart, apart, together, Risen}

element_with : (a s : Shape) → element_of (with_element a s) ≡ list_of a
unfolding element_of with_element
element_with a (shape n b m t e r) = refl

record_with : (a s : Shape) → record_of (with_element a s) ≡ record_of s
unfolding record_of with_element
record_with a (shape n b m t e r) = refl

module _
    {shapes p : List ℕ} {used row m : ℕ} {s : Shape} (stands : Stands shapes p row m s) (within : row + 2 * forms s ≤ used) (room : Room shapes used)
  where
    abbrev pub start : Shape
    start = element_start (element_of s)

    rows_apart : Apart p m s stands.rows
    rows_apart = apart stands.encoded

    whole
        : Split
        shapes
        used
        row
        (2 * forms s)
        (take row shapes)
        ((head_word s ∷ m ∷ []) ++ (rows_apart.es ++ rows_apart.rs))
        (drop (row + 2 * forms s) (take used shapes))
    whole =
        subst
        (λ (l : List ℕ). Split shapes used row (2 * forms s) (take row shapes) l (drop (row + 2 * forms s) (take used shapes)))
        rows_apart.same
        (stands_split stands within room.enough)

    inner
        : Split
        shapes
        used
        (row + 2)
        (2 * forms_element (element_of s))
        (take row shapes ++ (head_word s ∷ m ∷ []))
        rows_apart.es
        (rows_apart.rs ++ drop (row + 2 * forms s) (take used shapes))
    inner =
        split_as refl refl (length_element_rows rows_apart.element)
        (split_inner (head_word s ∷ m ∷ []) rows_apart.es rows_apart.rs whole)

    -- no room for an element
    pub list_unready
        : {shapes₁ : List ℕ} (reached : Shape) → forms start ≤ forms reached
        → Over shapes shapes₁ used (2 * forms_element (element_of s)) (2 * forms start)
        → Over shapes shapes₁ used (2 * forms s) (2 * forms (with_element reached s))
    list_unready reached grows o =
        record {
          over =
              omega (
                arith,
                o.over,
                forms_by s,
                forms_with_element reached s,
                grows,
              );
          same = o.same;
        }

    module _ {shapes₁ : List ℕ} {opened : ℕ} (q : Put shapes shapes₁ used opened (row + 2) (2 * forms_element (element_of s)) (ShapeRows p 0 start)) where
      first_split
          : Split
          shapes₁
          (used + opened)
          (row + 2)
          (2 * forms_element (element_of s) + opened)
          (take row shapes ++ (head_word s ∷ m ∷ []))
          q.rows
          (rows_apart.rs ++ drop (row + 2 * forms s) (take used shapes))
      first_split = replaced_split inner q.replaced

      start_counts : 2 * forms start ≡ 2 * forms_element (element_of s) + opened
      start_counts = sym (length_shape_rows q.encoded) ∙ q.replaced.grown

      pub list_stands : Stands shapes₁ p (row + 2) 0 start
      list_stands = split_stands first_split q.encoded

      pub list_within : row + 2 + 2 * forms start ≤ used + opened
      list_within = omega (arith, start_counts, split_used first_split)

      pub list_room : Room shapes₁ (used + opened)
      list_room =
          record {
            enough = first_split.fits;
            small = omega (arith, room.small, q.replaced.same);
          }

      pub list_over
          : {shapes₂ : List ℕ} (reached : Shape) → Over shapes₁ shapes₂ (used + opened) (2 * forms start) (2 * forms reached)
          → Over shapes shapes₂ used (2 * forms s) (2 * forms (with_element reached s))
      list_over reached o =
          record {
            over =
                omega (
                  arith,
                  o.over,
                  q.replaced.same,
                  start_counts,
                  forms_by s,
                  forms_with_element reached s,
                );
            same = o.same ∙ q.replaced.same;
          }

      pub list_risen
          : {shapes₂ : List ℕ} {words : ℕ} (reached : Shape)
          → Put shapes₁ shapes₂ (used + opened) words (row + 2) (2 * forms start) (ShapeRows p 0 reached)
          → Risen shapes shapes₂ p used row m s (with_element reached s) (opened + words)
      list_risen {shapes₂} {words} reached o =
          let r = replaced_then inner q.replaced start_counts o.replaced in
          let w = replaced_split inner r in
          let c : 2 * forms s + (opened + words) ≡ 2 * forms (with_element reached s)
          = omega (
            arith,
            forms_by s,
            forms_with_element reached s,
            length_shape_rows o.encoded,
            o.replaced.grown,
            start_counts,
          ) in
          record {
            front = take row shapes;
            middle = (head_word s ∷ m ∷ []) ++ (rows_apart.es ++ rows_apart.rs);
            rest = m ∷ o.rows ++ rows_apart.rs;
            behind = drop (row + 2 * forms s) (take used shapes);
            split₀ = whole;
            split =
                split_as refl refl
                (omega (
                  arith,
                  c,
                  whole.size,
                  length-append rows_apart.es rows_apart.rs,
                  length_element_rows rows_apart.element,
                ))
                (split_outer (head_word s ∷ m ∷ []) o.rows rows_apart.rs whole.at w);
            encoded =
                together (with_element reached s)
                (subst (λ (x : Element). ElementRows p x o.rows) (sym (element_with reached s)) (element_rows o.encoded))
                (subst (λ (x : Record). RecordRows p x rows_apart.rs) (sym (record_with reached s)) rows_apart.fields);
            counts = c;
            same = o.replaced.same ∙ q.replaced.same;
          }

-- the element that an answer says is ready
pub ready_put
    : (shapes shapes₁ p : List ℕ) (used row : ℕ) (s : Shape) (o : Option ℕ) {opened : ℕ}
    → Puts
    shapes
    shapes₁
    used
    (row + 2)
    (2 * forms_element (element_of s))
    (2 * forms (element_start (element_of s)))
    (ShapeRows p 0 (element_start (element_of s)))
    o
    → o ≡ Some opened
    → Put shapes shapes₁ used opened (row + 2) (2 * forms_element (element_of s)) (ShapeRows p 0 (element_start (element_of s)))
ready_put shapes shapes₁ p used row s o q e =
    subst
    (λ (x : Option ℕ).
    Puts
    shapes
    shapes₁
    used
    (row + 2)
    (2 * forms_element (element_of s))
    (2 * forms (element_start (element_of s)))
    (ShapeRows p 0 (element_start (element_of s)))
    x)
    e
    q

pub ready_full
    : (shapes shapes₁ p : List ℕ) (used row : ℕ) (s : Shape) (o : Option ℕ)
    → Puts
    shapes
    shapes₁
    used
    (row + 2)
    (2 * forms_element (element_of s))
    (2 * forms (element_start (element_of s)))
    (ShapeRows p 0 (element_start (element_of s)))
    o
    → o ≡ None → Over shapes shapes₁ used (2 * forms_element (element_of s)) (2 * forms (element_start (element_of s)))
ready_full shapes shapes₁ p used row s o q e =
    subst
    (λ (x : Option ℕ).
    Puts
    shapes
    shapes₁
    used
    (row + 2)
    (2 * forms_element (element_of s))
    (2 * forms (element_start (element_of s)))
    (ShapeRows p 0 (element_start (element_of s)))
    x)
    e
    q
