-- How deep a shape is nested, by the shapes that it holds: its element and those of its members. Assumes nothing.
use Prim.Native.Nat.{ℕ, suc, ◌+◌, ◌-◌, ◌/◌, ◌≤◌, ◌<◌, max}
use native.Mathlib.Omega.{arith}
use mathlib.Core.Path.{◌≡◌, refl, sym, ap, subst, ◌∙◌}
use mathlib.Core.Bool.{Bool, true, false}
use mathlib.Core.List.{List, [], ◌∷◌, ◌++◌, append_assoc}
use borrow.Author.Tests.{ltb-true, ltb-false, lt-ltb, le-ltb}
use lib.ListN.{length, drop, length-append}
use lib.Seq.{drop-drop, drop_at}
use Rattle.definitions.specs.Shape.{Shape, shape, Element, no_list, list_of, Record, no_rec, rec_of, Fields, no_fields, field}
use Rattle.definitions.specs.Shape.{levels, levels_element, levels_record, levels_fields, forms, forms_element, forms_record, forms_fields}
use Rattle.shapes.specs.Shapes.{ShapeRows, shape_rows, no_element_rows, element_rows, RecordRows, no_record_rows}
use Rattle.shapes.specs.Shapes.{record_rows, FieldRows, no_field_rows, field_rows, Stands, size_at}
use Rattle.shapes.specs.ShapesLaws.{forms_some, length_shape_rows, stands_size, stands_within}
use Rattle.shape_writer.specs.Writing.{Standing, TellsDeeper}

-- ---- the shapes that a shape holds

unfoldable shapes_of : Fields → List Shape
shapes_of no_fields = []
shapes_of (field n s fs) = s ∷ shapes_of fs

unfoldable shapes_in : Record → List Shape
shapes_in no_rec = []
shapes_in (rec_of fs) = shapes_of fs

unfoldable inside : Shape → List Shape
inside (shape n b k x no_list r) = shapes_in r
inside (shape n b k x (list_of a) r) = a ∷ shapes_in r

unfoldable pub depth : List Shape → ℕ
depth [] = 0
depth (s ∷ ss) = max (levels s) (depth ss)

depth_of : (fs : Fields) → depth (shapes_of fs) ≡ levels_fields fs
unfolding depth shapes_of levels
depth_of no_fields = refl
depth_of (field n s fs) = ap (max (levels s)) (depth_of fs)

levels_inside : (s : Shape) → levels s ≡ suc (depth (inside s))
unfolding depth inside shapes_in levels
levels_inside (shape n b k x no_list no_rec) = refl
levels_inside (shape n b k x no_list (rec_of fs)) = omega (arith, depth_of fs)
levels_inside (shape n b k x (list_of a) no_rec) = refl
levels_inside (shape n b k x (list_of a) (rec_of fs)) = omega (arith, depth_of fs)

-- ---- their rows

pub data InsideRows (p : List ℕ) : List Shape → List ℕ → Type 0 where
  no_inside_rows : InsideRows p [] []
  inside_rows
      : {m : ℕ} {s : Shape} {ss : List Shape} {rs qs : List ℕ} → ShapeRows p m s rs → InsideRows p ss qs
      → InsideRows p (s ∷ ss) (rs ++ qs)

rows_of : (fs : Fields) {p rs : List ℕ} → FieldRows p fs rs → InsideRows p (shapes_of fs) rs
unfolding shapes_of
rows_of no_fields no_field_rows = no_inside_rows
rows_of (field n s fs) (field_rows f rs qs) = inside_rows rs (rows_of fs qs)

rows_in : {r : Record} {p rs : List ℕ} → RecordRows p r rs → InsideRows p (shapes_in r) rs
unfolding shapes_in
rows_in no_record_rows = no_inside_rows
rows_in (record_rows {fs = fs} rs) = rows_of fs rs

-- they stand from a row up to an end
pub record InsideStand (shapes p : List ℕ) (i end : ℕ) (ss : List Shape) : Type 0 where
  pub rows : List ℕ
  pub rest : List ℕ
  pub encoded : InsideRows p ss rows
  pub placed : drop i shapes ≡ rows ++ rest
  pub reaches : i + length rows ≡ end

inside_placed
    : (shapes : List ℕ) (row : ℕ) {p : List ℕ} {m : ℕ} {s : Shape} {rows : List ℕ} (rest : List ℕ) → ShapeRows p m s rows
    → drop row shapes ≡ rows ++ rest
    → InsideStand shapes p (row + 2) (row + length rows) (inside s)
unfolding inside
inside_placed shapes row rest (shape_rows {e = no_list} {rs = rs} no_element_rows js) e =
    record {
      rows = rs;
      rest = rest;
      encoded = rows_in js;
      placed = sym (drop-drop 2 row shapes) ∙ ap (drop 2) e;
      reaches = omega arith;
    }
inside_placed shapes row rest (shape_rows {e = list_of a} {rs = rs} (element_rows {rs = es} is) js) e =
    record {
      rows = es ++ rs;
      rest = rest;
      encoded = inside_rows is (rows_in js);
      placed = sym (drop-drop 2 row shapes) ∙ ap (drop 2) e;
      reaches = omega arith;
    }

-- ---- the first of them

pub record Innermost (shapes p : List ℕ) (i end : ℕ) (ss : List Shape) : Type 0 where
  pub name : ℕ
  pub shape : Shape
  pub rest : List Shape
  pub same : ss ≡ shape ∷ rest
  pub stands : Stands shapes p i name shape
  pub more : InsideStand shapes p (i + size_at shapes i) end rest

next : {shapes p : List ℕ} {i end : ℕ} {ss : List Shape} → InsideStand shapes p i end ss → i < end → Innermost shapes p i end ss
next {shapes} {p} {i} {end} h l = go h.encoded h.placed h.reaches
  where
    go
        : {ts : List Shape} {rows : List ℕ} → InsideRows p ts rows → drop i shapes ≡ rows ++ h.rest → i + length rows ≡ end
        → Innermost shapes p i end ts
    go no_inside_rows e r = absurd (let z : ⊥ = omega arith in z)
    go (inside_rows {m = m} {s = s} {ss = ss} {rs = rs} {qs = qs} is js) e r =
        let f : Stands shapes p i m s
        = record { rows = rs; rest = qs ++ h.rest; encoded = is; placed = e ∙ append_assoc rs qs h.rest }
        in
        record {
          name = m;
          shape = s;
          rest = ss;
          same = refl;
          stands = f;
          more = record {
            rows = qs;
            rest = h.rest;
            encoded = js;
            placed = sym (drop-drop (size_at shapes i) i shapes)
                ∙ ap (drop (size_at shapes i)) f.placed
                ∙ drop_at rs (qs ++ h.rest) (size_at shapes i) (length_shape_rows is ∙ sym (stands_size f));
            reaches = omega (arith, length-append rs qs, length_shape_rows is, stands_size f);
          };
        }

none_inside : {shapes p : List ℕ} {i end : ℕ} {ss : List Shape} → InsideStand shapes p i end ss → end ≤ i → depth ss ≡ 0
unfolding depth
none_inside {p = p} {i} {end} h l = go h.encoded h.reaches
  where
    go : {ts : List Shape} {rows : List ℕ} → InsideRows p ts rows → i + length rows ≡ end → depth ts ≡ 0
    go no_inside_rows r = refl
    go (inside_rows {s = s} {rs = rs} {qs = qs} is js) r =
        absurd (let z : ⊥ = omega (arith, length-append rs qs, length_shape_rows is, forms_some s) in z)

-- ---- the loop

-- of the shapes that s holds, those before row i are nested no deeper than done, and those left stand from there on
pub record Descending (shapes p : List ℕ) (left end i : ℕ) (s : Shape) : Type 0 where
  pub done : ℕ
  pub ahead : List Shape
  pub stand : InsideStand shapes p i end ahead
  pub small : done < left
  pub whole : levels s ≡ suc (max done (depth ahead))

abbrev pub Descent : (shapes : List ℕ) (row left end i : ℕ) → Type 0
Descent shapes row left end i = (p : List ℕ) (m : ℕ) (s : Shape) → Stands shapes p row m s → Descending shapes p left end i s

pub descends
    : (shapes : List ℕ) (row left : ℕ) {n : ℕ} → n ≡ size_at shapes row → 0 < left → Descent shapes row left (row + n) (row + 2)
descends shapes row left {n} e l p m s h =
    record {
      done = 0;
      ahead = inside s;
      stand = subst (λ (k : ℕ). InsideStand shapes p (row + 2) (row + k) (inside s))
          (length_shape_rows h.encoded ∙ sym (stands_size h) ∙ sym e)
          (inside_placed shapes row h.rest h.encoded h.placed);
      small = l;
      whole = levels_inside s ∙ omega arith;
    }

module _ {shapes : List ℕ} {row left end i : ℕ} (d : Descent shapes row left end i) (more : i < end) where
  module _ {p : List ℕ} {m : ℕ} {s : Shape} (h : Stands shapes p row m s) where
    pub inner : Innermost shapes p i end (d p m s h).ahead
    inner = next (d p m s h).stand more

    deeper_ahead : depth (d p m s h).ahead ≡ max (levels inner.shape) (depth inner.rest)
    unfolding depth
    deeper_ahead = ap depth inner.same

  pub inner_standing : Standing shapes row → Standing shapes i
  inner_standing w =
      let f = inner w.stands in record { used = w.used; name = f.name; shape = f.shape; stands = f.stands }

  pub inner_some : Standing shapes row → 2 ≤ size_at shapes i
  inner_some w =
      let f = inner w.stands in omega (arith, stands_size f.stands, forms_some f.shape)

  pub inner_within : Standing shapes row → i + size_at shapes i ≤ length shapes
  inner_within w = let f = inner w.stands in omega (arith, stands_size f.stands, stands_within f.stands)

  pub too_deep : {b : Bool} → TellsDeeper shapes i (left - 1) b → b ≡ true → TellsDeeper shapes row left true
  too_deep t e p m s h =
      let f = inner h in
      sym
      (lt-ltb left (levels s)
      (omega (
        arith,
        (d p m s h).whole,
        (d p m s h).small,
        deeper_ahead h,
        ltb-true (left - 1) (levels f.shape) (sym (t p f.name f.shape f.stands) ∙ e),
      )))

  pub descends_on
      : {b : Bool} {n : ℕ} → TellsDeeper shapes i (left - 1) b → b ≡ false → n ≡ size_at shapes i → Descent shapes row left end (i + n)
  descends_on {n = n} t e q p m s h =
      let f = inner h in
      let low = ltb-false (left - 1) (levels f.shape) (sym (t p f.name f.shape f.stands) ∙ e) in
      record {
        done = max (d p m s h).done (levels f.shape);
        ahead = f.rest;
        stand = subst (λ (k : ℕ). InsideStand shapes p (i + k) end f.rest) (sym q) f.more;
        small = omega (arith, (d p m s h).small, low);
        whole = (d p m s h).whole ∙ omega (arith, deeper_ahead h);
      }

pub deep_enough
    : {shapes : List ℕ} {row left end i : ℕ} → Descent shapes row left end i → end ≤ i → TellsDeeper shapes row left false
deep_enough {left = left} d past p m s h =
    let g = d p m s h in
    sym (le-ltb left (levels s) (omega (arith, g.whole, g.small, none_inside g.stand past)))

levels_some : (s : Shape) → 0 < levels s
unfolding levels
levels_some (shape n b k x e r) = omega arith

-- every shape is nested deeper than no level
pub deeper_than_none : (shapes : List ℕ) (row : ℕ) {left : ℕ} → left ≡ 0 → TellsDeeper shapes row left true
deeper_than_none shapes row {left} e p m s h = sym (lt-ltb left (levels s) (omega (arith, e, levels_some s)))

-- each level has a form
mutual
  unfolding levels forms

  levels_forms : (s : Shape) → levels s ≤ forms s
  levels_forms (shape n b k x e r) = omega (arith, levels_element_forms e, levels_record_forms r)

  levels_element_forms : (e : Element) → levels_element e ≤ forms_element e
  levels_element_forms no_list = omega arith
  levels_element_forms (list_of s) = levels_forms s

  levels_record_forms : (r : Record) → levels_record r ≤ forms_record r
  levels_record_forms no_rec = omega arith
  levels_record_forms (rec_of fs) = levels_fields_forms fs

  levels_fields_forms : (fs : Fields) → levels_fields fs ≤ forms_fields fs
  levels_fields_forms no_fields = omega arith
  levels_fields_forms (field n s fs) = omega (arith, levels_forms s, levels_fields_forms fs)

-- no shape of so few forms is
pub too_few : {shapes : List ℕ} {row left n : ℕ} → n ≡ size_at shapes row → n / 2 ≤ left → TellsDeeper shapes row left false
too_few {left = left} e l p m s h = sym (le-ltb left (levels s) (omega (arith, e, l, stands_size h, levels_forms s)))

pub standing_within : {shapes : List ℕ} {row : ℕ} (w : Standing shapes row) → row + size_at shapes row ≤ length shapes
standing_within w = omega (arith, stands_size w.stands, stands_within w.stands)

pub standing_some : {shapes : List ℕ} {row : ℕ} (w : Standing shapes row) → 2 ≤ size_at shapes row
standing_some w = omega (arith, stands_size w.stands, forms_some w.shape)
