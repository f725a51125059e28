-- A member joined into the members of a shape: into the one of its name, or into a new one. Assumes nothing.
use Rattle.std.specs.Prelude.{ℕ, ◌+◌, ◌*◌, ◌≤◌, ◌≡◌, Bool, true, false, List, [], ◌∷◌, ◌++◌, length, take, drop}
use native.Mathlib.Omega.{arith}
use Rattle.std.proofs.Math.Path.{refl, ap, subst}
use Rattle.std.proofs.Common.{sym, ◌∙◌, append_assoc, length-append}
use Rattle.std.proofs.Math.Option.{none}
use Rattle.definitions.specs.Bytes.{Bytes}
use Rattle.definitions.specs.Shape.{Shape, Fields, field, find, nothing, only_null, ascending, ascending_fields, forms, forms_fields}
use Rattle.laws.specs.Fields.{none_some, ascending_first}
use Rattle.nodes.specs.Nodes.{Refers}
use Rattle.shapes.specs.Shapes.{head_of, head_word, kind_bits, ShapeRows, shape_rows, no_element_rows, no_record_rows}
use Rattle.shapes.specs.Shapes.{FieldRows, field_rows, Stands, FieldsStand}
use Rattle.shapes.specs.ShapesLaws.{length_shape_rows}
use Rattle.join.specs.Replacing.{Put, Puts, Over, Becomes}
use Rattle.join.specs.ReplacingLaws.{Split, split_used, split_stands, split_inner, split_outer, replaced_split, split_replaced}
use Rattle.std.specs.Prelude.{Option, Some, None}
use Rattle.growing.specs.Growing.{member_start, place}
use Rattle.growing.specs.GrowingForms.{place_eq, forms_some}
use Rattle.growing.specs.GrowingLaws.{find_place}
use Rattle.growing.specs.Rows.{Room, NewRow, MeetsFields, FieldsBecome, Finds}
use Rattle.growing.specs.StepLaws.{split_as, replaced_then, fields_split}

-- ---- the start of a new member

start_rows : {p : List ℕ} (had : Bool) (k : ℕ) → ShapeRows p k (member_start had) (head_of (kind_bits (member_start had)) 2 ∷ k ∷ [])
unfolding member_start forms nothing only_null head_word
start_rows false k = shape_rows no_element_rows no_record_rows
start_rows true k = shape_rows no_element_rows no_record_rows

-- ---- the place of the name, in the used words

module _
    {shapes pool : List ℕ} {used first last : ℕ} {p : List ℕ} {fs : Fields} {n : Bytes} {row : ℕ} {listed : Bool}
    (h : MeetsFields shapes pool used first last p fs)
    (room : Room shapes used)
    (f : Finds shapes first last n p fs row listed)
  where
    -- the members' rows, those before the place and those behind it
    stand : FieldsStand shapes p first last fs
    stand =
        record {
          rows = f.front ++ f.stand.rows;
          rest = f.stand.rest;
          encoded =
              subst
              (λ (gs : Fields). FieldRows p gs (f.front ++ f.stand.rows))
              (sym f.around.same)
              (f.around.encodes f.back f.stand.rows f.stand.encoded);
          placed =
              f.before
              ∙ ap (λ (l : List ℕ). f.front ++ l) f.stand.placed
              ∙ sym (append_assoc f.front f.stand.rows f.stand.rest);
          reaches = omega (arith, length-append f.front f.stand.rows, f.reached, f.stand.reaches);
        }

    pub whole
        : Split
        shapes
        used
        first
        (2 * forms_fields fs)
        (take first shapes)
        (f.front ++ f.stand.rows)
        (drop last (take used shapes))
    unfolding stand
    whole = fields_split stand h.begins h.within room.enough

    -- what is put into the place is put among the members
    module _ (ys zs : List ℕ) (apart : f.stand.rows ≡ ys ++ zs) where
      inside : Split shapes used first (2 * forms_fields fs) (take first shapes) (f.front ++ (ys ++ zs)) (drop last (take used shapes))
      inside =
          subst
          (λ (l : List ℕ). Split shapes used first (2 * forms_fields fs) (take first shapes) (f.front ++ l) (drop last (take used shapes)))
          apart
          whole

      pub place_split : Split shapes used row (length ys) (take first shapes ++ f.front) ys (zs ++ drop last (take used shapes))
      place_split = split_as refl (sym f.reached) refl (split_inner f.front ys zs inside)

      pub placed_put
          : {shapes' new : List ℕ} {words : ℕ} (gs : Fields)
          → Split shapes' (used + words) row (length ys + words) (take first shapes ++ f.front) new (zs ++ drop last (take used shapes))
          → length shapes' ≡ length shapes → FieldRows p gs (new ++ zs)
          → Put shapes shapes' used words first (2 * forms_fields fs) (FieldRows p (f.around.around gs))
      placed_put {new = new} gs w e r =
          record {
            rows = f.front ++ (new ++ zs);
            encoded = f.around.encodes gs (new ++ zs) r;
            replaced =
                split_replaced inside
                (split_as refl refl
                (omega (
                  arith,
                  inside.size,
                  length-append f.front (ys ++ zs),
                  length-append ys zs,
                ))
                (split_outer f.front new zs inside.at (split_as refl f.reached refl w)))
                e;
          }

-- ---- a member that is listed

-- the member at the place, its rows and those behind it
record MemberAt (p : List ℕ) (m : Bytes) (b : Shape) (gs : Fields) (rows : List ℕ) : Type 0 where
  word : ℕ
  refers : Refers p m word
  ys : List ℕ
  zs : List ℕ
  apart : rows ≡ ys ++ zs
  encoded : ShapeRows p word b ys
  others : FieldRows p gs zs

member_at : {p : List ℕ} {m : Bytes} {b : Shape} {gs : Fields} {rows : List ℕ} → FieldRows p (field m b gs) rows → MemberAt p m b gs rows
member_at (field_rows {k} {rs} {qs} f r q) =
    record { word = k; refers = f; ys = rs; zs = qs; apart = refl; encoded = r; others = q }

module _
    {shapes pool : List ℕ} {used first last : ℕ} {p : List ℕ} {fs : Fields} {n : Bytes} {row : ℕ}
    (h : MeetsFields shapes pool used first last p fs)
    (room : Room shapes used)
    (f : Finds shapes first last n p fs row true)
  where
    pub listed_shape : Shape
    listed_shape = f.case.1

    there : MemberAt p f.case.0 f.case.1 f.case.2 f.stand.rows
    there = member_at (subst (λ (gs : Fields). FieldRows p gs f.stand.rows) f.case.3 f.stand.encoded)

    pub listed_word : ℕ
    listed_word = there.word

    at_place
        : Split
        shapes
        used
        row
        (2 * forms f.case.1)
        (take first shapes ++ f.front)
        there.ys
        (there.zs ++ drop last (take used shapes))
    at_place =
        split_as refl refl (length_shape_rows there.encoded)
        (place_split h room f there.ys there.zs there.apart)

    pub listed_stands : Stands shapes p row listed_word listed_shape
    unfolding listed_shape listed_word
    listed_stands = split_stands at_place there.encoded

    pub listed_within : row + 2 * forms listed_shape ≤ used
    unfolding listed_shape
    listed_within = omega (arith, split_used at_place)

    pub listed_ascends : ascending_fields fs ≡ true → ascending listed_shape ≡ true
    unfolding listed_shape
    listed_ascends i =
        ascending_first f.case.0 f.case.1 f.case.2 (ap ascending_fields (sym f.case.3) ∙ f.around.ascends i)

    module _ (st : Shape) (g : Shape → Shape) where
      placed_as
          : place n st g fs
          ≡ f.around.around (field f.case.0 (g f.case.1) f.case.2)
      placed_as =
          f.around.places st g
          ∙ ap
          (λ (gs : Fields). f.around.around (place n st g gs))
          f.case.3
          ∙ ap
          f.around.around
          (place_eq n st g f.case.0 f.case.1 f.case.2 f.case.4)

      pub listed_become
          : (shapes' : List ℕ) (o : Option ℕ) → Becomes shapes shapes' p used row listed_word listed_shape (g listed_shape) o
          → FieldsBecome shapes shapes' p used first fs (place n st g fs) o
      unfolding listed_shape listed_word forms
      listed_become shapes' (Some words) q =
          subst
          (λ (gs : Fields). Put shapes shapes' used words first (2 * forms_fields fs) (FieldRows p gs))
          (sym placed_as)
          (placed_put h room f there.ys there.zs there.apart (field f.case.0 (g f.case.1) f.case.2)
          (split_as refl refl (ap (λ (x : ℕ). x + words) (sym (length_shape_rows there.encoded))) (replaced_split at_place q.replaced))
          q.replaced.same
          (field_rows there.refers q.encoded there.others))
      listed_become shapes' None q =
          record {
            over =
                omega (
                  arith,
                  q.over,
                  ap forms_fields placed_as,
                  f.around.counts (field f.case.0 (g f.case.1) f.case.2),
                  ap forms_fields (f.around.same ∙ ap f.around.around f.case.3),
                  f.around.counts (field f.case.0 f.case.1 f.case.2),
                );
            same = q.same;
          }

-- ---- a new member

-- a name that is not listed has no member at its place
pub place_lacked
    : {shapes p : List ℕ} {first last : ℕ} {n : Bytes} {fs : Fields} {row : ℕ} (listed : Bool) → ascending_fields fs ≡ true
    → find n fs ≡ none → Finds shapes first last n p fs row listed → listed ≡ false
place_lacked false i e f = refl
place_lacked {n = n} {fs} true i e f = none_some e (ap (find n) (sym kept) ∙ find_place n nothing (λ (s : Shape). s) fs i)
  where
    kept : place n nothing (λ (s : Shape). s) fs ≡ fs
    kept =
        f.around.places nothing (λ (s : Shape). s)
        ∙ ap
        f.around.around
        (ap (place n nothing (λ (s : Shape). s)) f.case.3
        ∙ place_eq n nothing (λ (s : Shape). s) f.case.0 f.case.1 f.case.2 f.case.4
        ∙ sym f.case.3)
        ∙ sym f.around.same

module _
    {shapes pool : List ℕ} {used first last : ℕ} {p : List ℕ} {fs : Fields} {n : Bytes} {row k : ℕ} (had : Bool) (g : Shape → Shape)
    (h : MeetsFields shapes pool used first last p fs)
    (refers : Refers p n k)
    (room : Room shapes used)
    (f : Finds shapes first last n p fs row false)
  where
    gap : Split shapes used row 0 (take first shapes ++ f.front) [] (f.stand.rows ++ drop last (take used shapes))
    gap = place_split h room f [] f.stand.rows refl

    pub gap_inside : row ≤ used
    gap_inside = omega (arith, split_used gap)

    placed_new
        : place n (member_start had) g fs ≡ f.around.around (field n (g (member_start had)) f.back)
    placed_new =
        f.around.places (member_start had) g
        ∙ ap f.around.around (f.case (member_start had) g)

    -- no room for its row
    pub new_unready
        : {shapes₁ : List ℕ} → Over shapes shapes₁ used 0 2
        → Over shapes shapes₁ used (2 * forms_fields fs) (2 * forms_fields (place n (member_start had) g fs))
    unfolding forms
    new_unready o =
        record {
          over =
              omega (
                arith,
                o.over,
                ap forms_fields placed_new,
                f.around.counts (field n (g (member_start had)) f.back),
                ap forms_fields f.around.same,
                f.around.counts f.back,
                forms_some (g (member_start had)),
              );
          same = o.same;
        }

    module _ {shapes₁ : List ℕ} {opened kinds name : ℕ} (told : kinds ≡ kind_bits (member_start had)) (named : name ≡ k)
        (q : Put shapes shapes₁ used opened row 0 (NewRow kinds name)) where
      first_rows : ShapeRows p k (member_start had) q.rows
      first_rows =
          subst
          (λ (l : List ℕ). ShapeRows p k (member_start had) l)
          (sym (q.encoded ∙ ap (λ (x : ℕ). head_of x 2 ∷ name ∷ []) told ∙ ap (λ (x : ℕ). head_of (kind_bits (member_start had)) 2 ∷ x ∷ []) named))
          (start_rows had k)

      first_split
          : Split shapes₁ (used + opened) row (0 + opened) (take first shapes ++ f.front) q.rows (f.stand.rows ++ drop last (take used shapes))
      first_split = replaced_split gap q.replaced

      counts : 2 * forms (member_start had) ≡ 0 + opened
      counts = sym (length_shape_rows first_rows) ∙ q.replaced.grown

      pub new_stands : Stands shapes₁ p row k (member_start had)
      new_stands = split_stands first_split first_rows

      pub new_within : row + 2 * forms (member_start had) ≤ used + opened
      new_within = omega (arith, counts, split_used first_split)

      pub new_room : Room shapes₁ (used + opened)
      new_room = record { enough = first_split.fits; small = omega (arith, room.small, q.replaced.same) }

      pub new_over
          : {shapes₂ : List ℕ} → Over shapes₁ shapes₂ (used + opened) (2 * forms (member_start had)) (2 * forms (g (member_start had)))
          → Over shapes shapes₂ used (2 * forms_fields fs) (2 * forms_fields (place n (member_start had) g fs))
      unfolding forms
      new_over o =
          record {
            over =
                omega (
                  arith,
                  o.over,
                  q.replaced.same,
                  counts,
                  ap forms_fields placed_new,
                  f.around.counts (field n (g (member_start had)) f.back),
                  ap forms_fields f.around.same,
                  f.around.counts f.back,
                );
            same = o.same ∙ q.replaced.same;
          }

      pub new_put
          : {shapes₂ : List ℕ} {words : ℕ}
          → Put shapes₁ shapes₂ (used + opened) words row (2 * forms (member_start had)) (ShapeRows p k (g (member_start had)))
          → Put shapes shapes₂ used (opened + words) first (2 * forms_fields fs) (FieldRows p (place n (member_start had) g fs))
      new_put {shapes₂} {words} o =
          subst
          (λ (gs : Fields). Put shapes shapes₂ used (opened + words) first (2 * forms_fields fs) (FieldRows p gs))
          (sym placed_new)
          (placed_put h room f [] f.stand.rows refl (field n (g (member_start had)) f.back)
          (replaced_split gap (replaced_then gap q.replaced counts o.replaced))
          (o.replaced.same ∙ q.replaced.same)
          (field_rows refers o.encoded f.stand.encoded))

-- the row that an answer says was opened
pub row_put
    : (shapes shapes₁ : List ℕ) (used row kinds name : ℕ) (o : Option ℕ) {opened : ℕ} → Puts shapes shapes₁ used row 0 2 (NewRow kinds name) o
    → o ≡ Some opened → Put shapes shapes₁ used opened row 0 (NewRow kinds name)
row_put shapes shapes₁ used row kinds name o q e =
    subst (λ (x : Option ℕ). Puts shapes shapes₁ used row 0 2 (NewRow kinds name) x) e q
