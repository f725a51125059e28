-- A shape joined into another, part by part. Assumes nothing.
use Prim.Native.Nat.{ℕ, ◌+◌, ◌-◌, ◌*◌, ◌%◌, ◌≤◌, ◌<◌}
use native.Mathlib.Omega.{arith}
use mathlib.Core.Path.{◌≡◌, refl, sym, ap, subst}
use mathlib.Core.Bool.{Bool, true, false}
use mathlib.Core.List.{List, ◌∷◌, ◌++◌}
use lib.ListN.{length, get_or, take, drop}
use Rattle.definitions.specs.Shape.{Numeric, Shape, shape, Element, no_list, list_of, Record, no_rec, rec_of, Fields}
use Rattle.definitions.specs.Shape.{element_of, record_of, has_list, has_rec, ascending, forms, forms_fields, levels}
use Rattle.definitions.specs.Join.{join, join_element, join_record}
use Rattle.laws.specs.OrderInduction.{ascending_of_element, ascending_of_record}
use Rattle.shapes.specs.Shapes.{bit, has_bit, ShapeRows, element_rows, record_rows, FieldRows, FieldsStand, size_at, members_at}
use Rattle.shapes.specs.ShapesLaws.{stands_size, stands_within, stands_element, stands_members, members_at_is}
use Rattle.std.specs.Prelude.{Some, None}
use Rattle.join.specs.Replacing.{Put, Over}
use Rattle.join.specs.ReplacingLaws.{put_map}
use Rattle.join.specs.Merge.{merge}
use Rattle.join.specs.Joining.{Walks, Mergeable, Merges, Joins, Joinable, JoinsTo, join_records, join_elements}
use Rattle.join.proofs.Rows.{record_changed, element_changed, unchanged}
use Rattle.join.proofs.Parts.{clash, bit_list, bit_rec}

pub left_some : (t : Shape) (left : ℕ) → levels t ≤ left → 0 < left
unfolding levels
left_some (shape n b k x e r) left h = omega arith

-- ---- members

-- where the members of both stand
pub record Spans (shapes second : List ℕ) (row other at end from to : ℕ) : Type 0 where
  pub at_is : at ≡ members_at shapes row
  pub end_is : end ≡ row + size_at shapes row
  pub from_is : from ≡ members_at second other
  pub to_is : to ≡ other + size_at second other

-- from where on, and how many words
pub spans
    : (shapes second : List ℕ) (row other : ℕ) {at size from size' : ℕ} → at ≡ members_at shapes row → size ≡ size_at shapes row
    → from ≡ members_at second other → size' ≡ size_at second other → Spans shapes second row other at (row + size) from (other + size')
spans shapes second row other e f g h = record { at_is = e; end_is = ap (λ (i : ℕ). row + i) f; from_is = g; to_is = ap (λ (i : ℕ). other + i) h }

fields_as
    : {t p : List ℕ} {row end row' end' : ℕ} {fs : Fields} → FieldsStand t p row end fs → row' ≡ row → end' ≡ end
    → FieldsStand t p row' end' fs
fields_as {t} {p} {row} {end} {row'} {end'} {fs} h e f =
    subst (λ (i : ℕ). FieldsStand t p i end' fs) (sym e) (subst (λ (i : ℕ). FieldsStand t p row i fs) (sym f) h)

join_record_none : (r : Record) → join_record r no_rec ≡ r
unfolding join
join_record_none no_rec = refl
join_record_none (rec_of fs) = refl

join_element_none : (e : Element) → join_element e no_list ≡ e
unfolding join
join_element_none no_list = refl
join_element_none (list_of a) = refl

module _ {shapes second pool p : List ℕ} {used row m other k left : ℕ} where
  pub record_none
      : has_bit (get_or second other 0 % 128) 64 ≡ false → (s t : Shape) → Joins shapes second pool p used row m other k left s t
      → Put shapes shapes used 0 row (2 * forms s) (ShapeRows p m (join_records s t))
  unfolding join_records record_of has_rec
  record_none b (shape n c x y e r) (shape n' c' x' y' e' (rec_of gs)) j = clash refl b (sym (bit_rec j.both.theirs))
  record_none b (shape n c x y e r) (shape n' c' x' y' e' no_rec) j =
      subst
      (λ (q : Record). Put shapes shapes used 0 row (2 * forms (shape n c x y e r)) (ShapeRows p m (shape n c x y e q)))
      (sym (join_record_none r))
      (unchanged j.both.ours j.both.within j.both.used_within)

  pub element_none
      : has_bit (get_or second other 0 % 128) 32 ≡ false → (s t : Shape) → Joins shapes second pool p used row m other k left s t
      → Put shapes shapes used 0 row (2 * forms s) (ShapeRows p m (join_elements s t))
  unfolding join_elements element_of has_list
  element_none b (shape n c x y e r) (shape n' c' x' y' (list_of a) r') j = clash refl b (sym (bit_list j.both.theirs))
  element_none b (shape n c x y e r) (shape n' c' x' y' no_list r') j =
      subst
      (λ (q : Element). Put shapes shapes used 0 row (2 * forms (shape n c x y e r)) (ShapeRows p m (shape n c x y q r)))
      (sym (join_element_none e))
      (unchanged j.both.ours j.both.within j.both.used_within)

  module _ {at end from to : ℕ} (z : Spans shapes second row other at end from to) where
    span_walks
        : {n c y n' c' y' : Bool} {x x' : Numeric} {e e' : Element} {fs gs : Fields}
        → Joins shapes second pool p used row m other k left (shape n c x y e (rec_of fs)) (shape n' c' x' y' e' (rec_of gs))
        → Walks shapes second pool p used at end from to (left - 1) fs gs
    unfolding levels ascending record_of forms
    span_walks {n} {c} {y} {n'} {c'} {y'} {x} {x'} {e} {e'} {fs} {gs} j =
        record {
          walk = record {
            ours = fields_as (stands_members j.both.ours) z.at_is z.end_is;
            theirs = fields_as (stands_members j.both.theirs) z.from_is z.to_is;
            ours_ascend = ascending_of_record (shape n c x y e (rec_of fs)) j.ours_ascend;
            theirs_ascend = ascending_of_record (shape n' c' x' y' e' (rec_of gs)) j.theirs_ascend;
            pooled = j.pooled;
          };
          within = omega (arith, z.end_is, stands_size j.both.ours, j.both.within);
          used_within = j.both.used_within;
          there = omega (arith, z.from_is, members_at_is j.both.theirs, stands_within j.both.theirs);
          nests = omega (arith, j.nests);
        }

    module _ (b : has_bit (get_or shapes row 0 % 128) 64 ≡ true) (d : has_bit (get_or second other 0 % 128) 64 ≡ true) where
      pub record_asks
          : (s t : Shape) → Joins shapes second pool p used row m other k left s t → length shapes ≤ 65536
          → Mergeable shapes second pool used at end from to (left - 1)
      unfolding has_rec
      record_asks (shape n c x y e no_rec) t j l = clash b refl (bit_rec j.both.ours)
      record_asks (shape n c x y e (rec_of fs)) (shape n' c' x' y' e' no_rec) j l = clash d refl (bit_rec j.both.theirs)
      record_asks (shape n c x y e (rec_of fs)) (shape n' c' x' y' e' (rec_of gs)) j l =
          record { p = p; ours = fs; theirs = gs; walks = span_walks j; small = l }

      module _ (shapes₁ : List ℕ) where
        pub record_full
            : Merges shapes shapes₁ second pool used at end from to (left - 1) None → (s t : Shape) → Joins shapes second pool p used row m other k left s t
            → Over shapes shapes₁ used (2 * forms s) (2 * forms (join_records s t))
        unfolding has_rec join_records record_of join merge forms
        record_full g (shape n c x y e no_rec) t j = clash b refl (bit_rec j.both.ours)
        record_full g (shape n c x y e (rec_of fs)) (shape n' c' x' y' e' no_rec) j = clash d refl (bit_rec j.both.theirs)
        record_full g (shape n c x y e (rec_of fs)) (shape n' c' x' y' e' (rec_of gs)) j =
            let o = g p fs gs (span_walks j) in
            record { over = omega (arith, o.over); same = o.same }

        pub record_inner
            : {words : ℕ} → Merges shapes shapes₁ second pool used at end from to (left - 1) (Some words) → (s t : Shape)
            → Joins shapes second pool p used row m other k left s t
            → (fs gs : Fields) × Put shapes shapes₁ used words at (2 * forms_fields fs) (FieldRows p (merge fs gs)) × (row < at) × (at ≤ used)
        unfolding has_rec forms
        record_inner g (shape n c x y e no_rec) t j = clash b refl (bit_rec j.both.ours)
        record_inner g (shape n c x y e (rec_of fs)) (shape n' c' x' y' e' no_rec) j = clash d refl (bit_rec j.both.theirs)
        record_inner g (shape n c x y e (rec_of fs)) (shape n' c' x' y' e' (rec_of gs)) j = (
          fs,
          gs,
          g p fs gs (span_walks j),
          omega (arith, z.at_is, members_at_is j.both.ours),
          omega (arith, z.at_is, members_at_is j.both.ours, j.both.within),
        )

        pub record_grown
            : {words : ℕ} {shapes₂ : List ℕ} → Merges shapes shapes₁ second pool used at end from to (left - 1) (Some words)
            → shapes₂ ≡ take row shapes₁ ++ (get_or shapes₁ row 0 + 0 + 128 * words) ∷ drop (row + 1) shapes₁ → length shapes₂ ≡ length shapes₁
            → (s t : Shape) → Joins shapes second pool p used row m other k left s t
            → Put shapes shapes₂ used words row (2 * forms s) (ShapeRows p m (join_records s t))
        unfolding has_rec join_records record_of join merge forms bit
        record_grown g h i (shape n c x y e no_rec) t j = clash b refl (bit_rec j.both.ours)
        record_grown g h i (shape n c x y e (rec_of fs)) (shape n' c' x' y' e' no_rec) j = clash d refl (bit_rec j.both.theirs)
        record_grown g h i (shape n c x y e (rec_of fs)) (shape n' c' x' y' e' (rec_of gs)) j =
            record_changed 0 j.both.ours j.both.within j.both.used_within
            (put_map
            (λ rows q. record_rows q)
            (g p fs gs (span_walks j)))
            (omega (arith, z.at_is, members_at_is j.both.ours)) refl refl h i

  -- ---- element

  module _ (b : has_bit (get_or shapes row 0 % 128) 32 ≡ true) (d : has_bit (get_or second other 0 % 128) 32 ≡ true) where
    inner_joins
        : {n c y n' c' y' : Bool} {x x' : Numeric} {a a' : Shape} {r r' : Record}
        → Joins shapes second pool p used row m other k left (shape n c x y (list_of a) r) (shape n' c' x' y' (list_of a') r')
        → Joins shapes second pool p used (row + 2) 0 (other + 2) 0 (left - 1) a a'
    unfolding levels ascending element_of forms
    inner_joins {n} {c} {y} {n'} {c'} {y'} {x} {x'} {a} {a'} {r} {r'} j =
        record {
          both = record {
            ours = stands_element j.both.ours;
            theirs = stands_element j.both.theirs;
            within = omega (arith, j.both.within);
            used_within = j.both.used_within;
          };
          ours_ascend = ascending_of_element (shape n c x y (list_of a) r) j.ours_ascend;
          theirs_ascend = ascending_of_element (shape n' c' x' y' (list_of a') r') j.theirs_ascend;
          nests = omega (arith, j.nests);
          pooled = j.pooled;
        }

    pub element_asks
        : (s t : Shape) → Joins shapes second pool p used row m other k left s t → length shapes ≤ 65536
        → Joinable shapes second pool used (row + 2) (other + 2) (left - 1)
    unfolding has_list
    element_asks (shape n c x y no_list r) t j l = clash b refl (bit_list j.both.ours)
    element_asks (shape n c x y (list_of a) r) (shape n' c' x' y' no_list r') j l = clash d refl (bit_list j.both.theirs)
    element_asks (shape n c x y (list_of a) r) (shape n' c' x' y' (list_of a') r') j l =
        record { p = p; name = 0; other_name = 0; ours = a; theirs = a'; joins = inner_joins j; small = l }

    module _ (shapes₁ : List ℕ) where
      pub element_full
          : JoinsTo join shapes shapes₁ second pool used (row + 2) (other + 2) (left - 1) None → (s t : Shape)
          → Joins shapes second pool p used row m other k left s t
          → Over shapes shapes₁ used (2 * forms s) (2 * forms (join_elements s t))
      unfolding has_list join_elements element_of join forms
      element_full g (shape n c x y no_list r) t j = clash b refl (bit_list j.both.ours)
      element_full g (shape n c x y (list_of a) r) (shape n' c' x' y' no_list r') j = clash d refl (bit_list j.both.theirs)
      element_full g (shape n c x y (list_of a) r) (shape n' c' x' y' (list_of a') r') j =
          let o = g p 0 0 a a' (inner_joins j) in
          record { over = omega (arith, o.over); same = o.same }

      pub element_inner
          : {words : ℕ} → JoinsTo join shapes shapes₁ second pool used (row + 2) (other + 2) (left - 1) (Some words) → (s t : Shape)
          → Joins shapes second pool p used row m other k left s t
          → (a u : Shape) × Put shapes shapes₁ used words (row + 2) (2 * forms a) (ShapeRows p 0 u) × (row + 2 ≤ used)
      unfolding has_list forms
      element_inner g (shape n c x y no_list r) t j = clash b refl (bit_list j.both.ours)
      element_inner g (shape n c x y (list_of a) r) (shape n' c' x' y' no_list r') j = clash d refl (bit_list j.both.theirs)
      element_inner g (shape n c x y (list_of a) r) (shape n' c' x' y' (list_of a') r') j = (
        a,
        join a a',
        g p 0 0 a a' (inner_joins j),
        omega (arith, j.both.within),
      )

      pub element_grown
          : {words : ℕ} {shapes₂ : List ℕ} → JoinsTo join shapes shapes₁ second pool used (row + 2) (other + 2) (left - 1) (Some words)
          → shapes₂ ≡ take row shapes₁ ++ (get_or shapes₁ row 0 + 0 + 128 * words) ∷ drop (row + 1) shapes₁ → length shapes₂ ≡ length shapes₁
          → (s t : Shape) → Joins shapes second pool p used row m other k left s t
          → Put shapes shapes₂ used words row (2 * forms s) (ShapeRows p m (join_elements s t))
      unfolding has_list join_elements element_of join forms bit
      element_grown g h i (shape n c x y no_list r) t j = clash b refl (bit_list j.both.ours)
      element_grown g h i (shape n c x y (list_of a) r) (shape n' c' x' y' no_list r') j = clash d refl (bit_list j.both.theirs)
      element_grown g h i (shape n c x y (list_of a) r) (shape n' c' x' y' (list_of a') r') j =
          element_changed 0 j.both.ours j.both.within j.both.used_within
          (put_map
          (λ rows v. element_rows v)
          (g p 0 0 a a' (inner_joins j)))
          refl refl refl h i
