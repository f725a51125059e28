-- A shape of the result's table that becomes another, and then another. Assumes nothing.
use Prim.Native.Nat.{ℕ, ◌+◌, ◌*◌, ◌^◌, ◌≤◌, ◌<◌}
use native.Mathlib.Omega.{arith}
use mathlib.Core.Path.{◌≡◌, refl, sym, subst, ◌∙◌}
use mathlib.Core.List.{List}
use lib.ListN.{take, drop}
use Rattle.definitions.specs.Shape.{Shape, forms}
use Rattle.shapes.specs.Shapes.{ShapeRows, Stands}
use Rattle.shapes.specs.ShapesLaws.{length_shape_rows}
use Rattle.join.specs.Replacing.{Put, Over, Becomes}
use Rattle.join.specs.ReplacingLaws.{Split, stands_split, split_stands, replaced_split, replaced_then}
use Rattle.std.specs.Prelude.{Option}
use Rattle.std.specs.Prelude.{Some, None}
use Rattle.growing.specs.Rows.{Room}
use Rattle.result_shape.specs.Giving.{Tables}

-- ---- an answer that is known to be one of its cases

module _ (result result' p : List ℕ) (used row m : ℕ) (s u : Shape) {o : Option ℕ} where
  pub became : {words : ℕ} → o ≡ Some words → Becomes result result' p used row m s u o → Put result result' used words row (2 * forms s) (ShapeRows p m u)
  became e h = subst (λ (x : Option ℕ). Becomes result result' p used row m s u x) e h

  pub was_full : o ≡ None → Becomes result result' p used row m s u o → Over result result' used (2 * forms s) (2 * forms u)
  was_full e h = subst (λ (x : Option ℕ). Becomes result result' p used row m s u x) e h

-- what it becomes, otherwise said
pub becomes_as
    : (result result' p : List ℕ) (used row m : ℕ) (s : Shape) {u v : Shape} (o : Option ℕ) → u ≡ v → Becomes result result' p used row m s u o
    → Becomes result result' p used row m s v o
becomes_as result result' p used row m s o e h = subst (λ (x : Shape). Becomes result result' p used row m s x o) e h

-- ---- the tables

pub tables_room : {shapes result : List ℕ} {used : ℕ} → Tables shapes result used → Room result used
tables_room t = record { enough = t.enough; small = omega (arith, t.small) }

-- ---- one after the other

pub over_more
    : {result result₁ : List ℕ} {used : ℕ} (s u v : Shape) → forms u ≤ forms v → Over result result₁ used (2 * forms s) (2 * forms u)
    → Over result result₁ used (2 * forms s) (2 * forms v)
over_more s u v h o = record { over = omega (arith, o.over); same = o.same }

module _
    {shapes result result₁ p : List ℕ} {used words row m : ℕ} {s u : Shape} (stands : Stands result p row m s) (within : row + 2 * forms s ≤ used)
    (tables : Tables shapes result used)
    (q : Put result result₁ used words row (2 * forms s) (ShapeRows p m u))
  where
    now_split
        : Split result₁ (used + words) row (2 * forms s + words) (take row result) q.rows (drop (row + 2 * forms s) (take used result))
    now_split = replaced_split (stands_split stands within tables.enough) q.replaced

    put_counts : 2 * forms u ≡ 2 * forms s + words
    put_counts = sym (length_shape_rows q.encoded) ∙ q.replaced.grown

    pub put_stands : Stands result₁ p row m u
    put_stands = split_stands now_split q.encoded

    pub put_within : row + 2 * forms u ≤ used + words
    put_within = omega (arith, put_counts)

    pub put_tables : Tables shapes result₁ (used + words)
    put_tables =
        record {
          enough = now_split.fits;
          small = omega (arith, tables.small, q.replaced.same);
          few = tables.few;
        }

    pub put_small : used + words < 2 ^ 64
    put_small = omega (arith, put_tables.enough, put_tables.small)

    pub then_put
        : {result₂ : List ℕ} {more : ℕ} {v : Shape} → Put result₁ result₂ (used + words) more row (2 * forms u) (ShapeRows p m v)
        → Put result result₂ used (words + more) row (2 * forms s) (ShapeRows p m v)
    then_put {more = more} o =
        record {
          rows = o.rows;
          encoded = o.encoded;
          replaced = replaced_then (words + more) within tables.enough q.replaced put_counts o.replaced refl;
        }

    pub then_over
        : {result₂ : List ℕ} (v : Shape) → Over result₁ result₂ (used + words) (2 * forms u) (2 * forms v)
        → Over result result₂ used (2 * forms s) (2 * forms v)
    then_over v o = record { over = omega (arith, o.over, put_counts, q.replaced.same); same = o.same ∙ q.replaced.same }
