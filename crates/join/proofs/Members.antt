-- A member of the second put into the first, with null added. Assumes nothing.
use Prim.Native.Nat.{ℕ, ◌+◌, ◌*◌, ◌≤◌, ◌<◌}
use native.Mathlib.Omega.{arith}
use mathlib.Core.Path.{◌≡◌, sym, ap, subst, ◌∙◌}
use mathlib.Core.List.{List, ◌∷◌, ◌++◌}
use lib.ListN.{length, get_or, take, drop}
use lib.Seq.{take_at}
use Rattle.definitions.specs.Shape.{Shape, forms}
use Rattle.definitions.specs.Join.{with_null}
use Rattle.shapes.specs.Shapes.{ShapeRows, Stands, size_at}
use Rattle.shapes.specs.ShapesLaws.{length_shape_rows, stands_size, stands_within, forms_some}
use Rattle.join.specs.Replacing.{Put, Over}
use Rattle.join.specs.ReplacingLaws.{split_of, split_stands, replaced_split, replaced_then}
use Rattle.join.specs.Joining.{Copied, null_head}
use Rattle.join.proofs.Rows.{nulled}

-- the words copied are the shape's rows
pub copied_rows
    : {second p rows : List ℕ} {from k count : ℕ} {b : Shape} (h : Stands second p from k b) → count ≡ size_at second from
    → Copied second from count rows → ShapeRows p k b rows
copied_rows {second} {p} {from = from} {k} {count} {b} h c e =
    subst
    (ShapeRows p k b)
    (sym
    (e
    ∙ ap (take count) h.placed
    ∙ take_at h.rows h.rest count (length_shape_rows h.encoded ∙ sym (c ∙ stands_size h))))
    h.encoded

-- the first word of a shape that stands in a small table is small
pub head_small : {t p : List ℕ} {row m : ℕ} {s : Shape} → Stands t p row m s → length t ≤ 65536 → get_or t row 0 < 8388736
unfolding size_at
head_small {s} h l = omega (arith, stands_size h, stands_within h)

-- where the shape at a row has been replaced, it stands there
pub put_stands
    : {shapes shapes₁ p : List ℕ} {used words row old m : ℕ} {u : Shape} → row + old ≤ used → used ≤ length shapes
    → (h : Put shapes shapes₁ used words row old (ShapeRows p m u)) → Stands shapes₁ p row m u
put_stands {shapes} {used = used} {row = row} {old} i j h = split_stands (replaced_split (split_of shapes used row old i j) h.replaced) h.encoded

module _ (shapes shapes₁ second : List ℕ) (used at from count : ℕ) where
  pub put_member_full
      : {p : List ℕ} {k : ℕ} {b : Shape} → Stands second p from k b → count ≡ size_at second from → Over shapes shapes₁ used 0 count
      → Over shapes shapes₁ used 0 (2 * forms b)
  put_member_full h c o = record { over = omega (arith, stands_size h, o.over); same = o.same }

  module _ (words : ℕ) (q : Put shapes shapes₁ used words at 0 (Copied second from count)) (i : at ≤ used) (j : used ≤ length shapes) where
    rows_put : {p : List ℕ} {k : ℕ} {b : Shape} → Stands second p from k b → count ≡ size_at second from → Put shapes shapes₁ used words at 0 (ShapeRows p k b)
    rows_put h c = record { rows = q.rows; encoded = copied_rows h c q.encoded; replaced = q.replaced }

    words_are : {p : List ℕ} {k : ℕ} {b : Shape} → Stands second p from k b → count ≡ size_at second from → words ≡ 2 * forms b
    words_are h c = omega (arith, q.replaced.grown, length_shape_rows (copied_rows h c q.encoded))

    pub put_member_grown
        : {p : List ℕ} {k : ℕ} {b : Shape} {shapes₂ : List ℕ} → Stands second p from k b → count ≡ size_at second from
        → shapes₂ ≡ take at shapes₁ ++ null_head (get_or shapes₁ at 0) ∷ drop (at + 1) shapes₁ → length shapes₂ ≡ length shapes₁
        → Put shapes shapes₂ used words at 0 (ShapeRows p k (with_null b))
    put_member_grown {b} h c e l =
        let w : words ≡ 2 * forms b = words_are h c in
        let d =
        nulled (put_stands (omega arith) j (rows_put h c)) (let g : at + 2 * forms b ≤ used + words = omega arith in g)
        (omega (arith, q.replaced.within, q.replaced.same)) e l in
        record {
          rows = d.rows;
          encoded = d.encoded;
          replaced = replaced_then words (omega arith) j q.replaced (let g : 2 * forms b ≡ 0 + words = omega arith in g) d.replaced
              (let g : words ≡ words + 0 = omega arith in g);
        }

    -- the first word has room for null
    pub put_member_head
        : {p : List ℕ} {k : ℕ} {b : Shape} → Stands second p from k b → count ≡ size_at second from → length shapes ≤ 65536
        → (at < length shapes₁) × (get_or shapes₁ at 0 + 1 < 18446744073709551616)
    put_member_head {b} h c small =
        let v = put_stands (omega arith) j (rows_put h c) in
        let i : length shapes₁ ≤ 65536 = omega (arith, q.replaced.same) in
        (omega (arith, stands_within v, forms_some b), omega (arith, head_small v i))
