-- A shape joined into another as a whole: its members, its element, its kinds. Assumes nothing.
use Prim.Native.Nat.{ℕ, ◌+◌, ◌*◌, ◌%◌, ◌≤◌, ◌<◌}
use native.Mathlib.Omega.{arith}
use mathlib.Core.Path.{◌≡◌, refl, ap, ap₂, ◌∙◌}
use mathlib.Core.Bool.{◌||◌}
use mathlib.Core.List.{List, ◌∷◌, ◌++◌}
use lib.Bits.{bit_or}
use lib.ListN.{length, get_or, take, drop}
use Rattle.definitions.specs.Shape.{Shape, shape, element_of, record_of, forms}
use Rattle.definitions.specs.Join.{join_numeric, join}
use Rattle.shapes.specs.Shapes.{kind_bits, head_of, head_word, ShapeRows, Stands, size_at}
use Rattle.shapes.specs.ShapesLaws.{kind_bits_lt, union_bits, length_shape_rows, stands_kinds, stands_size, stands_within, forms_some}
use Rattle.join.specs.Replacing.{Put, Over}
use Rattle.join.specs.ReplacingLaws.{replaced_then}
use Rattle.join.specs.Joining.{Joins, join_records, join_elements}
use Rattle.join.specs.PartsLaws.{parts_joined, forms_parts, forms_records, records_ascend, kinds_twice}
use Rattle.join.proofs.Rows.{Headed, headed, reheaded}
use Rattle.join.proofs.Members.{put_stands}

-- the first word of a join, put together
head_joined
    : (s t : Shape) (a b kinds size : ℕ) → a ≡ kind_bits (parts_joined s t) → b ≡ kind_bits t → kinds ≡ bit_or a b
    → size ≡ 2 * forms (parts_joined s t) → head_of kinds size ≡ head_word (join s t)
unfolding head_word
head_joined s t a b kinds size e f o g =
    let k : kinds ≡ kind_bits (join s t)
    = o ∙ ap₂ (λ (x y : ℕ). bit_or x y) e f ∙ union_bits (parts_joined s t) t ∙ kinds_twice s t in
    omega (arith, forms_parts s t)

parts_headed : {p : List ℕ} {m : ℕ} (s t : Shape) {rows : List ℕ} → ShapeRows p m (parts_joined s t) rows → Headed p m (parts_joined s t) (join s t) rows
unfolding join_elements join_records element_of record_of join
parts_headed (shape n b k x e r) (shape n' b' k' x' e' r') h = headed (n || n') (b || b') (join_numeric k k') (x || x') h

-- ---- one part behind the other

module _ {shapes shapes₁ second pool p : List ℕ} {used row m other k left : ℕ} {s t : Shape} (j : Joins shapes second pool p used row m other k left s t) where
  pub members_full : Over shapes shapes₁ used (2 * forms s) (2 * forms (join_records s t)) → Over shapes shapes₁ used (2 * forms s) (2 * forms (join s t))
  members_full o = record { over = omega (arith, o.over, forms_records s t j.ours_ascend j.theirs_ascend); same = o.same }

  module _ {words : ℕ} (q : Put shapes shapes₁ used words row (2 * forms s) (ShapeRows p m (join_records s t))) where
    members_words : 2 * forms (join_records s t) ≡ 2 * forms s + words
    members_words = omega (arith, length_shape_rows q.encoded, q.replaced.grown)

    pub members_joins : Joins shapes₁ second pool p (used + words) row m other k left (join_records s t) t
    members_joins =
        record {
          both = record {
            ours = put_stands j.both.within j.both.used_within q;
            theirs = j.both.theirs;
            within = omega (arith, members_words, j.both.within);
            used_within = omega (arith, q.replaced.within, q.replaced.same);
          };
          ours_ascend = records_ascend s t j.ours_ascend j.theirs_ascend;
          theirs_ascend = j.theirs_ascend;
          nests = j.nests;
          pooled = j.pooled;
        }

    pub elements_full
        : {shapes₂ : List ℕ} → Over shapes₁ shapes₂ (used + words) (2 * forms (join_records s t)) (2 * forms (parts_joined s t))
        → Over shapes shapes₂ used (2 * forms s) (2 * forms (join s t))
    elements_full o =
        record { over = omega (arith, o.over, members_words, forms_parts s t, q.replaced.same); same = o.same ∙ q.replaced.same }

    module _ {shapes₂ : List ℕ} {more : ℕ}
        (v : Put shapes₁ shapes₂ (used + words) more row (2 * forms (join_records s t)) (ShapeRows p m (parts_joined s t))) where
      elements_stand : Stands shapes₂ p row m (parts_joined s t)
      elements_stand = put_stands members_joins.both.within members_joins.both.used_within v

      elements_words : 2 * forms (parts_joined s t) ≡ 2 * forms s + (words + more)
      elements_words = omega (arith, length_shape_rows v.encoded, v.replaced.grown, members_words)

      head_is
          : {a b kinds size : ℕ} → a ≡ get_or shapes₂ row 0 % 128 → b ≡ get_or second other 0 % 128 → kinds ≡ bit_or a b → size ≡ size_at shapes₂ row
          → head_of kinds size ≡ head_word (join s t)
      head_is {a} {b} {kinds} {size} e f o g =
          head_joined s t a b kinds size (e ∙ stands_kinds elements_stand) (f ∙ stands_kinds j.both.theirs) o (g ∙ stands_size elements_stand)

      pub head_asks
          : {a b kinds size : ℕ} → a ≡ get_or shapes₂ row 0 % 128 → b ≡ get_or second other 0 % 128 → kinds ≡ bit_or a b → size ≡ size_at shapes₂ row
          → length shapes ≤ 65536 → (row < length shapes₂) × (head_of kinds size < 18446744073709551616)
      unfolding head_word
      head_asks e f o g l = (
        omega (arith, stands_within elements_stand, forms_some (parts_joined s t)),
        omega (
          arith,
          head_is e f o g,
          kind_bits_lt (join s t),
          forms_parts s t,
          stands_within elements_stand,
          v.replaced.same,
          q.replaced.same,
        ),
      )

      pub whole_grown
          : {shapes₃ : List ℕ} {a b kinds size : ℕ} → a ≡ get_or shapes₂ row 0 % 128 → b ≡ get_or second other 0 % 128 → kinds ≡ bit_or a b
          → size ≡ size_at shapes₂ row → shapes₃ ≡ take row shapes₂ ++ head_of kinds size ∷ drop (row + 1) shapes₂ → length shapes₃ ≡ length shapes₂
          → Put shapes shapes₃ used (words + more) row (2 * forms s) (ShapeRows p m (join s t))
      whole_grown e f o g h l =
          let x = elements_stand in
          let d =
          reheaded x
          (let i : row + 2 * forms (parts_joined s t) ≤ used + (words + more) = omega (arith, elements_words, j.both.within) in i)
          (omega (arith, v.replaced.within, v.replaced.same))
          (parts_headed s t x.encoded)
          (h ∙ ap (λ (y : ℕ). take row shapes₂ ++ y ∷ drop (row + 1) shapes₂) (head_is e f o g))
          l in
          let y = replaced_then (words + more) j.both.within j.both.used_within q.replaced members_words v.replaced refl in
          record {
            rows = d.rows;
            encoded = d.encoded;
            replaced = replaced_then
                (words + more)
                j.both.within
                j.both.used_within
                y
                elements_words
                d.replaced
                (let i : words + more ≡ words + more + 0 = omega arith in i);
          }
