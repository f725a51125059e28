-- The element of a shape, there or made ready. Assumes nothing.
use Prim.Native.Nat.{ℕ, ◌+◌, ◌*◌, ◌%◌, ◌≤◌}
use native.Mathlib.Omega.{arith}
use mathlib.Core.Path.{◌≡◌, sym, ap, subst, ◌∙◌}
use mathlib.Core.Bool.{true, false}
use mathlib.Core.List.{List, [], ◌∷◌}
use lib.ListN.{length, get_or}
use Rattle.definitions.specs.Shape.{Shape, shape, no_list, list_of, nothing, has_list, has_rec, element_of, forms, forms_element}
use Rattle.laws.specs.Bools.{clash}
use Rattle.shapes.specs.Shapes.{bit, numeric_bits, kind_bits, has_bit, head_of, head_word, ShapeRows, shape_rows, no_element_rows, no_record_rows, Stands}
use Rattle.shapes.specs.ShapesLaws.{stands_kinds, stands_element, has_list_bit}
use Rattle.join.specs.Replacing.{Put, Puts}
use Rattle.std.specs.Prelude.{Option, Some, None}
use Rattle.growing.specs.Growing.{element_start}
use Rattle.growing.specs.Rows.{NewRow}
use Rattle.growing.specs.HeadLaws.{kept_put}

-- the rows of nothing, or of null alone, under any name word
pub nothing_rows : {p : List ℕ} (m : ℕ) {rows : List ℕ} → rows ≡ head_of 0 2 ∷ m ∷ [] → ShapeRows p m nothing rows
unfolding nothing head_word kind_bits bit numeric_bits has_list has_rec forms
nothing_rows {p} m e =
    subst (λ (l : List ℕ). ShapeRows p m nothing l) (sym e) (shape_rows no_element_rows no_record_rows)

module _ {t p : List ℕ} {row m : ℕ} (used : ℕ) where
  pub ready_listed
      : (s : Shape) (h : Stands t p row m s) → row + 2 * forms s ≤ used → used ≤ length t → has_bit (get_or t row 0 % 128) 32 ≡ true
      → Put t t used 0 (row + 2) (2 * forms_element (element_of s)) (ShapeRows p 0 (element_start (element_of s)))
  unfolding forms element_of element_start has_list
  ready_listed (shape n b k x no_list r) h i j e =
      clash e (ap (λ (y : ℕ). has_bit y 32) (stands_kinds h) ∙ has_list_bit n b k x no_list r)
  ready_listed (shape n b k x (list_of a) r) h i j e = kept_put (stands_element h) (omega arith) j

  pub ready_opened
      : (t' : List ℕ) (s : Shape) (h : Stands t p row m s) → has_bit (get_or t row 0 % 128) 32 ≡ false → (o : Option ℕ)
      → Puts t t' used (row + 2) 0 2 (NewRow 0 0) o
      → Puts
      t
      t'
      used
      (row + 2)
      (2 * forms_element (element_of s))
      (2 * forms (element_start (element_of s)))
      (ShapeRows p 0 (element_start (element_of s)))
      o
  unfolding forms element_of element_start has_list nothing
  ready_opened t' (shape n b k x no_list r) h e (Some words) q =
      record { rows = q.rows; encoded = nothing_rows 0 q.encoded; replaced = q.replaced }
  ready_opened t' (shape n b k x no_list r) h e None q = q
  ready_opened t' (shape n b k x (list_of a) r) h e o q =
      clash (ap (λ (y : ℕ). has_bit y 32) (stands_kinds h) ∙ has_list_bit n b k x (list_of a) r) e
