-- Lengths as sums: of a form with an element, and what holds at each turn of the loop over members. Assumes nothing.
use Prim.Native.Nat.{ℕ, ◌+◌, ◌%◌, ◌^◌, ◌≤◌, ◌<◌}
use native.Mathlib.Numerals.{add-one}
use native.Mathlib.Omega.{arith}
use mathlib.Core.Path.{◌≡◌, sym, ap, subst, ◌∙◌}
use mathlib.Core.List.{List, [], ◌∷◌, ◌++◌}
use lib.ListN.{length, get_or, length-append}
use Rattle.definitions.specs.Bytes.{Bytes, bytes}
use Rattle.definitions.specs.Shape.{Shape, Fields}
use Rattle.definitions.specs.ShapeText.{write, write_fields}
use Rattle.plain.specs.Parts.{HoldsText}
use Rattle.shapes.specs.Shapes.{kind_bits, size_at}
use Rattle.shapes.specs.Held.{HoldsShape, HoldsFields}
use Rattle.shape_writer.specs.Layout.{head_text, label_text}
use Rattle.shape_writer.specs.Writing.{Printable, LengthOfForm, PrintableFields, LengthOfFields, PrintableLabel, LengthOfLabel}
use Rattle.shape_writer.proofs.Lines.{length_new_line}
use Rattle.shape_writer.proofs.Names.{length_label}
use Rattle.shape_writer.proofs.Forms.{Listed, length_listed, leaf_text}
use Rattle.shape_writer.proofs.Members.{First, first, none_left, length_member}

-- a form with an element
pub sum_listed
    : {shapes pool : List ℕ} {row around : ℕ} {s : Shape} (l : Listed shapes pool row around s) {a b c : ℕ} → a ≡ length (head_text (kind_bits s))
    → b ≡ length (write l.element (around + 1))
    → c ≡ length (write_fields l.fields (around + 1) ++ bytes ")")
    → a + 1 + (around + 1) + b + c ≡ length (write s around)
sum_listed {around = around} l e f g = omega (arith, e, f, g, length_listed l, length_new_line (around + 1))

length_closed : (s : Bytes) → length (s ++ bytes ")") ≡ length s + 1
unfolding bytes
length_closed s = length-append s (41 ∷ [])

-- a form that holds no other
pub leaf_length
    : {shapes pool : List ℕ} {row : ℕ} (around : ℕ) {s : Shape} {size kinds n : ℕ} → HoldsShape shapes pool row s → size ≡ size_at shapes row
    → size ≡ 2
    → kinds ≡ get_or shapes row 0 % 128
    → n ≡ length (head_text kinds)
    → n + 1 ≡ length (write s around)
leaf_length around {kinds = kinds} h e f g m =
    ap (λ (k : ℕ). k + 1) (m ∙ ap (λ (k : ℕ). length (head_text k)) g)
    ∙ sym (length_closed (head_text _))
    ∙ ap length (leaf_text around h (sym e ∙ f))

-- ---- the loop

-- fs are the members from a row on; n is the length of those before row i, and of the bracket
pub record Counted (shapes pool : List ℕ) (end around : ℕ) (fs : Fields) (i n : ℕ) : Type 0 where
  pub left : Fields
  pub holds : HoldsFields shapes pool i end left
  pub whole : n + length (write_fields left around) ≡ length (write_fields fs around) + 1

pub record Counting (shapes pool : List ℕ) (row end around i n : ℕ) : Type 0 where
  pub ahead : row ≤ i
  pub going : (fs : Fields) → HoldsFields shapes pool row end fs → Counted shapes pool end around fs i n

pub counting_begins : (shapes pool : List ℕ) (row end around : ℕ) → Counting shapes pool row end around row 1
counting_begins shapes pool row end around =
    record { ahead = omega arith; going = λ fs h. record { left = fs; holds = h; whole = omega arith } }

module _ {shapes pool : List ℕ} {row end around i n : ℕ} (l : Counting shapes pool row end around i n) where
  pub counted_all : end ≤ i → LengthOfFields shapes pool row end around n
  counted_all past fs h =
      let g = l.going fs h in
      omega (arith, g.whole, ap length (none_left around g.holds past), length_closed (write_fields fs around))

  module _ (more : i < end) where
    pub counting_on
        : {k a b m : ℕ} → k ≡ get_or shapes (i + 1) 0 → LengthOfLabel pool k around a → LengthOfForm shapes pool i (around + 1) b
        → m ≡ size_at shapes i
        → Counting shapes pool row end around (i + m) (n + a + (b + 1))
    counting_on {k} {a} {b} {m} e x y f =
        record { ahead = omega (arith, l.ahead); going = λ fs h. step (l.going fs h) }
      where
        step : {fs : Fields} → Counted shapes pool end around fs i n → Counted shapes pool end around fs (i + m) (n + a + (b + 1))
        step g =
            let t = first g.holds more in
            record {
              left = t.rest;
              holds = subst (λ (j : ℕ). HoldsFields shapes pool (i + j) end t.rest) (sym f) t.more;
              whole = omega (
                arith,
                g.whole,
                length_member t around,
                x t.name (subst (λ (j : ℕ). HoldsText pool j t.name) (sym e) t.label),
                y t.shape t.holds,
                ap (λ (j : ℕ). length (write t.shape j)) (add-one around),
              );
            }

    module _ (w : PrintableFields shapes pool row end 0 around (2 ^ 64)) where
      -- the member at row i, of those that the caller has
      pub counted_turn : First shapes pool i end (l.going w.fields w.holds).left
      counted_turn = first (l.going w.fields w.holds).holds more

      sum_below : n + length (label_text counted_turn.name around) + (length (write counted_turn.shape (around + 1)) + 1) < 2 ^ 64
      sum_below =
          omega (
            arith,
            w.room,
            length_closed (write_fields w.fields around),
            (l.going w.fields w.holds).whole,
            length_member counted_turn around,
            ap (λ (j : ℕ). length (write counted_turn.shape j)) (add-one around),
          )

      pub label_measurable : {k : ℕ} → k ≡ get_or shapes (i + 1) 0 → PrintableLabel pool k 0 around (2 ^ 64)
      label_measurable e =
          record {
            text = counted_turn.name;
            holds = subst (λ (k : ℕ). HoldsText pool k counted_turn.name) (sym e) counted_turn.label;
            room = omega (arith, sum_below);
          }

      pub inner_below : around + 2 < 2 ^ 64
      inner_below = omega (arith, sum_below, length_label counted_turn.name around)

      pub form_measurable : Printable shapes pool i 0 (around + 1) (2 ^ 64)
      form_measurable =
          record {
            shape = counted_turn.shape;
            holds = counted_turn.holds;
            room = omega (arith, sum_below);
            deep = omega (arith, inner_below);
          }

      pub label_below : {k a : ℕ} → k ≡ get_or shapes (i + 1) 0 → LengthOfLabel pool k around a → n + a < 2 ^ 64
      label_below e x =
          omega (
            arith,
            sum_below,
            x counted_turn.name (subst (λ (j : ℕ). HoldsText pool j counted_turn.name) (sym e) counted_turn.label),
          )

      pub turn_below
          : {k a b : ℕ} → k ≡ get_or shapes (i + 1) 0 → LengthOfLabel pool k around a → LengthOfForm shapes pool i (around + 1) b
          → n + a + (b + 1) < 2 ^ 64
      turn_below e x y =
          omega (
            arith,
            sum_below,
            x counted_turn.name (subst (λ (j : ℕ). HoldsText pool j counted_turn.name) (sym e) counted_turn.label),
            y counted_turn.shape counted_turn.holds,
          )
