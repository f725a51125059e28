-- The walk that counts members. Assumes nothing.
use Prim.Native.Nat.{ℕ, ◌+◌, ◌≤◌, ◌<◌}
use mathlib.Core.Path.{◌≡◌, sym, subst}
use mathlib.Core.List.{List}
use native.Mathlib.Omega.{arith}
use lib.ListN.{length}
use Rattle.definitions.specs.Shape.{Fields, no_fields, field}
use Rattle.shapes.specs.Shapes.{FieldsStand, size_at}
use Rattle.shapes.specs.ShapesLaws.{SomeFields, some_fields, fields_left, fields_rest, fields_some}
use Rattle.shapes.specs.Members.{SomeStand, field_count}
use Rattle.shapes.proofs.Searches.{fields_step}

module _ (shapes : List ℕ) (from end : ℕ) where
  -- what is left to count at a row
  pub record Left (row count : ℕ) (p : List ℕ) (fs : Fields) : Type 0 where
    pub others : Fields
    pub stand : FieldsStand shapes p row end others
    pub sum : field_count fs ≡ field_count others + count

  pub record Counting (row count : ℕ) : Type 0 where
    pub few : count ≤ row
    pub left : (p : List ℕ) (fs : Fields) → FieldsStand shapes p from end fs → Left row count p fs

  pub count_begins : Counting from 0
  count_begins = record { few = omega arith; left = λ p fs s. record { others = fs; stand = s; sum = omega arith } }

  module _ {row count : ℕ} (w : Counting row count) where
    pub count_step
        : SomeStand shapes from end → row < end
        → (2 ≤ size_at shapes row) × (row + size_at shapes row ≤ end) × (row + 2 ≤ length shapes)
    count_step h more = fields_step (w.left h.used h.fields h.stand).stand more

    next : {p : List ℕ} {fs gs : Fields} → FieldsStand shapes p row end gs → SomeFields gs → field_count fs ≡ field_count gs + count
        → Left (row + size_at shapes row) (count + 1) p fs
    unfolding field_count
    next s (some_fields {fs = os}) e = record { others = os; stand = fields_rest s; sum = omega (arith, e) }

    pub count_on : SomeStand shapes from end → {n : ℕ} → row < end → n ≡ size_at shapes row → Counting (row + n) (count + 1)
    count_on h more e =
        subst (λ (n : ℕ). Counting (row + n) (count + 1)) (sym e)
        (record {
          few = omega (arith, w.few, (count_step h more).0);
          left = λ p fs s. let l = w.left p fs s in next l.stand (fields_left l.stand more) l.sum;
        })

    pub count_ends : end ≤ row → (p : List ℕ) (fs : Fields) → FieldsStand shapes p from end fs → count ≡ field_count fs
    unfolding field_count
    count_ends past p fs s = let l = w.left p fs s in none l.stand (field_count fs) l.sum
      where
        none : {p : List ℕ} {gs : Fields} → FieldsStand shapes p row end gs → (all : ℕ) → all ≡ field_count gs + count → count ≡ all
        none {gs = no_fields} s all e = omega (arith, e)
        none {gs = field m a gs} s all e = absurd (let z : ⊥ = omega (arith, fields_some s) in z)
