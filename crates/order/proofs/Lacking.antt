-- Members of the second shape that the first lacks: the walk over them. Assumes nothing.
use Prim.Native.Nat.{ℕ, ◌+◌, ◌/◌, ◌%◌, ◌≤◌, ◌<◌}
use mathlib.Core.Path.{◌≡◌, refl, sym, ap, ap₂, ◌∙◌, subst}
use mathlib.Core.Bool.{Bool, true, false, ◌&&◌, ◌||◌}
use mathlib.Core.List.{List}
use mathlib.Core.Option.{Option, none}
use lib.ListN.{get_or}
use Rattle.definitions.specs.Bytes.{Bytes, found}
use Rattle.definitions.specs.Shape.{Kind, Shape, Fields, find}
use Rattle.definitions.specs.Order.{lacked_have_null}
use Rattle.laws.specs.Bools.{or_right}
use Rattle.pool.specs.Pool.{text_in}
use Rattle.shapes.specs.Shapes.{kind_bit, has_bit, size_at}
use Rattle.std.specs.Prelude as std
use Rattle.std.specs.Prelude.{Some, None}
use Rattle.shapes.specs.Members.{Found_at, Names}
use Rattle.shapes.specs.Held.{HoldsFields}
use Rattle.shapes.specs.HeldLaws.{names_of, held_has, held_within, first_field, no_field_left}
use Rattle.order.specs.Comparing.{ListedAsked, Lacks, NullsTold}

-- ---- one member

module _ (first : List ℕ) (from to : ℕ) (second : List ℕ) (row : ℕ) (pool : List ℕ) where
  -- the name of the shape at the row
  abbrev name_there : Bytes
  name_there = text_in pool (get_or second (row + 1) 0 % 65536) (get_or second (row + 1) 0 / 65536)

  module _ {k : ℕ} {b : Bool} (e : k ≡ get_or second row 0 % 128) (f : b ≡ has_bit k 1) where
    pub null_told : b ≡ true → Lacks first from to second row pool true
    null_told g fs h =
        sym (or_right (found (find name_there fs)) (ap (λ (x : ℕ). has_bit x 1) (sym e) ∙ sym f ∙ g))

    pub named_told
        : b ≡ false → (m : std.Option ℕ) {i : ℕ} → i ≡ get_or second (row + 1) 0 → Names first from to pool i m
        → Lacks first from to second row pool (std.is_some m)
    unfolding found
    named_told g (Some n) at_row names fs h =
        let t : Found_at first h.used to name_there fs _ = names_of (Some n) at_row names h.used fs h.listed in
        sym (ap (λ (o : Option Shape). found o || has_bit (get_or second row 0 % 128) 1) t.found)
    named_told g None at_row names fs h =
        let t : find name_there fs ≡ none = names_of None at_row names h.used fs h.listed in
        sym
        (ap (λ (o : Option Shape). found o || has_bit (get_or second row 0 % 128) 1) t
        ∙ ap (λ (y : ℕ). has_bit y 1) (sym e)
        ∙ sym f
        ∙ g)

-- ---- the walk

module _ (first : List ℕ) (from to : ℕ) (second : List ℕ) (at end : ℕ) (pool : List ℕ) where
  pub record Left (i : ℕ) (fs gs : Fields) : Type 0 where
    pub others : Fields
    pub holds : HoldsFields second pool i end others
    pub alike : lacked_have_null fs gs ≡ lacked_have_null fs others

  pub record Walking (i : ℕ) : Type 0 where
    pub left
        : (fs : Fields) → HoldsFields first pool from to fs → (gs : Fields) → HoldsFields second pool at end gs → Left i fs gs

  pub walk_begins : Walking at
  walk_begins = record { left = λ fs h gs k. record { others = gs; holds = k; alike = refl } }

  module _ {i : ℕ} (w : Walking i) where
    pub walk_step
        : ListedAsked first from to second at end pool → i < end → (2 ≤ size_at second i) × (i + size_at second i ≤ end)
    walk_step a more =
        let f = first_field (w.left a.fields a.held a.others a.holds).holds more in
        ((held_within f.held).0, f.inside)

    module _ {r : Bool} (l : Lacks first from to second i pool r) (more : i < end) where
      -- the first member apart
      step_told
          : (fs : Fields) → HoldsFields first pool from to fs → {gs : Fields} (m : Left i fs gs)
          → lacked_have_null fs gs ≡ (r && lacked_have_null fs (first_field m.holds more).others)
      unfolding lacked_have_null kind_bit
      step_told fs h m =
          let f = first_field m.holds more in
          m.alike
          ∙ ap (lacked_have_null fs) f.same
          ∙ ap (λ (b : Bool). b && lacked_have_null fs f.others)
          (sym (l fs h ∙ ap₂ (λ (n : Bytes) (b : Bool). found (find n fs) || b) f.text (held_has Kind.null f.held)))

      pub walk_fails : r ≡ false → NullsTold first from to second at end pool false
      walk_fails e fs h gs k =
          let m = w.left fs h gs k in
          sym (step_told fs h m ∙ ap (λ (b : Bool). b && lacked_have_null fs (first_field m.holds more).others) e)

      pub walk_on : {n : ℕ} → r ≡ true → n ≡ size_at second i → Walking (i + n)
      walk_on e s =
          subst (λ (n : ℕ). Walking (i + n)) (sym s)
          (record {
            left = λ fs h gs k.
                let m = w.left fs h gs k in
                record {
                  others = (first_field m.holds more).others;
                  holds = (first_field m.holds more).more;
                  alike =
                      step_told fs h m
                      ∙ ap (λ (b : Bool). b && lacked_have_null fs (first_field m.holds more).others) e;
                };
          })

    pub walk_ends : end ≤ i → NullsTold first from to second at end pool true
    unfolding lacked_have_null
    walk_ends past fs h gs k =
        let m = w.left fs h gs k in sym (m.alike ∙ ap (lacked_have_null fs) (no_field_left m.holds past))
