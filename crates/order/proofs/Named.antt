-- The walk over the members of the first shape. Assumes nothing.
use Prim.Native.Nat.{ℕ, ◌+◌, ◌≤◌, ◌<◌}
use mathlib.Core.Path.{◌≡◌, refl, sym, ap, ◌∙◌, subst}
use mathlib.Core.Bool.{Bool, true, false, ◌&&◌}
use mathlib.Core.List.{List}
use mathlib.Core.Option.{Option, none, some}
use native.Mathlib.Omega.{arith}
use lib.ListN.{get_or}
use Rattle.definitions.specs.Bytes.{Bytes}
use Rattle.definitions.specs.Shape.{Shape, Fields, field, find, levels, levels_fields}
use Rattle.definitions.specs.Order.{below, below_fields}
use Rattle.shapes.specs.Shapes.{size_at}
use Rattle.std.specs.Prelude as std
use Rattle.std.specs.Prelude.{Some, None}
use Rattle.shapes.specs.Members.{Tells, Found_at, Names}
use Rattle.shapes.specs.Held.{HoldsFields}
use Rattle.shapes.specs.HeldLaws.{names_of, held_within, found_held, FirstField, first_field, no_field_left}
use Rattle.order.specs.Comparing.{ShapesAsked, ShapesTold, FieldsAsked, FieldsTold}

-- ---- the first member apart

-- a shape is below the one listed
abbrev below_listed : Shape → Option Shape → Bool
below_listed a none = false
below_listed a (some b) = below a b

below_field
    : (n : Bytes) (a : Shape) (fs gs : Fields) → below_fields (field n a fs) gs ≡ (below_listed a (find n gs) && below_fields fs gs)
unfolding below
below_field n a fs gs = go (find n gs)
  where
    go
        : (o : Option Shape)
        → (elim o as (λ x. Bool) [ none ↦ false | some b ↦ below a b ] && below_fields fs gs) ≡ (below_listed a o && below_fields fs gs)
    go none = refl
    go (some b) = refl

first_level : (n : Bytes) (a : Shape) (fs : Fields) {left : ℕ} → levels_fields (field n a fs) ≤ left → levels a ≤ left
unfolding levels
first_level n a fs h = omega arith

other_levels : (n : Bytes) (a : Shape) (fs : Fields) {left : ℕ} → levels_fields (field n a fs) ≤ left → levels_fields fs ≤ left
unfolding levels
other_levels n a fs h = omega arith

-- ---- the walk

module _ (first : List ℕ) (from to : ℕ) (second : List ℕ) (at end : ℕ) (pool : List ℕ) where
  pub record Left (i : ℕ) (fs gs : Fields) : Type 0 where
    pub others : Fields
    pub holds : HoldsFields first pool i to others
    pub alike : below_fields fs gs ≡ below_fields others gs
    pub deep : {left : ℕ} → levels_fields fs ≤ left → levels_fields others ≤ left

  pub record Walking (i : ℕ) : Type 0 where
    pub left
        : (fs : Fields) → HoldsFields first pool from to fs → (gs : Fields) → HoldsFields second pool at end gs → Left i fs gs

  pub walk_begins : Walking from
  walk_begins = record { left = λ fs h gs k. record { others = fs; holds = h; alike = refl; deep = λ d. d } }

  module _ {i : ℕ} (w : Walking i) (more : i < to) where
    next : {nesting : ℕ} (a : FieldsAsked first from to second at end pool nesting)
        → FirstField first pool i to (w.left a.asked.fields a.asked.held a.asked.others a.asked.holds).others
    next a = first_field (w.left a.asked.fields a.asked.held a.asked.others a.asked.holds).holds more

    pub walk_step
        : {nesting : ℕ} → FieldsAsked first from to second at end pool nesting → (2 ≤ size_at first i) × (i + size_at first i ≤ to)
    walk_step a = ((held_within (next a).held).0, (next a).inside)

    module _ (m : std.Option ℕ) {k : ℕ} (at_row : k ≡ get_or first (i + 1) 0) (names : Names second at end pool k m) where
      -- what the search tells of the first member
      tells
          : {gs : Fields} (k : HoldsFields second pool at end gs) {os : Fields} (h : HoldsFields first pool i to os)
          → Tells second k.used end (first_field h more).name gs m
      tells {gs} k h =
          subst (λ (t : Bytes). Tells second k.used end t gs m) (first_field h more).text (names_of m at_row names k.used gs k.listed)

      step
          : {fs gs : Fields} (l : Left i fs gs)
          → below_fields fs gs
          ≡ (below_listed (first_field l.holds more).shape (find (first_field l.holds more).name gs)
          && below_fields (first_field l.holds more).others gs)
      step {gs} l =
          let f = first_field l.holds more in
          l.alike
          ∙ ap (λ (os : Fields). below_fields os gs) f.same
          ∙ below_field f.name f.shape f.others gs

      pub walk_misses : m ≡ None → FieldsTold first from to second at end pool false
      walk_misses e fs h gs k =
          let l = w.left fs h gs k in
          let f = first_field l.holds more in
          let t : find f.name gs ≡ none =
          subst (λ (x : std.Option ℕ). Tells second k.used end f.name gs x) e (tells k l.holds) in
          sym (step l ∙ ap (λ (o : Option Shape). below_listed f.shape o && below_fields f.others gs) t)

      module _ {row : ℕ} (e : m ≡ Some row) where
        found_at
            : {gs : Fields} (k : HoldsFields second pool at end gs) {os : Fields} (h : HoldsFields first pool i to os)
            → Found_at second k.used end (first_field h more).name gs row
        found_at {gs} k h =
            subst (λ (x : std.Option ℕ). Tells second k.used end (first_field h more).name gs x) e (tells k h)

        pub walk_asks : {nesting : ℕ} → FieldsAsked first from to second at end pool nesting → ShapesAsked first i second row pool nesting
        walk_asks {nesting} a =
            let l = w.left a.asked.fields a.asked.held a.asked.others a.asked.holds in
            let f = next a in
            record {
              shape = f.shape;
              held = f.held;
              other = (found_at a.asked.holds l.holds).shape;
              holds = found_held a.asked.holds (found_at a.asked.holds l.holds);
              deep =
                  first_level f.name f.shape f.others
                  (subst (λ (os : Fields). levels_fields os ≤ nesting) f.same (l.deep a.deep));
            }

        module _ {r : Bool} (told : ShapesTold first i second row pool r) where
          step_told
              : {fs gs : Fields} (k : HoldsFields second pool at end gs) (l : Left i fs gs)
              → below_fields fs gs ≡ (r && below_fields (first_field l.holds more).others gs)
          step_told {gs} k l =
              let f = first_field l.holds more in
              let g = found_at k l.holds in
              step l
              ∙ ap (λ (o : Option Shape). below_listed f.shape o && below_fields f.others gs) g.found
              ∙ ap (λ (b : Bool). b && below_fields f.others gs) (sym (told f.shape f.held g.shape (found_held k g)))

          pub walk_fails : r ≡ false → FieldsTold first from to second at end pool false
          walk_fails x fs h gs k =
              let l = w.left fs h gs k in
              sym (step_told k l ∙ ap (λ (b : Bool). b && below_fields (first_field l.holds more).others gs) x)

          pub walk_on : {n : ℕ} → r ≡ true → n ≡ size_at first i → Walking (i + n)
          walk_on x s =
              subst (λ (n : ℕ). Walking (i + n)) (sym s)
              (record {
                left = λ fs h gs k.
                    let l = w.left fs h gs k in
                    let f = first_field l.holds more in
                    record {
                      others = f.others;
                      holds = f.more;
                      alike = step_told k l ∙ ap (λ (b : Bool). b && below_fields f.others gs) x;
                      deep = λ {left = nesting} d.
                          other_levels f.name f.shape f.others
                          (subst (λ (os : Fields). levels_fields os ≤ nesting) f.same (l.deep d));
                    };
              })

  pub walk_ends : {i : ℕ} → Walking i → to ≤ i → FieldsTold first from to second at end pool true
  unfolding below
  walk_ends w past fs h gs k =
      let l = w.left fs h gs k in sym (l.alike ∙ ap (λ (os : Fields). below_fields os gs) (no_field_left l.holds past))
