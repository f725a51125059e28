-- Members that a value lacks: the walk over the members of a shape. Assumes nothing.
use Prim.Native.Nat.{ℕ, ◌+◌, ◌/◌, ◌%◌, ◌≤◌, ◌<◌}
use mathlib.Core.Path.{◌≡◌, refl, sym, ap, ap₂, ◌∙◌, subst}
use mathlib.Core.Bool.{Bool, true, false, ◌&&◌, ◌||◌}
use mathlib.Core.List.{List}
use lib.ListN.{length, take, get_or}
use Rattle.definitions.specs.Bytes.{Bytes}
use Rattle.definitions.specs.Value.{Members, has_name}
use Rattle.definitions.specs.Shape.{Kind, Fields, has}
use Rattle.definitions.specs.Admits.{missing_have_null}
use Rattle.laws.specs.Bools.{or_right, or_second}
use Rattle.pool.specs.Pool.{text_in}
use Rattle.nodes.specs.Standing.{MembersStand, MembersHeld}
use Rattle.shapes.specs.Shapes.{kind_bit, has_bit, size_at}
use Rattle.shapes.specs.Held.{HoldsFields}
use Rattle.shapes.specs.HeldLaws.{held_has, held_within, first_field, no_field_left}
use Rattle.admits.specs.Admission.{HoldsMembers, MembersAsked, Lacks}

-- what looking for a member asks
pub members_held : {nodes pool : List ℕ} {at end : ℕ} {ms : Members} → HoldsMembers nodes pool at end ms → MembersHeld nodes pool at end
members_held {ms} h =
    record { used = h.used; members = ms; front = h.pooled.front; small = h.pooled.small; stand = h.stand }

-- ---- one member

-- it has null
pub null_told
    : (shapes : List ℕ) (row : ℕ) {nodes : List ℕ} {at end : ℕ} {pool : List ℕ} {k : ℕ} {b : Bool} → k ≡ get_or shapes row 0 % 128
    → b ≡ has_bit k 1 → b ≡ true → Lacks shapes row nodes at end pool true
null_told shapes row {pool} e f g ms h =
    sym
    (or_right (has_name (text_in pool (get_or shapes (row + 1) 0 % 65536) (get_or shapes (row + 1) 0 / 65536)) ms)
    (ap (λ (x : ℕ). has_bit x 1) (sym e) ∙ sym f ∙ g))

-- it has none
pub member_told
    : (shapes : List ℕ) (row : ℕ) {nodes : List ℕ} {at end : ℕ} {pool : List ℕ} {k name : ℕ} {b r : Bool} → k ≡ get_or shapes row 0 % 128
    → b ≡ has_bit k 1 → b ≡ false → name ≡ get_or shapes (row + 1) 0
    → ((p : List ℕ) (ms : Members) → take (length p) pool ≡ p → length p < 65536 → MembersStand nodes p at end ms
    → r ≡ has_name (text_in pool (name % 65536) (name / 65536)) ms)
    → Lacks shapes row nodes at end pool r
member_told shapes row {pool} e f g n t ms h =
    t h.used ms h.pooled.front h.pooled.small h.stand
    ∙ ap (λ (x : ℕ). has_name (text_in pool (x % 65536) (x / 65536)) ms) n
    ∙ or_second (has_name (text_in pool (get_or shapes (row + 1) 0 % 65536) (get_or shapes (row + 1) 0 / 65536)) ms)
    (ap (λ (x : ℕ). has_bit x 1) (sym e) ∙ sym f ∙ g)

-- ---- the walk

module _ (shapes : List ℕ) (from to : ℕ) (nodes : List ℕ) (at end : ℕ) (pool : List ℕ) where
  pub record Left (i : ℕ) (fs : Fields) (ms : Members) : Type 0 where
    pub others : Fields
    pub holds : HoldsFields shapes pool i to others
    pub alike : missing_have_null ms fs ≡ missing_have_null ms others

  pub record Walking (i : ℕ) : Type 0 where
    pub left
        : (fs : Fields) → HoldsFields shapes pool from to fs → (ms : Members) → HoldsMembers nodes pool at end ms → Left i fs ms

  pub walk_begins : Walking from
  walk_begins = record { left = λ fs h ms k. record { others = fs; holds = h; alike = refl } }

  module _ {i : ℕ} (w : Walking i) where
    pub walk_step
        : MembersAsked shapes from to nodes at end pool → i < to → (2 ≤ size_at shapes i) × (i + size_at shapes i ≤ to)
    walk_step a more =
        let f = first_field (w.left a.fields a.held a.members a.holds).holds more in ((held_within f.held).0, f.inside)

    module _ {r : Bool} (l : Lacks shapes i nodes at end pool r) (more : i < to) where
      -- what the test says of the first member
      first_told : {gs : Fields} (h : HoldsFields shapes pool i to gs) (ms : Members) → HoldsMembers nodes pool at end ms
          → (has_name (first_field h more).name ms || has Kind.null (first_field h more).shape) ≡ r
      unfolding kind_bit
      first_told h ms k =
          let f = first_field h more in
          sym (l ms k ∙ ap₂ (λ (n : Bytes) (b : Bool). has_name n ms || b) f.text (held_has Kind.null f.held))

      step_told
          : (fs : Fields) → HoldsFields shapes pool from to fs → (ms : Members) → HoldsMembers nodes pool at end ms
          → (m : Left i fs ms) → missing_have_null ms fs ≡ (r && missing_have_null ms (first_field m.holds more).others)
      unfolding missing_have_null
      step_told fs h ms k m =
          let f = first_field m.holds more in
          m.alike
          ∙ ap (missing_have_null ms) f.same
          ∙ ap (λ (b : Bool). b && missing_have_null ms f.others) (first_told m.holds ms k)

      pub walk_fails
          : r ≡ false → (fs : Fields) → HoldsFields shapes pool from to fs → (ms : Members) → HoldsMembers nodes pool at end ms
          → false ≡ missing_have_null ms fs
      walk_fails e fs h ms k =
          let m = w.left fs h ms k in
          sym (step_told fs h ms k m ∙ ap (λ (b : Bool). b && missing_have_null ms (first_field m.holds more).others) e)

      pub walk_on : {n : ℕ} → r ≡ true → n ≡ size_at shapes i → Walking (i + n)
      walk_on e s =
          subst (λ (n : ℕ). Walking (i + n)) (sym s)
          (record {
            left = λ fs h ms k.
                let m = w.left fs h ms k in
                record {
                  others = (first_field m.holds more).others;
                  holds = (first_field m.holds more).more;
                  alike =
                      step_told fs h ms k m
                      ∙ ap (λ (b : Bool). b && missing_have_null ms (first_field m.holds more).others) e;
                };
          })

    pub walk_ends
        : to ≤ i → (fs : Fields) → HoldsFields shapes pool from to fs → (ms : Members) → HoldsMembers nodes pool at end ms
        → true ≡ missing_have_null ms fs
    unfolding missing_have_null
    walk_ends past fs h ms k =
        let m = w.left fs h ms k in sym (m.alike ∙ ap (missing_have_null ms) (no_field_left m.holds past))
