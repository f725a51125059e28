-- The walk over the elements of a list. Assumes nothing.
use Prim.Native.Nat.{ℕ, ◌+◌, ◌≤◌, ◌<◌}
use mathlib.Core.Path.{◌≡◌, refl, sym, ap, ◌∙◌, subst}
use mathlib.Core.Bool.{Bool, true, false, ◌&&◌}
use mathlib.Core.List.{List}
use native.Mathlib.Omega.{arith}
use lib.ListN.{length}
use Rattle.definitions.specs.Value.{Value, Items, item}
use Rattle.definitions.specs.Shape.{Shape}
use Rattle.definitions.specs.Admits.{admits, admitted, admitted_items}
use Rattle.laws.specs.Bools.{and_two}
use Rattle.laws.specs.Distinct.{distinct, distinct_items}
use Rattle.nodes.specs.Nodes.{row_size}
use Rattle.nodes.specs.Standing.{ValueStands}
use Rattle.nodes.specs.StandingLaws.{size_some, value_size, value_within, first_item, no_item_left}
use Rattle.plain.specs.Table.{BoundedNumbers, BoundedItems, Used, Holds}
use Rattle.shapes.specs.Held.{HoldsShape}
use Rattle.admits.specs.Admission.{HoldsItems, ValueAsked, ValueTold, ItemsAsked, ItemsTold}

-- a value that stands in the table, as its reader has it
pub held_value
    : {nodes p pool : List ℕ} {at m : ℕ} {v : Value} → ValueStands nodes p at m v → Used pool p → BoundedNumbers v → Holds nodes pool at v
held_value {p} {m} s u b =
    record {
      used = p;
      stands = record { name = m; rows = s.rows; rest = s.rest; encoded = s.encoded; placed = s.placed };
      pooled = u;
      bounded = b;
    }

-- ---- the first element

pub record First (nodes pool : List ℕ) (i end : ℕ) (vs : Items) : Type 0 where
  pub value : Value
  pub others : Items
  pub same : vs ≡ item value others
  pub holds : Holds nodes pool i value
  pub wide : 3 ≤ row_size nodes i
  pub within : i + row_size nodes i ≤ length nodes
  pub inside : i + row_size nodes i ≤ end
  pub more : HoldsItems nodes pool (i + row_size nodes i) end others

pub first : {nodes pool : List ℕ} {i end : ℕ} {vs : Items} → HoldsItems nodes pool i end vs → i < end → First nodes pool i end vs
unfolding BoundedNumbers
first h more =
    let f = first_item h.stand more in
    let b : BoundedNumbers f.value × BoundedItems f.others = subst (λ (ws : Items). BoundedItems ws) f.same h.bounded in
    record {
      value = f.value;
      others = f.others;
      same = f.same;
      holds = held_value f.stands h.pooled b.0;
      wide = omega (arith, value_size f.stands, size_some f.value);
      within = omega (arith, value_size f.stands, value_within f.stands);
      inside = omega (arith, f.more.reaches);
      more = record { used = h.used; stand = f.more; pooled = h.pooled; bounded = b.1 };
    }

-- no name comes twice in it, nor in the others
pub first_once
    : {nodes pool : List ℕ} {i end : ℕ} {vs : Items} (f : First nodes pool i end vs) → distinct_items vs ≡ true
    → (distinct f.value ≡ true) × (distinct_items f.others ≡ true)
unfolding distinct
first_once f d = and_two (distinct f.value) (distinct_items f.others) (sym (ap distinct_items f.same) ∙ d)

-- ---- the walk

module _ (shapes : List ℕ) (row : ℕ) (nodes : List ℕ) (at end : ℕ) (pool : List ℕ) where
  pub record Left (i : ℕ) (s : Shape) (vs : Items) : Type 0 where
    pub others : Items
    pub holds : HoldsItems nodes pool i end others
    pub alike : admitted_items vs s ≡ admitted_items others s
    pub once : distinct_items vs ≡ true → distinct_items others ≡ true

  pub record Walking (i : ℕ) : Type 0 where
    pub ahead : at ≤ i
    pub left : (s : Shape) → HoldsShape shapes pool row s → (vs : Items) → HoldsItems nodes pool at end vs → Left i s vs

  pub walk_begins : Walking at
  walk_begins = record { ahead = omega arith; left = λ s h vs k. record { others = vs; holds = k; alike = refl; once = λ d. d } }

  module _ {i : ℕ} (w : Walking i) (more : i < end) where
    next : (a : ItemsAsked shapes row nodes at end pool) → First nodes pool i end (w.left a.shape a.held a.items a.holds).others
    next a = first (w.left a.shape a.held a.items a.holds).holds more

    pub walk_asks : ItemsAsked shapes row nodes at end pool → ValueAsked shapes row nodes i pool
    walk_asks a =
        record {
          shape = a.shape;
          held = a.held;
          value = (next a).value;
          holds = (next a).holds;
          once = (first_once (next a) ((w.left a.shape a.held a.items a.holds).once a.once)).0;
        }

    pub walk_step
        : ItemsAsked shapes row nodes at end pool
        → (3 ≤ row_size nodes i) × (i + row_size nodes i ≤ length nodes) × (i + row_size nodes i ≤ end)
    walk_step a = ((next a).wide, (next a).within, (next a).inside)

    module _ {r : Bool} (told : ValueTold shapes row nodes i pool r) where
      step_told
          : (s : Shape) → HoldsShape shapes pool row s → {vs : Items} (m : Left i s vs)
          → admitted_items vs s ≡ (r && admitted_items (first m.holds more).others s)
      unfolding admitted admits
      step_told s h m =
          let f = first m.holds more in
          m.alike
          ∙ ap (λ (ws : Items). admitted_items ws s) f.same
          ∙ ap (λ (b : Bool). b && admitted_items f.others s) (sym (told s h f.value f.holds))

      pub walk_fails : r ≡ false → ItemsTold shapes row nodes at end pool false
      walk_fails e s h vs k =
          let m = w.left s h vs k in
          sym (step_told s h m ∙ ap (λ (b : Bool). b && admitted_items (first m.holds more).others s) e)

      pub walk_on : {n : ℕ} → r ≡ true → n ≡ row_size nodes i → Walking (i + n)
      walk_on e s =
          subst (λ (n : ℕ). Walking (i + n)) (sym s)
          (record {
            ahead = omega (arith, w.ahead);
            left = λ t h vs k.
                let m = w.left t h vs k in
                record {
                  others = (first m.holds more).others;
                  holds = (first m.holds more).more;
                  alike =
                      step_told t h m
                      ∙ ap (λ (b : Bool). b && admitted_items (first m.holds more).others t) e;
                  once = λ d. (first_once (first m.holds more) (m.once d)).1;
                };
          })

  pub walk_ends : {i : ℕ} → Walking i → end ≤ i → ItemsTold shapes row nodes at end pool true
  unfolding admitted
  walk_ends w past s h vs k =
      let m = w.left s h vs k in sym (m.alike ∙ ap (λ (ws : Items). admitted_items ws s) (no_item_left m.holds.stand past))
