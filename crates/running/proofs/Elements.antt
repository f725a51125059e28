-- The elements of a value: where they end, how many they are, and how long in plain JSON. Assumes nothing.
use Prim.Native.Nat.{ℕ, ◌+◌, ◌*◌, ◌/◌, ◌%◌, ◌≤◌, ◌<◌}
use native.Mathlib.Omega.{arith}
use mathlib.Core.Path.{◌≡◌, refl, sym, ap, ◌∙◌, subst}
use mathlib.Core.Bool.{true, false}
use mathlib.Core.List.{List, []}
use lib.ListN.{length, get_or, drop, length-append, length-drop}
use Rattle.definitions.specs.Value.{Value, Items, no_items, count, size_items}
use Rattle.definitions.specs.Plain.{plain}
use Rattle.definitions.specs.Running.{items_of}
use Rattle.nodes.specs.Nodes.{kind_code, row_size, no_item_rows}
use Rattle.nodes.specs.NodesLaws.{length_item_rows}
use Rattle.nodes.specs.Standing.{ValueStands, ItemsStand}
use Rattle.nodes.specs.StandingLaws.{size_some, value_head, value_size, value_within, list_stands, first_item, no_item_left}
use Rattle.plain.specs.HeadLaws.{bits_small, head_length}
use Rattle.plain.specs.PlainLaws.{items_length}
use Rattle.plain.specs.Table.{BoundedNumbers, BoundedItems}
use Rattle.running.specs.Bindings.{Bound, standing}
use Rattle.running.specs.BindingsLaws.{bound_kind, bound_within}
use Rattle.running.specs.Lengths.{items_most}
use Rattle.running.specs.Rows.{SomeBound, EndsItems, ItemsAt, SomeItems}

-- ---- where they end

-- of all but a list
no_items_at
    : (nodes p : List ℕ) (at : ℕ) → at ≤ length nodes → (v : Value) → items_of v ≡ no_items → EndsItems nodes p at v (at + 3)
unfolding BoundedNumbers
no_items_at nodes p at h v e =
    record {
      stand = subst (λ (vs : Items). ItemsStand nodes p (at + 3) (at + 3) vs) (sym e)
          (record { rows = []; rest = drop (at + 3) nodes; encoded = no_item_rows; placed = refl; reaches = omega arith });
      bounded = subst BoundedItems (sym e) tt;
      near = omega arith;
    }

pub ends_none
    : {nodes : List ℕ} {at kind : ℕ} → kind ≡ get_or nodes at 0 % 8 → (kind ≡ 5 → ⊥) → (p : List ℕ) (v : Value) → Bound nodes p at v
    → EndsItems nodes p at v (at + 3)
unfolding items_of kind_code
ends_none {nodes} {at} k n p Value.null b = no_items_at nodes p at (bound_within b) Value.null refl
ends_none {nodes} {at} k n p (Value.bool x) b = no_items_at nodes p at (bound_within b) (Value.bool x) refl
ends_none {nodes} {at} k n p (Value.number x) b = no_items_at nodes p at (bound_within b) (Value.number x) refl
ends_none {nodes} {at} k n p (Value.text t) b = no_items_at nodes p at (bound_within b) (Value.text t) refl
ends_none {nodes} {at} k n p (Value.list vs) b = absurd (n (k ∙ bound_kind b))
ends_none {nodes} {at} k n p (Value.rec ms) b = no_items_at nodes p at (bound_within b) (Value.rec ms) refl

data IsList : Value → Type 0 where
  is_list : {vs : Items} → IsList (Value.list vs)

list_of_kind : (v : Value) → kind_code v ≡ 5 → IsList v
unfolding kind_code
list_of_kind Value.null e = absurd (let z : ⊥ = omega (arith, e) in z)
list_of_kind (Value.bool true) e = absurd (let z : ⊥ = omega (arith, e) in z)
list_of_kind (Value.bool false) e = absurd (let z : ⊥ = omega (arith, e) in z)
list_of_kind (Value.number x) e = absurd (let z : ⊥ = omega (arith, e) in z)
list_of_kind (Value.text t) e = absurd (let z : ⊥ = omega (arith, e) in z)
list_of_kind (Value.list vs) e = is_list
list_of_kind (Value.rec ms) e = absurd (let z : ⊥ = omega (arith, e) in z)

pub ends_list
    : {nodes : List ℕ} {at kind n : ℕ} → kind ≡ get_or nodes at 0 % 8 → kind ≡ 5 → n ≡ row_size nodes at → (p : List ℕ) (v : Value)
    → Bound nodes p at v → EndsItems nodes p at v (at + n)
unfolding items_of BoundedNumbers
ends_list {nodes} {at} {kind} {n} k e r p v b = go (list_of_kind v (sym (k ∙ bound_kind b) ∙ e)) b
  where
    go : {w : Value} → IsList w → Bound nodes p at w → EndsItems nodes p at w (at + n)
    go (is_list {vs}) (standing s bd) =
        record {
          stand = subst (λ (m : ℕ). ItemsStand nodes p (at + 3) (at + m) vs) (sym r) (list_stands s);
          bounded = bd;
          near = omega (arith, r, value_size s, value_within s);
        }

pub list_within
    : {nodes : List ℕ} {at kind begun : ℕ} → SomeBound nodes at begun → kind ≡ get_or nodes at 0 % 8 → kind ≡ 5 → at + row_size nodes at ≤ 65539
list_within {nodes} {at} b k e = omega (arith, (ends_list k e refl b.used b.value b.bound).near, b.small)

-- ---- how many they are

module _ (nodes : List ℕ) (at end : ℕ) where
  pub record Counting (i n : ℕ) : Type 0 where
    pub counted
        : (p : List ℕ) (v : Value) → Bound nodes p at v
        → (left : Items) × ItemsStand nodes p i end left × (n + count left ≡ count (items_of v)) × (n ≤ i)

  pub counting : ((p : List ℕ) (v : Value) → Bound nodes p at v → EndsItems nodes p at v end) → Counting (at + 3) 0
  counting h = record { counted = λ p v b. (items_of v, (h p v b).stand, omega arith, omega arith) }

  module _ {i n : ℕ} (w : Counting i n) where
    pub count_step
        : {begun : ℕ} → SomeBound nodes at begun → i < end
        → (3 ≤ row_size nodes i) × (i + row_size nodes i ≤ 65536) × (n ≤ i)
    count_step b more =
        let l = w.counted b.used b.value b.bound in
        let f = first_item l.1 more in
        let e = value_size f.stands in
        (omega (arith, e, size_some f.value), omega (arith, e, value_within f.stands, b.small), l.3)

    pub count_on : {m : ℕ} → i < end → m ≡ row_size nodes i → Counting (i + m) (n + 1)
    unfolding count
    count_on more e =
        subst (λ (m : ℕ). Counting (i + m) (n + 1)) (sym e)
        (record {
          counted = λ p v b.
              let l = w.counted p v b in
              let f = first_item l.1 more in
              (f.others, f.more, omega (arith, l.2, ap count f.same), omega (arith, l.3, value_size f.stands, size_some f.value));
        })

    pub count_ends : end ≤ i → (p : List ℕ) (v : Value) → Bound nodes p at v → n ≡ count (items_of v)
    unfolding count
    count_ends past p v b =
        let l = w.counted p v b in
        omega (arith, l.2, ap count (no_item_left l.1 past))

-- ---- how long they are

pub written_at
    : {nodes p : List ℕ} {at m n : ℕ} {v : Value} → ValueStands nodes p at m v → BoundedNumbers v → n ≡ get_or nodes at 0 / 256 → n ≡ length (plain v)
written_at {v = v} s b e = e ∙ ap (λ (h : ℕ). h / 256) (value_head s) ∙ head_length v (bits_small v b)

module _ (results : List ℕ) (row end : ℕ) where
  -- those left at row i, behind so many bytes
  pub record ItemsLeft (i length' : ℕ) (p : List ℕ) (vs : Items) : Type 0 where
    pub left : Items
    pub held : ItemsAt results i end p left
    pub whole : length' + items_length left ≡ items_length vs

  pub record Measuring (i length' : ℕ) : Type 0 where
    pub going : (p : List ℕ) (vs : Items) → ItemsAt results row end p vs → ItemsLeft i length' p vs

  pub measuring : Measuring row 0
  measuring = record { going = λ p vs h. record { left = vs; held = h; whole = omega arith } }

  module _ {i length' : ℕ} (w : Measuring i length') where
    pub item_bounds
        : SomeItems results row end → i < end → {n : ℕ} → n ≡ get_or results i 0 / 256
        → (3 ≤ row_size results i) × (i + row_size results i ≤ 65536) × (length' + 1 + n ≤ 8388608 * 65536)
    unfolding items_length BoundedNumbers
    item_bounds s more e =
        let l = w.going s.used s.items s.held in
        let f = first_item l.held.stand more in
        let bd : BoundedNumbers f.value × BoundedItems f.others = subst BoundedItems f.same l.held.bounded in
        let z = value_size f.stands in
        let t = items_most s.held.stand.encoded s.pooled s.held.bounded in
        let k = length_item_rows s.held.stand.encoded in (
          omega (arith, z, size_some f.value),
          omega (arith, z, value_within f.stands, s.small),
          omega (arith, l.whole, ap items_length f.same, written_at f.stands bd.0 e, t, k, items_within s),
        )
      where
        items_within : (s : SomeItems results row end) → 3 * size_items s.items ≤ 65536
        items_within q =
            let h = q.held.stand in
            omega (arith, length-drop row results, ap length h.placed, length-append h.rows h.rest, length_item_rows h.encoded, q.small)

    pub measure_on : {n m : ℕ} → i < end → n ≡ get_or results i 0 / 256 → m ≡ row_size results i → Measuring (i + m) (length' + (1 + n))
    unfolding items_length BoundedNumbers
    measure_on {n} more e f =
        subst (λ (m : ℕ). Measuring (i + m) (length' + (1 + n))) (sym f)
        (record {
          going = λ p vs h.
              let l = w.going p vs h in
              let g = first_item l.held.stand more in
              let bd : BoundedNumbers g.value × BoundedItems g.others = subst BoundedItems g.same l.held.bounded in
              record {
                left = g.others;
                held = record { stand = g.more; bounded = bd.1 };
                whole = omega (arith, l.whole, ap items_length g.same, written_at g.stands bd.0 e);
              };
        })

    pub measured : end ≤ i → (p : List ℕ) (vs : Items) → ItemsAt results row end p vs → length' ≡ items_length vs
    unfolding items_length
    measured past p vs h =
        let l = w.going p vs h in
        omega (arith, l.whole, ap items_length (no_item_left l.held.stand past))
