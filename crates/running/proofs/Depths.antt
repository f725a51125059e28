-- How deep the parts of a value are nested. Assumes nothing.
use Prim.Native.Nat.{ℕ, suc, ◌+◌, ◌-◌, ◌%◌, ◌≤◌, ◌<◌, max}
use native.Mathlib.Omega.{arith}
use mathlib.Core.Path.{◌≡◌, refl, sym, ap, ◌∙◌, subst}
use mathlib.Core.Bool.{Bool, true, false}
use mathlib.Core.List.{List, [], ◌++◌, append_assoc}
use borrow.Author.Tests.{ltb-true, ltb-false, lt-ltb, le-ltb}
use lib.Dec.{ltb}
use lib.ListN.{length, get_or, drop, length-append}
use lib.Seq.{drop-drop, drop_at}
use Rattle.definitions.specs.Value.{Value, Items, Members, nesting, nesting_items, nesting_members}
use Rattle.nodes.specs.Nodes.{kind_code, row_size, Rows, ItemRows, no_item_rows, item_rows, MemberRows, no_member_rows, member_rows}
use Rattle.nodes.specs.NodesLaws.{length_rows, row_size_is}
use Rattle.nodes.specs.Standing.{ValueStands}
use Rattle.nodes.specs.StandingLaws.{size_some, value_head, value_size, value_within, list_stands, rec_stands}
use Rattle.plain.specs.HeadLaws.{head_kind}
use Rattle.running.specs.Depth.{SomeValue}

-- rows of values, of which the deepest is nested so much
pub data NestedRows (p : List ℕ) : ℕ → List ℕ → Type 0 where
  no_rows : NestedRows p 0 []
  more_rows : {m d : ℕ} {v : Value} {rs qs : List ℕ} → Rows p m v rs → NestedRows p d qs → NestedRows p (max (nesting v) d) (rs ++ qs)

items_nested : {p rs : List ℕ} {vs : Items} → ItemRows p vs rs → NestedRows p (nesting_items vs) rs
unfolding nesting
items_nested no_item_rows = no_rows
items_nested (item_rows r is) = more_rows r (items_nested is)

members_nested : {p rs : List ℕ} {ms : Members} → MemberRows p ms rs → NestedRows p (nesting_members ms) rs
unfolding nesting
members_nested no_member_rows = no_rows
members_nested (member_rows f r ns) = more_rows r (members_nested ns)

pub record PartsNested (nodes p : List ℕ) (i end d : ℕ) : Type 0 where
  pub rows : List ℕ
  pub rest : List ℕ
  pub encoded : NestedRows p d rows
  pub placed : drop i nodes ≡ rows ++ rest
  pub reaches : i + length rows ≡ end

record FirstNested (nodes p : List ℕ) (i end d : ℕ) : Type 0 where
  name : ℕ
  value : Value
  others : ℕ
  same : d ≡ max (nesting value) others
  stands : ValueStands nodes p i name value
  more : PartsNested nodes p (i + row_size nodes i) end others

first_nested : {nodes p : List ℕ} {i end d : ℕ} → PartsNested nodes p i end d → i < end → FirstNested nodes p i end d
first_nested {nodes} {p} {i} {end} h left = go h.encoded h.placed h.reaches
  where
    go : {e : ℕ} {rs : List ℕ} → NestedRows p e rs → drop i nodes ≡ rs ++ h.rest → i + length rs ≡ end → FirstNested nodes p i end e
    go no_rows e l = absurd (let z : ⊥ = omega arith in z)
    go (more_rows {m} {d} {v} {rs} {qs} r is) e l =
        let whole : drop i nodes ≡ rs ++ (qs ++ h.rest) = e ∙ append_assoc rs qs h.rest in
        let sized : row_size nodes i ≡ length rs = row_size_is nodes (qs ++ h.rest) i r whole in
        record {
          name = m;
          value = v;
          others = d;
          same = refl;
          stands = record { rows = rs; rest = qs ++ h.rest; encoded = r; placed = whole };
          more =
              record {
                rows = qs;
                rest = h.rest;
                encoded = is;
                placed =
                    sym (drop-drop (row_size nodes i) i nodes) ∙ ap (drop (row_size nodes i)) whole ∙ drop_at rs (qs ++ h.rest) (row_size nodes i) (sym sized);
                reaches = omega (arith, length-append rs qs, sized);
              };
        }

none_nested : {nodes p : List ℕ} {i end d : ℕ} → PartsNested nodes p i end d → end ≤ i → d ≡ 0
none_nested {nodes} {p} {i} {end} h past = go h.encoded h.reaches
  where
    go : {e : ℕ} {rs : List ℕ} → NestedRows p e rs → i + length rs ≡ end → e ≡ 0
    go no_rows l = refl
    go (more_rows {v = v} {rs = rs} {qs = qs} r is) l = absurd (let z : ⊥ = omega (arith, length-append rs qs, length_rows r, size_some v) in z)

-- ---- a value and its parts

nesting_some : (v : Value) → 1 ≤ nesting v
unfolding nesting
nesting_some Value.null = omega arith
nesting_some (Value.bool b) = omega arith
nesting_some (Value.number x) = omega arith
nesting_some (Value.text t) = omega arith
nesting_some (Value.list vs) = omega arith
nesting_some (Value.rec ms) = omega arith

stands_kind : {nodes p : List ℕ} {at m : ℕ} {v : Value} → ValueStands nodes p at m v → get_or nodes at 0 % 8 ≡ kind_code v
stands_kind {v = v} s = ap (λ (h : ℕ). h % 8) (value_head s) ∙ head_kind v

module _ {nodes : List ℕ} {at left : ℕ} where
  pub no_nesting_left : left ≡ 0 → (p : List ℕ) (m : ℕ) (v : Value) → ValueStands nodes p at m v → true ≡ ltb left (nesting v)
  no_nesting_left e p m v s = sym (lt-ltb left (nesting v) (omega (arith, e, nesting_some v)))

  pub single_flat
      : {kind : ℕ} → (left ≡ 0 → ⊥) → kind ≡ get_or nodes at 0 % 8 → kind < 5 → (p : List ℕ) (m : ℕ) (v : Value) → ValueStands nodes p at m v
      → false ≡ ltb left (nesting v)
  unfolding kind_code nesting
  single_flat n k h p m Value.null s = sym (le-ltb left 1 (omega (arith, n)))
  single_flat n k h p m (Value.bool b) s = sym (le-ltb left 1 (omega (arith, n)))
  single_flat n k h p m (Value.number x) s = sym (le-ltb left 1 (omega (arith, n)))
  single_flat n k h p m (Value.text t) s = sym (le-ltb left 1 (omega (arith, n)))
  single_flat n k h p m (Value.list vs) s = absurd (let z : ⊥ = omega (arith, k, h, stands_kind s) in z)
  single_flat n k h p m (Value.rec ms) s = absurd (let z : ⊥ = omega (arith, k, h, stands_kind s) in z)

module _ {nodes : List ℕ} {at : ℕ} where
  pub value_bounds : SomeValue nodes at → (at + row_size nodes at ≤ 65536) × (at + 3 ≤ 65536) × (at + 3 ≤ length nodes)
  value_bounds s =
      let e = value_size s.stands in
      let h = value_within s.stands in
      let z = size_some s.value in
      (omega (arith, e, h, s.small), omega (arith, h, z, s.small), omega (arith, h, z))

  pub value_some : SomeValue nodes at → 3 ≤ row_size nodes at
  value_some s = omega (arith, value_size s.stands, size_some s.value)

  parts_of
      : {kind : ℕ} → kind ≡ get_or nodes at 0 % 8 → 5 ≤ kind → (p : List ℕ) (m : ℕ) (v : Value) → ValueStands nodes p at m v
      → (d : ℕ) × PartsNested nodes p (at + 3) (at + row_size nodes at) d × (nesting v ≡ suc d)
  unfolding kind_code nesting
  parts_of k h p m Value.null s = absurd (let z : ⊥ = omega (arith, k, h, stands_kind s) in z)
  parts_of k h p m (Value.bool true) s = absurd (let z : ⊥ = omega (arith, k, h, stands_kind s) in z)
  parts_of k h p m (Value.bool false) s = absurd (let z : ⊥ = omega (arith, k, h, stands_kind s) in z)
  parts_of k h p m (Value.number x) s = absurd (let z : ⊥ = omega (arith, k, h, stands_kind s) in z)
  parts_of k h p m (Value.text t) s = absurd (let z : ⊥ = omega (arith, k, h, stands_kind s) in z)
  parts_of k h p m (Value.list vs) s =
      let q = list_stands s in (
        nesting_items vs,
        record { rows = q.rows; rest = q.rest; encoded = items_nested q.encoded; placed = q.placed; reaches = q.reaches },
        refl,
      )
  parts_of k h p m (Value.rec ms) s =
      let q = rec_stands s in (
        nesting_members ms,
        record { rows = q.rows; rest = q.rest; encoded = members_nested q.encoded; placed = q.placed; reaches = q.reaches },
        refl,
      )

-- ---- the loop: it is deep where what is left of its parts is

module _ (nodes : List ℕ) (at left : ℕ) where
  pub record Looking (i : ℕ) : Type 0 where
    pub going
        : (p : List ℕ) (m : ℕ) (v : Value) → ValueStands nodes p at m v
        → (d : ℕ) × PartsNested nodes p i (at + row_size nodes at) d × (left < nesting v → left < suc d) × (left < suc d → left < nesting v)

  pub looking : {kind : ℕ} → kind ≡ get_or nodes at 0 % 8 → 5 ≤ kind → Looking (at + 3)
  looking k h = record {
    going = λ p m v s.
        let q = parts_of k h p m v s in
        (q.0, q.1, (λ z. omega (arith, z, q.2)), (λ z. omega (arith, z, q.2)));
  }

  module _ {i : ℕ} (w : Looking i) where
    pub part_value : SomeValue nodes at → i < at + row_size nodes at → SomeValue nodes i
    part_value s more =
        let f = first_nested (w.going s.used s.name s.value s.stands).1 more in
        record { used = s.used; name = f.name; value = f.value; stands = f.stands; small = s.small }

    module _ {b : Bool} (told : (p : List ℕ) (m : ℕ) (v : Value) → ValueStands nodes p i m v → b ≡ ltb (left - 1) (nesting v)) where
      pub part_deep
          : i < at + row_size nodes at → b ≡ true → (left ≡ 0 → ⊥) → (p : List ℕ) (m : ℕ) (v : Value) → ValueStands nodes p at m v
          → true ≡ ltb left (nesting v)
      part_deep more t n p m v s =
          let q = w.going p m v s in
          let f = first_nested q.1 more in
          let h = ltb-true (left - 1) (nesting f.value) (sym (told p f.name f.value f.stands) ∙ t) in
          sym (lt-ltb left (nesting v) (q.3 (omega (arith, h, f.same, n))))

      pub part_flat : {k : ℕ} → i < at + row_size nodes at → b ≡ false → (left ≡ 0 → ⊥) → k ≡ row_size nodes i → Looking (i + k)
      part_flat more t n e =
          subst (λ (k : ℕ). Looking (i + k)) (sym e)
          (record {
            going = λ p m v s.
                let q = w.going p m v s in
                let f = first_nested q.1 more in
                let h = ltb-false (left - 1) (nesting f.value) (sym (told p f.name f.value f.stands) ∙ t) in
                (f.others, f.more, (λ z. omega (arith, q.2 z, h, f.same, n)), (λ z. q.3 (omega (arith, z, f.same))));
          })

    pub all_flat : at + row_size nodes at ≤ i → (left ≡ 0 → ⊥) → (p : List ℕ) (m : ℕ) (v : Value) → ValueStands nodes p at m v → false ≡ ltb left (nesting v)
    all_flat past n p m v s =
        go (ltb left (nesting v)) refl
      where
        go : (b : Bool) → ltb left (nesting v) ≡ b → false ≡ ltb left (nesting v)
        go false e = sym e
        go true e =
            let q = w.going p m v s in
            let z = none_nested q.1 past in
            absurd (let y : ⊥ = omega (arith, q.2 (ltb-true left (nesting v) e), z, n) in y)
