-- A shape and a value: what the kind tells, of a value that holds no others all, and where the parts of a list and of a record stand. Assumes nothing.
use Prim.Native.Nat.{ℕ, ◌+◌, ◌%◌, ◌≤◌, ◌<◌}
use mathlib.Core.Path.{◌≡◌, refl, sym, ap, ap₂, ◌∙◌, subst}
use mathlib.Core.Bool.{Bool, true, false, ◌&&◌}
use mathlib.Core.List.{List}
use native.Mathlib.Omega.{arith}
use lib.ListN.{length, get_or}
use Rattle.definitions.specs.Number.{Number, is_int}
use Rattle.definitions.specs.Value.{Value, Items, Members}
use Rattle.definitions.specs.Shape.{Shape, shape, no_list, list_of, no_rec, rec_of, Fields, has, has_list, has_rec, element_of, record_of}
use Rattle.definitions.specs.Admits.{kind_of, admits, admitted, admitted_items, admitted_members, missing_have_null}
use Rattle.laws.specs.Bools.{clash}
use Rattle.laws.specs.Distinct.{distinct, distinct_items, distinct_members}
use Rattle.nodes.specs.Nodes.{kind_code, row_size}
use Rattle.nodes.specs.Standing.{ValueStands}
use Rattle.nodes.specs.StandingLaws.{value_head, value_size, value_within, list_stands, rec_stands, size_some}
use Rattle.plain.specs.Table.{BoundedNumbers, Holds}
use Rattle.shapes.specs.Shapes.{kind_bit, has_bit, size_at, members_at}
use Rattle.shapes.specs.ShapesLaws.{has_kind}
use Rattle.shapes.specs.Held.{HoldsShape, HoldsFields}
use Rattle.shapes.specs.HeldLaws.{held_kinds, held_element, held_members, members_within as held_members_within}
use Rattle.admits.specs.Admission.{HoldsItems, HoldsMembers, ValueAsked, ValueTold, ItemsAsked, ItemsTold, MembersAsked, MembersTold, NullsTold}
use Rattle.admits.proofs.KindBits.{code_told, lacks_kind, kind_enough, int_bit}

-- ---- where they stand

pub standing
    : {nodes pool : List ℕ} {at : ℕ} {v : Value} (h : Holds nodes pool at v) → ValueStands nodes h.used at h.stands.name v
standing h =
    record { rows = h.stands.rows; rest = h.stands.rest; encoded = h.stands.encoded; placed = h.stands.placed }

pub value_ends
    : {nodes pool : List ℕ} {at : ℕ} {v : Value} → Holds nodes pool at v → (3 ≤ row_size nodes at) × (at + row_size nodes at ≤ length nodes)
value_ends {v} h =
    (omega (arith, value_size (standing h), size_some v), omega (arith, value_size (standing h), value_within (standing h)))

-- ---- what the kind tells

module _ (shapes : List ℕ) (row : ℕ) (nodes : List ℕ) (at : ℕ) (pool : List ℕ) where
  -- the bit of the value's kind, and whether the shape has it
  pub record Seen (bit : ℕ) (r : Bool) : Type 0 where
    pub coded : (v : Value) → Holds nodes pool at v → bit ≡ kind_bit (kind_of v)
    pub there : (s : Shape) → HoldsShape shapes pool row s → (v : Value) → Holds nodes pool at v → r ≡ has (kind_of v) s

  pub seen
      : {bit kinds : ℕ} {r : Bool}
      → ((p : List ℕ) (k : ℕ) (v : Value) → ValueStands nodes p at k v → BoundedNumbers v → bit ≡ kind_bit (kind_of v))
      → kinds ≡ get_or shapes row 0 % 128 → r ≡ has_bit kinds bit → Seen bit r
  seen {bit} {kinds} e f g =
      record {
        coded = λ v h. e _ _ v (standing h) h.bounded;
        there = λ s k v h.
            g
            ∙ ap₂ (λ (x y : ℕ). has_bit x y) (f ∙ held_kinds k) (e _ _ v (standing h) h.bounded)
            ∙ has_kind (kind_of v) s;
      }

  pub without_kind : {bit : ℕ} {r : Bool} → Seen bit r → r ≡ false → ValueTold shapes row nodes at pool false
  without_kind {r} k e s h v g = lacks_kind v s (sym (k.there s h v g) ∙ e)

  pub single : {bit : ℕ} {r : Bool} → Seen bit r → r ≡ true → bit < 32 → ValueTold shapes row nodes at pool true
  single {r} k e l s h v g =
      kind_enough v s (omega (arith, k.coded v g)) (sym (k.there s h v g) ∙ e)

-- ---- values that hold no others

number_small : (x : Number) → kind_bit (kind_of (Value.number x)) < 32
number_small x = go (is_int x) refl
  where
    go : (b : Bool) → b ≡ is_int x → kind_bit (kind_of (Value.number x)) < 32
    go true e = omega (arith, int_bit x true e)
    go false e = omega (arith, int_bit x false e)

leaf_small : (v : Value) → kind_code v < 5 → kind_bit (kind_of v) < 32
unfolding kind_code kind_bit kind_of
leaf_small Value.null h = omega arith
leaf_small (Value.bool b) h = omega arith
leaf_small (Value.number x) h = number_small x
leaf_small (Value.text t) h = omega arith
leaf_small (Value.list vs) h = absurd (let z : ⊥ = omega arith in z)
leaf_small (Value.rec ms) h = absurd (let z : ⊥ = omega arith in z)

-- such a value is admitted where its kind is there
pub leaf_told
    : (shapes : List ℕ) (row : ℕ) (nodes : List ℕ) (at : ℕ) (pool : List ℕ) {bit kind : ℕ} {r : Bool} → Seen shapes row nodes at pool bit r
    → kind ≡ get_or nodes at 0 % 8 → kind < 5 → ValueTold shapes row nodes at pool r
leaf_told shapes row nodes at pool {r = r} k e l s h v g = go r (k.there s h v g)
  where
    leaf : kind_code v < 5
    leaf = omega (arith, l, code_told v e (value_head (standing g)))

    go : (b : Bool) → b ≡ has (kind_of v) s → b ≡ admits s v
    go true f = kind_enough v s (leaf_small v leaf) (sym f)
    go false f = lacks_kind v s (sym f)

-- ---- lists and records

module _ (shapes : List ℕ) (row : ℕ) (nodes : List ℕ) (at : ℕ) (pool : List ℕ) where
  pub record ListParts (s : Shape) (v : Value) : Type 0 where
    pub element : Shape
    pub items : Items
    pub held : HoldsShape shapes pool (row + 2) element
    pub holds : HoldsItems nodes pool (at + 3) (at + row_size nodes at) items
    pub told : admits s v ≡ admitted_items items element
    pub once : distinct v ≡ true → distinct_items items ≡ true

  pub list_parts
      : (s : Shape) → HoldsShape shapes pool row s → (v : Value) → Holds nodes pool at v → kind_bit (kind_of v) ≡ 32
      → has (kind_of v) s ≡ true → ListParts s v
  unfolding kind_bit kind_of has has_list BoundedNumbers admits admitted element_of distinct
  list_parts s h Value.null g e f = absurd (let z : ⊥ = omega arith in z)
  list_parts s h (Value.bool b) g e f = absurd (let z : ⊥ = omega arith in z)
  list_parts s h (Value.number x) g e f = absurd (let z : ⊥ = omega (arith, number_small x) in z)
  list_parts s h (Value.text t) g e f = absurd (let z : ⊥ = omega arith in z)
  list_parts (shape n b m t no_list r) h (Value.list vs) g e f = clash f refl
  list_parts (shape n b m t (list_of a) r) h (Value.list vs) g e f =
      record {
        element = a;
        items = vs;
        held = held_element h;
        holds = record { used = g.used; stand = list_stands (standing g); pooled = g.pooled; bounded = g.bounded };
        told = refl;
        once = λ d. d;
      }
  list_parts s h (Value.rec ms) g e f = absurd (let z : ⊥ = omega arith in z)

  pub record RecParts (s : Shape) (v : Value) : Type 0 where
    pub fields : Fields
    pub members : Members
    pub held : HoldsFields shapes pool (members_at shapes row) (row + size_at shapes row) fields
    pub holds : HoldsMembers nodes pool (at + 3) (at + row_size nodes at) members
    pub told : admits s v ≡ (admitted_members members fields && missing_have_null members fields)
    pub once : distinct v ≡ true → distinct_members members ≡ true

  pub rec_parts
      : (s : Shape) → HoldsShape shapes pool row s → (v : Value) → Holds nodes pool at v → 32 < kind_bit (kind_of v)
      → has (kind_of v) s ≡ true → RecParts s v
  unfolding kind_bit kind_of has has_rec BoundedNumbers admits admitted record_of distinct
  rec_parts s h Value.null g e f = absurd (let z : ⊥ = omega arith in z)
  rec_parts s h (Value.bool b) g e f = absurd (let z : ⊥ = omega arith in z)
  rec_parts s h (Value.number x) g e f = absurd (let z : ⊥ = omega (arith, number_small x) in z)
  rec_parts s h (Value.text t) g e f = absurd (let z : ⊥ = omega arith in z)
  rec_parts s h (Value.list vs) g e f = absurd (let z : ⊥ = omega arith in z)
  rec_parts (shape n b m t l no_rec) h (Value.rec ms) g e f = clash f refl
  rec_parts (shape n b m t l (rec_of fs)) h (Value.rec ms) g e f =
      record {
        fields = fs;
        members = ms;
        held = held_members h;
        holds = record { used = g.used; stand = rec_stands (standing g); pooled = g.pooled; bounded = g.bounded };
        told = refl;
        once = λ d. d;
      }

module _
    (shapes : List ℕ) (row : ℕ) (nodes : List ℕ) (at : ℕ) (pool : List ℕ) {bit n : ℕ} {r : Bool} (k : Seen shapes row nodes at pool bit r)
    (e : r ≡ true) (sized : n ≡ row_size nodes at)
  where
    module _ (l : bit ≡ 32) where
      list_of_both
          : (s : Shape) → HoldsShape shapes pool row s → (v : Value) → Holds nodes pool at v
          → ListParts shapes row nodes at pool s v
      list_of_both s h v g = list_parts shapes row nodes at pool s h v g (sym (k.coded v g) ∙ l) (sym (k.there s h v g) ∙ e)

      pub list_asks : ValueAsked shapes row nodes at pool → ItemsAsked shapes (row + 2) nodes (at + 3) (at + n) pool
      list_asks a =
          let p = list_of_both a.shape a.held a.value a.holds in
          record {
            shape = p.element;
            held = p.held;
            items = p.items;
            holds = subst (λ (x : ℕ). HoldsItems nodes pool (at + 3) (at + x) p.items) (sym sized) p.holds;
            once = p.once a.once;
          }

      pub list_told : {q : Bool} → ItemsTold shapes (row + 2) nodes (at + 3) (at + n) pool q → ValueTold shapes row nodes at pool q
      list_told t s h v g =
          let p = list_of_both s h v g in
          t p.element p.held p.items (subst (λ (x : ℕ). HoldsItems nodes pool (at + 3) (at + x) p.items) (sym sized) p.holds)
          ∙ sym p.told

    module _ (l : 32 ≤ bit) (other : bit ≡ 32 → ⊥) {from size : ℕ} (begun : from ≡ members_at shapes row) (wide : size ≡ size_at shapes row) where
      rec_of_both
          : (s : Shape) → HoldsShape shapes pool row s → (v : Value) → Holds nodes pool at v
          → RecParts shapes row nodes at pool s v
      rec_of_both s h v g = rec_parts shapes row nodes at pool s h v g (omega (arith, k.coded v g)) (sym (k.there s h v g) ∙ e)

      placed_fields
          : {s : Shape} {v : Value} (p : RecParts shapes row nodes at pool s v) → HoldsFields shapes pool from (row + size) p.fields
      placed_fields p =
          subst (λ (x : ℕ). HoldsFields shapes pool x (row + size) p.fields) (sym begun)
          (subst (λ (x : ℕ). HoldsFields shapes pool (members_at shapes row) (row + x) p.fields) (sym wide) p.held)

      placed_members
          : {s : Shape} {v : Value} (p : RecParts shapes row nodes at pool s v) → HoldsMembers nodes pool (at + 3) (at + n) p.members
      placed_members p = subst (λ (x : ℕ). HoldsMembers nodes pool (at + 3) (at + x) p.members) (sym sized) p.holds

      pub rec_asks : ValueAsked shapes row nodes at pool → MembersAsked shapes from (row + size) nodes (at + 3) (at + n) pool
      rec_asks a =
          let p = rec_of_both a.shape a.held a.value a.holds in
          record { fields = p.fields; held = placed_fields p; members = p.members; holds = placed_members p; once = p.once a.once }

      pub rec_fails
          : {q : Bool} → MembersTold shapes from (row + size) nodes (at + 3) (at + n) pool q → q ≡ false
          → ValueTold shapes row nodes at pool false
      rec_fails {q} t x s h v g =
          let p = rec_of_both s h v g in
          sym
          (p.told
          ∙ ap (λ (b : Bool). b && missing_have_null p.members p.fields)
          (sym (t p.fields (placed_fields p) p.members (placed_members p)) ∙ x))

      pub rec_told
          : {q o : Bool} → MembersTold shapes from (row + size) nodes (at + 3) (at + n) pool q → q ≡ true
          → NullsTold shapes from (row + size) nodes (at + 3) (at + n) pool o → ValueTold shapes row nodes at pool o
      rec_told {q} t x u s h v g =
          let p = rec_of_both s h v g in
          u p.fields (placed_fields p) p.members (placed_members p)
          ∙ sym
          (p.told
          ∙ ap (λ (b : Bool). b && missing_have_null p.members p.fields)
          (sym (t p.fields (placed_fields p) p.members (placed_members p)) ∙ x))

    -- where the members begin
    pub members_within : 32 ≤ bit → (bit ≡ 32 → ⊥) → ValueAsked shapes row nodes at pool → members_at shapes row ≤ row + size_at shapes row
    members_within l other a =
        let p = rec_parts shapes row nodes at pool a.shape a.held a.value a.holds (omega (arith, k.coded a.value a.holds))
        (sym (k.there a.shape a.held a.value a.holds) ∙ e) in
        held_members_within p.held
