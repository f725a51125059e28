-- Two shapes: where their parts stand, and how the order is put together from the parts. Assumes nothing.
use Prim.Native.Nat.{ℕ, ◌+◌, ◌-◌, ◌%◌, ◌≤◌, ◌<◌}
use mathlib.Core.Path.{◌≡◌, refl, sym, ap, ap₂, ◌∙◌, subst}
use mathlib.Core.Bool.{Bool, true, false, ◌&&◌}
use mathlib.Core.List.{List}
use native.Mathlib.Omega.{arith}
use borrow.Author.Tests.{eqb-true, eqb-false}
use lib.Bits.{bit_or}
use lib.Dec.{eqb}
use lib.ListN.{get_or}
use Rattle.definitions.specs.Shape.{Kind, Shape, shape, no_list, list_of, no_rec, rec_of, Fields, has}
use Rattle.definitions.specs.Shape.{has_list, has_rec, element_of, record_of, levels, levels_fields}
use Rattle.definitions.specs.Order.{kinds_in, lacked_have_null, below, below_element, below_record, below_fields}
use Rattle.laws.specs.Bools.{clash}
use Rattle.shapes.specs.Shapes.{kind_bit, has_bit, size_at, members_at}
use Rattle.shapes.specs.Held.{HoldsShape, HoldsFields}
use Rattle.shapes.specs.HeldLaws.{held_kinds, held_has, held_element, held_members}
use Rattle.order.specs.Comparing.{ShapesAsked, ShapesTold, PartsAsked, ElementTold, RecordTold, ListedAsked, FieldsAsked, FieldsTold, NullsTold}
use Rattle.order.proofs.KindsIn.{kind_in, kinds_all, kinds_beyond}

pub some_level : (s : Shape) → 1 ≤ levels s
unfolding levels
some_level (shape n b m x e r) = omega arith

-- ---- whole shapes

below_parts
    : (s t : Shape)
    → below s t ≡ (kinds_in s t && below_element (element_of s) (element_of t) && below_record (record_of s) (record_of t))
unfolding below element_of record_of
below_parts (shape n b m x e r) t = refl

module _ (first : List ℕ) (a : ℕ) (second : List ℕ) (b : ℕ) (pool : List ℕ) where
  -- the kinds of the first shape are all in the second
  pub record Passed : Type 0 where
    pub kinds : (s : Shape) → HoldsShape first pool a s → (t : Shape) → HoldsShape second pool b t → kinds_in s t ≡ true

  module _ {x y : ℕ} {w : Bool} (e : x ≡ get_or first a 0 % 128) (f : y ≡ get_or second b 0 % 128) (within : w ≡ eqb (bit_or x y) y) where
    pub kinds_fail : w ≡ false → ShapesTold first a second b pool false
    kinds_fail v s g t k =
        let h : bit_or x y ≡ y → ⊥ = eqb-false (bit_or x y) y (sym within ∙ v) in
        sym
        (below_parts s t
        ∙ ap (λ (p : Bool). p && below_element (element_of s) (element_of t) && below_record (record_of s) (record_of t))
        (kinds_beyond s t (λ q. h (ap₂ (λ (i j : ℕ). bit_or i j) (e ∙ held_kinds g) (f ∙ held_kinds k) ∙ q ∙ sym (f ∙ held_kinds k)))))

    pub kinds_pass : w ≡ true → Passed
    kinds_pass v =
        let h : bit_or x y ≡ y = eqb-true (bit_or x y) y (sym within ∙ v) in
        record {
          kinds = λ s g t k.
              kinds_all s t
              (ap₂ (λ (i j : ℕ). bit_or i j) (sym (e ∙ held_kinds g)) (sym (f ∙ held_kinds k)) ∙ h ∙ f ∙ held_kinds k);
        }

  pub parts_asked : {left : ℕ} → Passed → ShapesAsked first a second b pool left → PartsAsked first a second b pool left
  parts_asked p q = record { asked = q; kinds = p.kinds q.shape q.held q.other q.holds }

  module _ (p : Passed) {r : Bool} (told : ElementTold first a second b pool r) where
    element_told
        : (s : Shape) → HoldsShape first pool a s → (t : Shape) → HoldsShape second pool b t
        → below s t ≡ (r && below_record (record_of s) (record_of t))
    element_told s g t k =
        below_parts s t
        ∙ ap (λ (q : Bool). q && below_element (element_of s) (element_of t) && below_record (record_of s) (record_of t)) (p.kinds s g t k)
        ∙ ap (λ (q : Bool). q && below_record (record_of s) (record_of t)) (sym (told s g t k (p.kinds s g t k)))

    pub element_fails : r ≡ false → ShapesTold first a second b pool false
    element_fails e s g t k =
        sym (element_told s g t k ∙ ap (λ (q : Bool). q && below_record (record_of s) (record_of t)) e)

    pub record_tells : {q : Bool} → r ≡ true → RecordTold first a second b pool q → ShapesTold first a second b pool q
    record_tells e u s g t k =
        u s g t k (p.kinds s g t k)
        ∙ sym (element_told s g t k ∙ ap (λ (q : Bool). q && below_record (record_of s) (record_of t)) e)

  -- ---- elements

  pub record Elements (s t : Shape) : Type 0 where
    pub inner : Shape
    pub outer : Shape
    pub held : HoldsShape first pool (a + 2) inner
    pub holds : HoldsShape second pool (b + 2) outer
    pub told : below_element (element_of s) (element_of t) ≡ below inner outer
    pub deep : levels inner < levels s

  elements
      : (s : Shape) → HoldsShape first pool a s → (t : Shape) → HoldsShape second pool b t → has Kind.list s ≡ true
      → has Kind.list t ≡ true → Elements s t
  unfolding has has_list element_of below levels
  elements (shape n l m x no_list r) g t k e f = clash e refl
  elements (shape n l m x (list_of c) r) g (shape n' l' m' x' no_list r') k e f = clash f refl
  elements (shape n l m x (list_of c) r) g (shape n' l' m' x' (list_of d) r') k e f =
      record { inner = c; outer = d; held = held_element g; holds = held_element k; told = refl; deep = omega arith }

  no_list_below : (s t : Shape) → has Kind.list s ≡ false → true ≡ below_element (element_of s) (element_of t)
  unfolding has has_list element_of below
  no_list_below (shape n l m x no_list r) t e = refl
  no_list_below (shape n l m x (list_of c) r) t e = clash refl e

  module _ {x : ℕ} {r : Bool} (e : x ≡ get_or first a 0 % 128) (f : r ≡ has_bit x 32) where
    has_list_told : {s : Shape} → HoldsShape first pool a s → r ≡ has Kind.list s
    unfolding kind_bit
    has_list_told g = f ∙ ap (λ (i : ℕ). has_bit i 32) e ∙ held_has Kind.list g

    pub without_list : r ≡ false → ElementTold first a second b pool true
    without_list h s g t k q = no_list_below s t (sym (has_list_told g) ∙ h)

    module _ (h : r ≡ true) where
      both_lists
          : (s : Shape) → HoldsShape first pool a s → (t : Shape) → HoldsShape second pool b t → kinds_in s t ≡ true → Elements s t
      both_lists s g t k q =
          let l : has Kind.list s ≡ true = sym (has_list_told g) ∙ h in elements s g t k l (kind_in Kind.list s t q l)

      pub list_asks
          : {left : ℕ} → PartsAsked first a second b pool left
          → ShapesAsked first (a + 2) second (b + 2) pool (left - 1)
      list_asks p =
          let q = p.asked in
          let l = both_lists q.shape q.held q.other q.holds p.kinds in
          record { shape = l.inner; held = l.held; other = l.outer; holds = l.holds; deep = omega (arith, l.deep, q.deep) }

      pub list_told : {q : Bool} → ShapesTold first (a + 2) second (b + 2) pool q → ElementTold first a second b pool q
      list_told u s g t k i =
          let l = both_lists s g t k i in u l.inner l.held l.outer l.holds ∙ sym l.told

  -- ---- records

  pub record Records (s t : Shape) : Type 0 where
    pub fields : Fields
    pub others : Fields
    pub held : HoldsFields first pool (members_at first a) (a + size_at first a) fields
    pub holds : HoldsFields second pool (members_at second b) (b + size_at second b) others
    pub told : below_record (record_of s) (record_of t) ≡ (below_fields fields others && lacked_have_null fields others)
    pub deep : levels_fields fields < levels s

  records
      : (s : Shape) → HoldsShape first pool a s → (t : Shape) → HoldsShape second pool b t → has Kind.rec s ≡ true
      → has Kind.rec t ≡ true → Records s t
  unfolding has has_rec record_of below levels
  records (shape n l m x c no_rec) g t k e f = clash e refl
  records (shape n l m x c (rec_of fs)) g (shape n' l' m' x' c' no_rec) k e f = clash f refl
  records (shape n l m x c (rec_of fs)) g (shape n' l' m' x' c' (rec_of gs)) k e f =
      record { fields = fs; others = gs; held = held_members g; holds = held_members k; told = refl; deep = omega arith }

  no_rec_below : (s t : Shape) → has Kind.rec s ≡ false → true ≡ below_record (record_of s) (record_of t)
  unfolding has has_rec record_of below
  no_rec_below (shape n l m x c no_rec) t e = refl
  no_rec_below (shape n l m x c (rec_of fs)) t e = clash refl e

  module _ {x : ℕ} {r : Bool} (e : x ≡ get_or first a 0 % 128) (f : r ≡ has_bit x 64) where
    has_rec_told : {s : Shape} → HoldsShape first pool a s → r ≡ has Kind.rec s
    unfolding kind_bit
    has_rec_told g = f ∙ ap (λ (i : ℕ). has_bit i 64) e ∙ held_has Kind.rec g

    pub without_rec : r ≡ false → RecordTold first a second b pool true
    without_rec h s g t k q = no_rec_below s t (sym (has_rec_told g) ∙ h)

    module _ (h : r ≡ true) where
      pub both_records
          : (s : Shape) → HoldsShape first pool a s → (t : Shape) → HoldsShape second pool b t → kinds_in s t ≡ true → Records s t
      both_records s g t k q =
          let l : has Kind.rec s ≡ true = sym (has_rec_told g) ∙ h in records s g t k l (kind_in Kind.rec s t q l)

      -- the records of the shapes that the caller has
      pub records_here : {left : ℕ} (p : PartsAsked first a second b pool left) → Records p.asked.shape p.asked.other
      records_here p = both_records p.asked.shape p.asked.held p.asked.other p.asked.holds p.kinds

      module _
          {from size at wide : ℕ} (i : from ≡ members_at first a) (j : size ≡ size_at first a) (u : at ≡ members_at second b)
          (v : wide ≡ size_at second b)
        where
          placed_first : {s t : Shape} (l : Records s t) → HoldsFields first pool from (a + size) l.fields
          placed_first l =
              subst (λ (y : ℕ). HoldsFields first pool y (a + size) l.fields) (sym i)
              (subst (λ (y : ℕ). HoldsFields first pool (members_at first a) (a + y) l.fields) (sym j) l.held)

          placed_second : {s t : Shape} (l : Records s t) → HoldsFields second pool at (b + wide) l.others
          placed_second l =
              subst (λ (y : ℕ). HoldsFields second pool y (b + wide) l.others) (sym u)
              (subst (λ (y : ℕ). HoldsFields second pool (members_at second b) (b + y) l.others) (sym v) l.holds)

          pub nulls_asks : {left : ℕ} → PartsAsked first a second b pool left → ListedAsked first from (a + size) second at (b + wide) pool
          nulls_asks p =
              let l = records_here p in
              record { fields = l.fields; held = placed_first l; others = l.others; holds = placed_second l }

          pub fields_asks
              : {left : ℕ} → PartsAsked first a second b pool left
              → FieldsAsked first from (a + size) second at (b + wide) pool (left - 1)
          fields_asks p =
              let l = records_here p in
              record {
                asked = record { fields = l.fields; held = placed_first l; others = l.others; holds = placed_second l };
                deep = omega (arith, l.deep, p.asked.deep);
              }

          module _ {q : Bool} (told : FieldsTold first from (a + size) second at (b + wide) pool q) where
            fields_told
                : (s : Shape) → HoldsShape first pool a s → (t : Shape) → HoldsShape second pool b t → (w : kinds_in s t ≡ true)
                → (l : Records s t) → below_record (record_of s) (record_of t) ≡ (q && lacked_have_null l.fields l.others)
            fields_told s g t k w l =
                l.told
                ∙ ap (λ (o : Bool). o && lacked_have_null l.fields l.others)
                (sym (told l.fields (placed_first l) l.others (placed_second l)))

            pub fields_fail : q ≡ false → RecordTold first a second b pool false
            fields_fail n s g t k w =
                let l = both_records s g t k w in
                sym (fields_told s g t k w l ∙ ap (λ (o : Bool). o && lacked_have_null l.fields l.others) n)

            pub nulls_told
                : {o : Bool} → q ≡ true → NullsTold first from (a + size) second at (b + wide) pool o
                → RecordTold first a second b pool o
            nulls_told n z s g t k w =
                let l = both_records s g t k w in
                z l.fields (placed_first l) l.others (placed_second l)
                ∙ sym (fields_told s g t k w l ∙ ap (λ (y : Bool). y && lacked_have_null l.fields l.others) n)
