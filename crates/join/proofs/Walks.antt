-- The next member of two shapes. Assumes nothing.
use Prim.Native.Nat.{ℕ, ◌+◌, ◌%◌, ◌/◌, ◌≤◌, ◌<◌}
use native.Mathlib.Omega.{arith}
use mathlib.Core.Path.{◌≡◌, refl, sym, ap, ap₂, ◌∙◌, subst}
use mathlib.Core.Bool.{true}
use mathlib.Core.List.{List}
use lib.ListN.{get_or}
use Rattle.definitions.specs.Bytes.{Bytes, order}
use Rattle.definitions.specs.Shape.{Shape, Fields, no_fields, field, behind}
use Rattle.definitions.specs.Join.{with_null, join}
use Rattle.laws.specs.Names.{order_refl, order_eq, before_lt, before_gt}
use Rattle.pool.specs.Pool.{text_in, ordering_of}
use Rattle.std.specs.declared.cmp.Ordering.{Ordering}
use Rattle.std.specs.declared.cmp.Ordering.TheVariants.{Less, Equal, Greater}
use Rattle.shapes.specs.ShapesLaws.{stands_name, SomeFields, some_fields, fields_left, fields_none, fields_some, fields_first}
use Rattle.join.specs.Joining.{MembersWalk, turn_first, turn_second, turn_both, Next}
use Rattle.nodes.specs.StandingLaws.{text_referred}

next_first : {n : Bytes} {a : Shape} {fs gs : Fields} → behind n gs ≡ true → Next Less (field n a fs) gs
next_first {n} {a} {fs} {gs} h =
    record { name = n; shape = with_null a; old = _; ours = fs; theirs = gs; turn = turn_first h }

next_second : {m : Bytes} {b : Shape} {fs gs : Fields} → behind m fs ≡ true → Next Greater fs (field m b gs)
next_second {m} {b} {fs} {gs} h =
    record { name = m; shape = with_null b; old = _; ours = fs; theirs = gs; turn = turn_second h }

next_both : {n m : Bytes} {a b : Shape} {fs gs : Fields} → n ≡ m → Next Equal (field n a fs) (field m b gs)
next_both {n} {m} {a} {b} {fs} {gs} e =
    subst
    (λ (k : Bytes). Next Equal (field n a fs) (field k b gs))
    e
    (record { name = n; shape = join a b; old = _; ours = fs; theirs = gs; turn = turn_both })

-- a comparison of two names tells which member is next
by_order
    : (o : Ordering) {n m : Bytes} {a b : Shape} {fs gs : Fields} → ordering_of o ≡ order n m
    → Next o (field n a fs) (field m b gs)
unfolding ordering_of behind
by_order Less {n} {m} e = next_first (before_lt n m (sym e))
by_order Equal {n} {m} e = next_both (order_eq n m (sym e))
by_order Greater {n} {m} e = next_second (before_gt n m (sym e))

module _ {shapes second pool p : List ℕ} {row end other to : ℕ} where
  pub none_theirs
      : (fs gs : Fields) → MembersWalk shapes second pool p row end other to fs gs → row + other < end + to → to ≤ other → Next Less fs gs
  unfolding behind
  none_theirs no_fields no_fields w l h = absurd (let z : ⊥ = omega (arith, fields_none w.ours, fields_none w.theirs) in z)
  none_theirs (field n a fs) no_fields w l h = next_first refl
  none_theirs fs (field m b gs) w l h = absurd (let z : ⊥ = omega (arith, fields_some w.theirs) in z)

  pub none_ours
      : (fs gs : Fields) → MembersWalk shapes second pool p row end other to fs gs → row + other < end + to → end ≤ row → Next Greater fs gs
  unfolding behind
  none_ours no_fields no_fields w l h = absurd (let z : ⊥ = omega (arith, fields_none w.ours, fields_none w.theirs) in z)
  none_ours no_fields (field m b gs) w l h = next_second refl
  none_ours (field n a fs) gs w l h = absurd (let z : ⊥ = omega (arith, fields_some w.ours) in z)

  pub compared
      : (o : Ordering) {x y : ℕ} → x ≡ get_or shapes (row + 1) 0 → y ≡ get_or second (other + 1) 0
      → ordering_of o ≡ order (text_in pool (x % 65536) (x / 65536)) (text_in pool (y % 65536) (y / 65536)) → row < end → other < to
      → (fs gs : Fields) → MembersWalk shapes second pool p row end other to fs gs → Next o fs gs
  compared o e f q h i fs gs w =
      go (fields_left w.ours h) (fields_left w.theirs i) w
    where
      go : {fs gs : Fields} → SomeFields fs → SomeFields gs → MembersWalk shapes second pool p row end other to fs gs → Next o fs gs
      go (some_fields {n = n}) (some_fields {n = l}) w =
          let a = fields_first w.ours in
          let b = fields_first w.theirs in
          by_order o
          (q
          ∙ ap₂ (λ (s t : Bytes). order s t)
          (ap (λ (x : ℕ). text_in pool (x % 65536) (x / 65536)) (e ∙ stands_name a.2) ∙ text_referred pool w.pooled.front w.pooled.small a.1)
          (ap (λ (y : ℕ). text_in pool (y % 65536) (y / 65536)) (f ∙ stands_name b.2) ∙ text_referred pool w.pooled.front w.pooled.small b.1))

  -- names at one reference are the same
  pub one_name
      : {x y : ℕ} → x ≡ get_or shapes (row + 1) 0 → y ≡ get_or second (other + 1) 0 → x ≡ y → row < end → other < to → (fs gs : Fields)
      → MembersWalk shapes second pool p row end other to fs gs → Next Equal fs gs
  unfolding ordering_of
  one_name {x} e f q h i fs gs w =
      compared Equal e f
      (sym (order_refl (text_in pool (x % 65536) (x / 65536)))
      ∙ ap (λ (y : ℕ). order (text_in pool (x % 65536) (x / 65536)) (text_in pool (y % 65536) (y / 65536))) q)
      h
      i
      fs
      gs
      w
