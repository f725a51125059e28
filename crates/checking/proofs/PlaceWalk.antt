-- The shape of a place, as its rows are walked. Assumes nothing.
use Prim.Native.Nat.{ℕ, ◌+◌, ◌/◌, ◌%◌, ◌≤◌}
use mathlib.Core.Path.{◌≡◌, refl, sym, ap, subst, ◌∙◌}
use mathlib.Core.List.{List}
use native.Mathlib.Omega.{arith}
use lib.ListN.{length, get_or}
use Rattle.definitions.specs.Outcome.{Outcome, ◌>>=◌}
use Rattle.definitions.specs.Shape.{Shape, nothing}
use Rattle.definitions.specs.Reader.{Place}
use Rattle.definitions.specs.Checking.{field_shape, check_place}
use Rattle.nodes.specs.Nodes.{Refers}
use Rattle.forms.specs.Forms.{place_code, place_at, PlaceStands}
use Rattle.forms.specs.FormsLaws.{place_forms_some, place_stands_code, place_stands_at, place_stands_within}
use Rattle.forms.specs.PartsLaws.{it_slot, field_name, field_place}
use Rattle.std.specs.Prelude.{Ok, Err}
use Rattle.reading.specs.declared.Refusal.{Refusal}
use Rattle.checking.specs.declared.bindings.Binding.{Binding}
use Rattle.checking.specs.BindingsLaws.{binding_held}
use Rattle.checking.specs.CheckContracts.{Located, Locates, MeetsField, FieldAsked, GivesField, MeetsPlace, PlaceAsked, GivesPlace}

pub place_within : {forms shapes pool bindings : List ℕ} {row : ℕ} → PlaceAsked forms shapes pool bindings row → row + 3 ≤ length forms
place_within h = omega (arith, place_stands_within h.meets.stands, place_forms_some h.place)

module _
    (forms shapes pool bindings : List ℕ) (row : ℕ) {code operand : ℕ} (coded : code ≡ get_or forms row 0 % 32)
    (stored : operand ≡ get_or forms (row + 1) 0) where
  -- the code tells which place stands there
  no_field
      : {p : List ℕ} {d at : ℕ} {n : _} {q : Place} → PlaceStands forms p row d (Place.field at n q) → code ≡ 1 → ⊥
  unfolding place_code
  no_field h e = omega (arith, place_stands_code h)

  no_it : {p : List ℕ} {d at n : ℕ} → PlaceStands forms p row d (Place.it at n) → (code ≡ 1 → ⊥) → ⊥
  unfolding place_code
  no_it h ne = ne (coded ∙ place_stands_code h)

  pub it_located
      : {held : Binding} → code ≡ 1 → held.row ≡ get_or bindings operand 0 / 128 → held.kinds.kinds ≡ get_or bindings operand 0 % 128
      → GivesPlace forms shapes pool bindings row (Ok held)
  unfolding check_place
  it_located one e f p d deep (Place.it at n) env h =
      let s = it_slot h.stands in (get_or env n nothing, refl, rw (e, f) (binding_held h.bound s.1 (stored ∙ s.0)))
  it_located one e f p d deep (Place.field at n q) env h = absurd (no_field h.stands one)

  module _ (other : code ≡ 1 → ⊥) where
    pub part_asked : PlaceAsked forms shapes pool bindings row → PlaceAsked forms shapes pool bindings (row + 3)
    part_asked h = go h.place h.meets
      where
        go : (q : Place) → MeetsPlace forms shapes pool bindings h.p row h.d h.deep q h.env → PlaceAsked forms shapes pool bindings (row + 3)
        go (Place.it at n) m = absurd (no_it m.stands other)
        go (Place.field at n q) m =
            record {
              p = h.p;
              d = h.d;
              deep = h.deep;
              place = q;
              env = h.env;
              meets = record { pooled = m.pooled; stands = field_place m.stands; bound = m.bound };
            }

    module _ (part : Located) (gives : GivesPlace forms shapes pool bindings (row + 3) part) where
      part_told
          : (x : Located) → part ≡ x → (p : List ℕ) (d deep at : ℕ) (n : _) (q : Place) (env : List Shape)
          → MeetsPlace forms shapes pool bindings p row d deep (Place.field at n q) env → Locates shapes p deep (check_place q env) x
      part_told x e p d deep at n q env h =
          subst
          (λ (y : Located). Locates shapes p deep (check_place q env) y)
          e
          (gives p d deep q env (record { pooled = h.pooled; stands = field_place h.stands; bound = h.bound }))

      pub part_refused : {why : Refusal} → part ≡ Err why → GivesPlace forms shapes pool bindings row (Err why)
      unfolding check_place ◌>>=◌
      part_refused e p d deep (Place.it at n) env h = absurd (no_it h.stands other)
      part_refused {why} e p d deep (Place.field at n q) env h =
          ap (λ (o : Outcome ℕ Shape). o >>= λ s. field_shape at n s) (part_told (Err why) e p d deep at n q env h)

      module _ {here : Binding} (e : part ≡ Ok here) where
        named : {p : List ℕ} {d at : ℕ} {n : _} {q : Place} → PlaceStands forms p row d (Place.field at n q) → Refers p n operand
        named h = rw stored (field_name h)

        meets
            : {p : List ℕ} {d deep at : ℕ} {n : _} {q : Place} {env : List Shape}
            (h : MeetsPlace forms shapes pool bindings p row d deep (Place.field at n q) env)
            → MeetsField shapes pool p deep here.row here.kinds.kinds operand n (part_told (Ok here) e p d deep at n q env h).0
        meets {p} {d} {deep} {at} {n} {q} {env} h =
            record { pooled = h.pooled; bound = (part_told (Ok here) e p d deep at n q env h).2; refers = named h.stands }

        pub member_asked : PlaceAsked forms shapes pool bindings row → FieldAsked shapes pool here.row here.kinds.kinds operand
        member_asked h = go h.place h.meets
          where
            go : (q : Place) → MeetsPlace forms shapes pool bindings h.p row h.d h.deep q h.env → FieldAsked shapes pool here.row here.kinds.kinds operand
            go (Place.it at n) m = absurd (no_it m.stands other)
            go (Place.field at n q) m = record { p = h.p; deep = h.deep; name = n; shape = _; meets = meets m }

        pub part_found
            : (m : Located) {place : ℕ} → place ≡ get_or forms row 0 / 2048 % 65536 → GivesField shapes pool here.row here.kinds.kinds operand place m
            → GivesPlace forms shapes pool bindings row m
        unfolding check_place ◌>>=◌ place_at
        part_found m near gives_field p d deep (Place.it at n) env h = absurd (no_it h.stands other)
        part_found m {place} near gives_field p d deep (Place.field at n q) env h =
            let t = part_told (Ok here) e p d deep at n q env h in
            let there : place ≡ at = near ∙ place_stands_at h.stands in
            let same : field_shape place n t.0 ≡ check_place (Place.field at n q) env
            = ap (λ (x : ℕ). field_shape x n t.0) there ∙ sym (ap (λ (o : Outcome ℕ Shape). o >>= λ s. field_shape at n s) t.1) in
            subst (λ (o : Outcome ℕ Shape). Locates shapes p deep o m) same (gives_field p deep n t.0 (meets h))
