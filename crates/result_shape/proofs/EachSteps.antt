-- `each`: its result joined into the element of a shape. Assumes nothing.
use Prim.Native.Nat.{ℕ, suc, ◌+◌, ◌*◌, ◌%◌, ◌^◌, ◌≤◌, ◌<◌}
use native.Mathlib.Omega.{arith}
use mathlib.Core.Path.{◌≡◌, refl, sym, ap, subst, ◌∙◌}
use mathlib.Core.Bool.{true}
use mathlib.Core.List.{List, ◌∷◌, ◌++◌}
use lib.Bits.{bit_or}
use lib.ListN.{length, get_or, take, drop}
use Rattle.definitions.specs.Shape.{Shape, element_of, ascending, forms, forms_element}
use Rattle.definitions.specs.Join.{join}
use Rattle.definitions.specs.Reader.{Result}
use Rattle.definitions.specs.Checking.{element_shape}
use Rattle.laws.specs.OrderInduction.{ascending_of_element}
use Rattle.laws.specs.SoundShapes.{ascends_bind, element_ascending}
use Rattle.shapes.specs.Shapes.{head_of, size_at, ShapeRows}
use Rattle.join.specs.Replacing.{Put, Over, Becomes}
use Rattle.std.specs.Prelude.{Option}
use Rattle.std.specs.Prelude.{Some, None}
use Rattle.growing.specs.Growing.{element_start, with_element}
use Rattle.growing.specs.GrowingLaws.{element_is, element_start_ascending}
use Rattle.growing.specs.Rows.{Readies, ShapeHeld}
use Rattle.growing.specs.HeadLaws.{bits_with_element, Risen, risen_fits, risen_put}
use Rattle.growing.specs.ElementLaws.{list_unready, list_stands, list_within, list_room, list_over, list_risen, ready_put, ready_full}
use Rattle.forms.specs.FormsLaws.{stands_code, stands_within}
use Rattle.forms.specs.PartsLaws.{after}
use Rattle.checking.specs.Bindings.{Bound, Bindings, Kept, SomeBound, BindsElement}
use Rattle.checking.specs.CheckContracts.{PlaceAsked, GivesPlace}
use Rattle.std.specs.Prelude.{Ok, Err}
use Rattle.reading.specs.declared.Refusal.{Refusal}
use Rattle.checking.specs.CheckContracts.{Located}
use Rattle.result_shape.specs.ResultsLaws.{bound_ascends, bindings_ascend, given_ascends, forms_joined}
use Rattle.result_shape.specs.Giving.{Tables, MeetsResult, ResultAsked, GivesResult}
use Rattle.result_shape.proofs.Parts.{EachParts, each_parts, branch_room}
use Rattle.result_shape.proofs.Places.{place_asked, never_refused, found_bound}
use Rattle.result_shape.proofs.Steps.{tables_room, became, was_full, becomes_as}
use Rattle.result_shape.proofs.Branches.{kept_then, branch_meets, bound_more}

module _
    {table shapes pool bindings result : List ℕ} {row d used dest deep at_part more_bound : ℕ} (tables : Tables shapes result used)
    (code : get_or table row 0 % 32 ≡ 9)
    (part_is : at_part ≡ after table (row + 3))
    (bound_is : more_bound ≡ suc d)
  where
    module _
        {p : List ℕ} {m : ℕ} {r : Result} {env : List Shape} {t : Shape} {name : ℕ} {s : Shape}
        (j : MeetsResult table shapes pool bindings result p row d used dest m deep r env t name s)
      where
        abbrev parts : EachParts table shapes pool bindings p row d deep env t
        parts = each_parts r j.form j.gives j.once (sym (stands_code j.form.stands) ∙ code)

        there : d < length bindings
        there = branch_room parts.branch

        abbrev start : Shape
        start = element_start (element_of s)

        start_asc : ascending start ≡ true
        start_asc = element_start_ascending (element_of s) (ascending_of_element s j.ascends)

        abbrev reached : Shape
        reached = join start parts.part

        into_is : with_element reached s ≡ join s t
        into_is = sym (ap (join s) parts.same ∙ element_is parts.part s)

    pub each_asks : ResultAsked table shapes pool bindings result row d used dest deep → PlaceAsked table shapes pool bindings (row + 3)
    each_asks w = place_asked (parts w.meets).placed

    pub each_rows : ResultAsked table shapes pool bindings result row d used dest deep → (row + 3 ≤ at_part) × (at_part ≤ length table)
    each_rows w = (omega (arith, part_is), omega (arith, part_is, stands_within (parts w.meets).branch.stands))

    pub each_room : ResultAsked table shapes pool bindings result row d used dest deep → d < length bindings
    each_room w = there w.meets

    pub each_held : ResultAsked table shapes pool bindings result row d used dest deep → ShapeHeld result used dest
    each_held w = record { part = w.p; name = w.name; old = w.old; stands = w.meets.stands; within = w.meets.within }

    module _ (o : Located) (q : GivesPlace table shapes pool bindings (row + 3) o) where
      pub each_never {ℓ}
          : {X : Type ℓ} {p : List ℕ} {m : ℕ} {r : Result} {env : List Shape} {t : Shape} {name : ℕ} {s : Shape} {why : Refusal}
          → MeetsResult table shapes pool bindings result p row d used dest m deep r env t name s → o ≡ Err why → X
      each_never j e = never_refused (parts j).placed o q e

      module _ {at kinds : ℕ} (e : o ≡ Ok (record { row = at; kinds = record { kinds = kinds } })) where
        module _
            {p : List ℕ} {m : ℕ} {r : Result} {env : List Shape} {t : Shape} {name : ℕ} {s : Shape}
            (j : MeetsResult table shapes pool bindings result p row d used dest m deep r env t name s)
          where
            over_bound : Bound shapes p deep at kinds (parts j).over
            over_bound = found_bound (parts j).placed o q e

            part_asc : ascending (parts j).part ≡ true
            part_asc =
                let u : Shape = element_shape (element_of (parts j).over) in
                given_ascends (parts j).branch.result (u ∷ env) (parts j).part
                (ascends_bind u env (element_ascending (parts j).over (bound_ascends over_bound)) (bindings_ascend j.form.bound))
                (parts j).branch.gives

            grows : forms (start j) ≤ forms (reached j)
            grows = forms_joined (start j) (parts j).part (start_asc j) part_asc

        pub each_bound : ResultAsked table shapes pool bindings result row d used dest deep → SomeBound shapes at kinds
        each_bound w = record { p = w.p; deep = deep; shape = (parts w.meets).over; bound = over_bound w.meets }

        module _ (bindings₁ : List ℕ) (binds : BindsElement shapes bindings bindings₁ d at kinds) where
          kept₁
              : {p : List ℕ} {m : ℕ} {r : Result} {env : List Shape} {t : Shape} {name : ℕ} {s : Shape}
              → MeetsResult table shapes pool bindings result p row d used dest m deep r env t name s → Kept bindings bindings₁ d
          kept₁ {p} j = (binds p deep (parts j).over (over_bound j)).kept

          pub each_kept_first : ResultAsked table shapes pool bindings result row d used dest deep → Kept bindings bindings₁ d
          each_kept_first w = kept₁ w.meets

          module _ (result₁ : List ℕ) (o₁ : Option ℕ) (q₁ : Readies result result₁ used dest o₁) where
            pub each_full_first : o₁ ≡ None → GivesResult table shapes pool bindings result result₁ row d used dest deep None
            each_full_first f p m r env t name s j =
                subst
                (λ (u : Shape). Over result result₁ used (2 * forms s) (2 * forms u))
                (into_is j)
                (list_unready j.stands j.within (tables_room tables) (reached j) (grows j)
                (ready_full result result₁ p used dest s o₁ (q₁ p name s j.stands j.within) f))

            module _ {opened : ℕ} (e₁ : o₁ ≡ Some opened) where
              module _
                  {p : List ℕ} {m : ℕ} {r : Result} {env : List Shape} {t : Shape} {name : ℕ} {s : Shape}
                  (j : MeetsResult table shapes pool bindings result p row d used dest m deep r env t name s)
                where
                  put₁ : Put result result₁ used opened (dest + 2) (2 * forms_element (element_of s)) (ShapeRows p 0 (start j))
                  put₁ = ready_put result result₁ p used dest s o₁ (q₁ p name s j.stands j.within) e₁

                  bound₁ : Bindings shapes p bindings₁ deep more_bound (element_shape (element_of (parts j).over) ∷ env)
                  bound₁ =
                      bound_more (parts j).branch bound_is refl j.form.bound (binds p deep (parts j).over (over_bound j))

                  meets₁
                      : MeetsResult table shapes pool bindings₁ result₁ p at_part more_bound (used + opened) (dest + 2) 0 deep (parts j).branch.result
                      (element_shape (element_of (parts j).over) ∷ env) (parts j).part 0 (start j)
                  meets₁ =
                      branch_meets j.form.pooled
                      (list_stands j.stands j.within (tables_room tables) put₁)
                      (list_within j.stands j.within (tables_room tables) put₁)
                      (start_asc j)
                      (kept₁ j).same
                      (parts j).branch
                      part_is
                      bound_is
                      bound₁

              pub each_asked
                  : ResultAsked table shapes pool bindings result row d used dest deep
                  → ResultAsked table shapes pool bindings₁ result₁ at_part more_bound (used + opened) (dest + 2) deep
              each_asked w =
                  let j = w.meets in
                  record {
                    p = w.p;
                    m = 0;
                    form = (parts j).branch.result;
                    env = element_shape (element_of (parts j).over) ∷ w.env;
                    given = (parts j).part;
                    name = 0;
                    old = start j;
                    meets = meets₁ j;
                  }

              pub each_tables : ResultAsked table shapes pool bindings result row d used dest deep → Tables shapes result₁ (used + opened)
              each_tables w =
                  let j = w.meets in
                  let x = list_room j.stands j.within (tables_room tables) (put₁ j) in
                  record { enough = x.enough; small = omega (arith, tables.small, (put₁ j).replaced.same); few = tables.few }

              module _ (bindings₂ result₂ : List ℕ) (o₂ : Option ℕ)
                  (q₂ : GivesResult table shapes pool bindings₁ result₁ result₂ at_part more_bound (used + opened) (dest + 2) deep o₂)
                  (kept₂ : Kept bindings₁ bindings₂ more_bound)
                where
                  become₂
                      : {p : List ℕ} {m : ℕ} {r : Result} {env : List Shape} {t : Shape} {name : ℕ} {s : Shape}
                      (j : MeetsResult table shapes pool bindings result p row d used dest m deep r env t name s)
                      → Becomes result₁ result₂ p (used + opened) (dest + 2) 0 (start j) (reached j) o₂
                  become₂ {p} {env = env} j =
                      q₂ p 0 (parts j).branch.result (element_shape (element_of (parts j).over) ∷ env) (parts j).part 0 (start j) (meets₁ j)

                  pub each_kept : ResultAsked table shapes pool bindings result row d used dest deep → Kept bindings bindings₂ d
                  each_kept w = kept_then bindings bindings₁ bindings₂ d more_bound (omega (arith, bound_is)) (kept₁ w.meets) kept₂

                  pub each_full_then : o₂ ≡ None → GivesResult table shapes pool bindings result result₂ row d used dest deep None
                  each_full_then f p m r env t name s j =
                      subst
                      (λ (u : Shape). Over result result₂ used (2 * forms s) (2 * forms u))
                      (into_is j)
                      (list_over j.stands j.within (tables_room tables) (put₁ j) (reached j)
                      (was_full result₁ result₂ p (used + opened) (dest + 2) 0 (start j) (reached j) f (become₂ j)))

                  module _ {words : ℕ} (e₂ : o₂ ≡ Some words) where
                    risen
                        : {p : List ℕ} {m : ℕ} {r : Result} {env : List Shape} {t : Shape} {name : ℕ} {s : Shape}
                        (j : MeetsResult table shapes pool bindings result p row d used dest m deep r env t name s)
                        → Risen result result₂ p used dest name s (with_element (reached j) s) (opened + words)
                    risen {p} j =
                        list_risen j.stands j.within (tables_room tables) (put₁ j) (reached j)
                        (became result₁ result₂ p (used + opened) (dest + 2) 0 (start j) (reached j) e₂ (become₂ j))

                    pub each_raise
                        : ResultAsked table shapes pool bindings result row d used dest deep
                        → (dest < length result₂) × (head_of (bit_or (get_or result₂ dest 0 % 128) 32) (size_at result₂ dest + (opened + words)) < 2 ^ 64)
                    each_raise w = risen_fits 32 (risen w.meets) (bits_with_element (reached w.meets) w.old) (tables_room tables).small

                    pub each_words : ResultAsked table shapes pool bindings result row d used dest deep → used + (opened + words) ≤ 65536
                    each_words w = omega (arith, (risen w.meets).split.fits, (risen w.meets).same, tables.small)

                    pub each_answer
                        : {result₃ : List ℕ}
                        → result₃
                        ≡ take dest result₂
                        ++ head_of (bit_or (get_or result₂ dest 0 % 128) 32) (size_at result₂ dest + (opened + words))
                        ∷ drop (dest + 1) result₂
                        → length result₃ ≡ length result₂ → GivesResult table shapes pool bindings result result₃ row d used dest deep (Some (opened + words))
                    each_answer {result₃} f l p m r env t name s j =
                        becomes_as result result₃ p used dest name s (Some (opened + words)) (into_is j)
                        (risen_put 32 (risen j) (bits_with_element (reached j) s) f l)
