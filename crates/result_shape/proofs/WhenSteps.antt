-- `when`: both branches joined into one shape, each with its own kinds of the place bound. Assumes nothing.
use Prim.Native.Nat.{ℕ, suc, ◌+◌, ◌*◌, ◌/◌, ◌%◌, ◌^◌, ◌≤◌, ◌<◌}
use native.Mathlib.Omega.{arith}
use mathlib.Core.Path.{◌≡◌, refl, sym, subst, ◌∙◌}
use mathlib.Core.Bool.{true}
use mathlib.Core.List.{List, ◌∷◌}
use lib.ListN.{length, get_or, set}
use Rattle.definitions.specs.Shape.{Shape, ascending, forms}
use Rattle.definitions.specs.Join.{join}
use Rattle.definitions.specs.Reader.{Result}
use Rattle.definitions.specs.Checking.{cut_to, taken_out}
use Rattle.laws.specs.SoundShapes.{ascends_bind}
use Rattle.shapes.specs.Shapes.{kind_bits, ShapeRows}
use Rattle.shapes.specs.ShapesLaws.{kind_bits_lt}
use Rattle.join.specs.Replacing.{Put, Becomes}
use Rattle.std.specs.Prelude.{Option}
use Rattle.std.specs.Prelude.{Some, None}
use Rattle.forms.specs.FormsLaws.{stands_code, stands_size, stands_within, forms_some}
use Rattle.forms.specs.PartsLaws.{after}
use Rattle.checking.specs.Bindings.{Bound, binding, Bindings, Kept}
use Rattle.checking.specs.BindingsLaws.{bindings_kept, bound_cut, bound_out, binds, bind_kept}
use Rattle.checking.specs.KindSets.{TellsCut, TellsOut}
use Rattle.checking.specs.CheckContracts.{PlaceAsked, GivesPlace}
use Rattle.std.specs.Prelude.{Ok, Err}
use Rattle.reading.specs.declared.Refusal.{Refusal}
use Rattle.checking.specs.CheckContracts.{Located}
use Rattle.result_shape.specs.ResultsLaws.{bound_ascends, bindings_ascend, given_ascends}
use Rattle.result_shape.specs.Giving.{Tables, MeetsResult, ResultAsked, GivesResult}
use Rattle.result_shape.proofs.Parts.{WhenParts, when_parts, branch_room}
use Rattle.result_shape.proofs.Places.{place_asked, never_refused, found_bound}
use Rattle.result_shape.proofs.Steps.{became, was_full, put_stands, put_within, put_tables}
use Rattle.result_shape.proofs.Branches.{kept_then, branch_meets, bound_more, binding_fits, both_ascends, both_full_first, both_full_then, both_put}

module _
    {table shapes pool bindings result : List ℕ} {row d used dest deep first second more_bound : ℕ} (tables : Tables shapes result used)
    (code : get_or table row 0 % 32 ≡ 10)
    (first_is : first ≡ after table (row + 3))
    (second_is : second ≡ after table (after table (row + 3)))
    (bound_is : more_bound ≡ suc d)
  where
    module _
        {p : List ℕ} {m : ℕ} {r : Result} {env : List Shape} {t : Shape} {name : ℕ} {s : Shape}
        (j : MeetsResult table shapes pool bindings result p row d used dest m deep r env t name s)
      where
        abbrev parts : WhenParts table shapes pool bindings p row d deep env t
        parts = when_parts r j.form j.gives j.once (sym (stands_code j.form.stands) ∙ code)

        there : d < length bindings
        there = branch_room parts.first

    pub when_asks : ResultAsked table shapes pool bindings result row d used dest deep → PlaceAsked table shapes pool bindings (row + 3)
    when_asks w = place_asked (parts w.meets).placed

    -- where the branches stand
    pub when_rows
        : ResultAsked table shapes pool bindings result row d used dest deep
        → (row + 3 ≤ first) × (first < second) × (second ≤ length table)
    when_rows w =
        let x = parts w.meets in (
          omega (arith, first_is),
          omega (arith, first_is, second_is, stands_size x.first.stands, forms_some x.first.result),
          omega (arith, second_is, stands_within x.second.stands),
        )

    pub when_room : ResultAsked table shapes pool bindings result row d used dest deep → d < length bindings
    when_room w = there w.meets

    module _ (o : Located) (q : GivesPlace table shapes pool bindings (row + 3) o) where
      pub when_never {ℓ}
          : {X : Type ℓ} {p : List ℕ} {m : ℕ} {r : Result} {env : List Shape} {t : Shape} {name : ℕ} {s : Shape} {why : Refusal}
          → MeetsResult table shapes pool bindings result p row d used dest m deep r env t name s → o ≡ Err why → X
      when_never j e = never_refused (parts j).placed o q e

      module _ {at kinds test : ℕ} (e : o ≡ Ok (record { row = at; kinds = record { kinds = kinds } })) (test_is : test ≡ get_or table row 0 / 32 % 64) where
        over_bound
            : {p : List ℕ} {m : ℕ} {r : Result} {env : List Shape} {t : Shape} {name : ℕ} {s : Shape}
            (j : MeetsResult table shapes pool bindings result p row d used dest m deep r env t name s)
            → Bound shapes p deep at kinds (parts j).over
        over_bound j = found_bound (parts j).placed o q e

        module _
            {p : List ℕ} {m : ℕ} {r : Result} {env : List Shape} {t : Shape} {name : ℕ} {s : Shape}
            (j : MeetsResult table shapes pool bindings result p row d used dest m deep r env t name s)
          where
            asc₁ : ascending (parts j).one ≡ true
            asc₁ =
                let u : Shape = cut_to (parts j).test (parts j).over in
                given_ascends (parts j).first.result (u ∷ env) (parts j).one
                (ascends_bind u env (bound_ascends (bound_cut (parts j).test (over_bound j))) (bindings_ascend j.form.bound))
                (parts j).first.gives

            asc₂ : ascending (parts j).two ≡ true
            asc₂ =
                let u : Shape = taken_out (parts j).test (parts j).over in
                given_ascends (parts j).second.result (u ∷ env) (parts j).two
                (ascends_bind u env (bound_ascends (bound_out (parts j).test (over_bound j))) (bindings_ascend j.form.bound))
                (parts j).second.gives

        module _ {cut : ℕ} (tells : TellsCut kinds test cut) where
          module _
              {p : List ℕ} {m : ℕ} {r : Result} {env : List Shape} {t : Shape} {name : ℕ} {s : Shape}
              (j : MeetsResult table shapes pool bindings result p row d used dest m deep r env t name s)
            where
              cut_is : cut ≡ kind_bits (cut_to (parts j).test (parts j).over)
              cut_is = tells (parts j).test (parts j).over (test_is ∙ (parts j).tested) (sym (over_bound j).left)

              cut_bound : Bound shapes p deep at cut (cut_to (parts j).test (parts j).over)
              cut_bound =
                  subst
                  (λ (k : ℕ). Bound shapes p deep at k (cut_to (parts j).test (parts j).over))
                  (sym cut_is)
                  (bound_cut (parts j).test (over_bound j))

              cut_few : cut < 128
              cut_few = subst (λ (k : ℕ). k < 128) (sym cut_is) (kind_bits_lt (cut_to (parts j).test (parts j).over))

          pub cut_fits : ResultAsked table shapes pool bindings result row d used dest deep → binding at cut < 2 ^ 64
          cut_fits w =
              let j = w.meets in
              binding_fits cut (cut_to (parts j).test (parts j).over) (over_bound j) (cut_is j) tables.few

          module _ {bindings₁ : List ℕ} (put : bindings₁ ≡ set bindings d (binding at cut)) where
            module _
                {p : List ℕ} {m : ℕ} {r : Result} {env : List Shape} {t : Shape} {name : ℕ} {s : Shape}
                (j : MeetsResult table shapes pool bindings result p row d used dest m deep r env t name s)
              where
                kept₁ : Kept bindings bindings₁ d
                kept₁ = bind_kept bindings bindings₁ d at cut put (there j) (cut_few j)

                bound₁ : Bindings shapes p bindings₁ deep more_bound (cut_to (parts j).test (parts j).over ∷ env)
                bound₁ = bound_more (parts j).first bound_is refl j.form.bound (binds bindings bindings₁ d at cut put (there j) (cut_few j) (cut_bound j))

                meets₁
                    : MeetsResult table shapes pool bindings₁ result p first more_bound used dest 0 deep (parts j).first.result
                    (cut_to (parts j).test (parts j).over ∷ env) (parts j).one name s
                meets₁ =
                    branch_meets j.form.pooled j.stands j.within j.ascends kept₁.same
                    (parts j).first first_is bound_is bound₁

            pub when_kept_first : ResultAsked table shapes pool bindings result row d used dest deep → Kept bindings bindings₁ d
            when_kept_first w = kept₁ w.meets

            pub when_asked
                : ResultAsked table shapes pool bindings result row d used dest deep
                → ResultAsked table shapes pool bindings₁ result first more_bound used dest deep
            when_asked w =
                let j = w.meets in
                record {
                  p = w.p;
                  m = 0;
                  form = (parts j).first.result;
                  env = cut_to (parts j).test (parts j).over ∷ w.env;
                  given = (parts j).one;
                  name = w.name;
                  old = w.old;
                  meets = meets₁ j;
                }

            module _ (bindings₂ result₁ : List ℕ) (o₁ : Option ℕ)
                (q₁ : GivesResult table shapes pool bindings₁ result result₁ first more_bound used dest deep o₁) (kept : Kept bindings₁ bindings₂ more_bound)
              where
                become₁
                    : {p : List ℕ} {m : ℕ} {r : Result} {env : List Shape} {t : Shape} {name : ℕ} {s : Shape}
                    (j : MeetsResult table shapes pool bindings result p row d used dest m deep r env t name s)
                    → Becomes result result₁ p used dest name s (join s (parts j).one) o₁
                become₁ {p} {env = env} {name = name} {s} j =
                    q₁ p 0 (parts j).first.result (cut_to (parts j).test (parts j).over ∷ env) (parts j).one name s (meets₁ j)

                kept₂
                    : {p : List ℕ} {m : ℕ} {r : Result} {env : List Shape} {t : Shape} {name : ℕ} {s : Shape}
                    → MeetsResult table shapes pool bindings result p row d used dest m deep r env t name s → Kept bindings bindings₂ d
                kept₂ j = kept_then bindings bindings₁ bindings₂ d more_bound (omega (arith, bound_is)) (kept₁ j) kept

                pub when_kept_then : ResultAsked table shapes pool bindings result row d used dest deep → Kept bindings bindings₂ d
                when_kept_then w = kept₂ w.meets

                pub when_full_first : o₁ ≡ None → GivesResult table shapes pool bindings result result₁ row d used dest deep None
                when_full_first f p m r env t name s j =
                    let x = parts j in
                    both_full_first t x.one x.two j.stands j.within tables j.ascends (asc₁ j) (asc₂ j) x.same
                    (was_full result result₁ p used dest name s (join s x.one) f (become₁ j))

                module _ {words out : ℕ} (e₁ : o₁ ≡ Some words) (tells_out : TellsOut kinds test out) where
                  module _
                      {p : List ℕ} {m : ℕ} {r : Result} {env : List Shape} {t : Shape} {name : ℕ} {s : Shape}
                      (j : MeetsResult table shapes pool bindings result p row d used dest m deep r env t name s)
                    where
                      put₁ : Put result result₁ used words dest (2 * forms s) (ShapeRows p name (join s (parts j).one))
                      put₁ = became result result₁ p used dest name s (join s (parts j).one) e₁ (become₁ j)

                      out_is : out ≡ kind_bits (taken_out (parts j).test (parts j).over)
                      out_is = tells_out (parts j).test (parts j).over (test_is ∙ (parts j).tested) (sym (over_bound j).left)

                      out_bound : Bound shapes p deep at out (taken_out (parts j).test (parts j).over)
                      out_bound =
                          subst
                          (λ (k : ℕ). Bound shapes p deep at k (taken_out (parts j).test (parts j).over))
                          (sym out_is)
                          (bound_out (parts j).test (over_bound j))

                      out_few : out < 128
                      out_few = subst (λ (k : ℕ). k < 128) (sym out_is) (kind_bits_lt (taken_out (parts j).test (parts j).over))

                      there₂ : d < length bindings₂
                      there₂ = omega (arith, there j, (kept₂ j).same)

                  pub when_tables : ResultAsked table shapes pool bindings result row d used dest deep → Tables shapes result₁ (used + words)
                  when_tables w = put_tables w.meets.stands w.meets.within tables (put₁ w.meets)

                  pub out_fits
                      : ResultAsked table shapes pool bindings result row d used dest deep → (d < length bindings₂) × (binding at out < 2 ^ 64)
                  out_fits w =
                      let j = w.meets in (
                        there₂ j,
                        binding_fits out (taken_out (parts j).test (parts j).over) (over_bound j) (out_is j) tables.few,
                      )

                  module _ {bindings₃ : List ℕ} (put_out : bindings₃ ≡ set bindings₂ d (binding at out)) where
                    module _
                        {p : List ℕ} {m : ℕ} {r : Result} {env : List Shape} {t : Shape} {name : ℕ} {s : Shape}
                        (j : MeetsResult table shapes pool bindings result p row d used dest m deep r env t name s)
                      where
                        kept₃ : Kept bindings₂ bindings₃ d
                        kept₃ = bind_kept bindings₂ bindings₃ d at out put_out (there₂ j) (out_few j)

                        bound₃ : Bindings shapes p bindings₃ deep more_bound (taken_out (parts j).test (parts j).over ∷ env)
                        bound₃ =
                            bound_more (parts j).second bound_is (kept₂ j).same (bindings_kept j.form.bound (kept₂ j))
                            (binds bindings₂ bindings₃ d at out put_out (there₂ j) (out_few j) (out_bound j))

                        meets₂
                            : MeetsResult table shapes pool bindings₃ result₁ p second more_bound (used + words) dest 0 deep (parts j).second.result
                            (taken_out (parts j).test (parts j).over ∷ env) (parts j).two name (join s (parts j).one)
                        meets₂ =
                            branch_meets j.form.pooled
                            (put_stands j.stands j.within tables (put₁ j))
                            (put_within j.stands j.within tables (put₁ j))
                            (both_ascends t (parts j).one (parts j).two j.stands j.within tables j.ascends (asc₁ j) (asc₂ j) (parts j).same)
                            (kept₃.same ∙ (kept₂ j).same)
                            (parts j).second
                            second_is
                            bound_is
                            bound₃

                    pub when_asked_then
                        : ResultAsked table shapes pool bindings result row d used dest deep
                        → ResultAsked table shapes pool bindings₃ result₁ second more_bound (used + words) dest deep
                    when_asked_then w =
                        let j = w.meets in
                        record {
                          p = w.p;
                          m = 0;
                          form = (parts j).second.result;
                          env = taken_out (parts j).test (parts j).over ∷ w.env;
                          given = (parts j).two;
                          name = w.name;
                          old = join w.old (parts j).one;
                          meets = meets₂ j;
                        }

                    module _ (bindings₄ result₂ : List ℕ) (o₂ : Option ℕ)
                        (q₂ : GivesResult table shapes pool bindings₃ result₁ result₂ second more_bound (used + words) dest deep o₂)
                        (kept₄ : Kept bindings₃ bindings₄ more_bound)
                      where
                        become₂
                            : {p : List ℕ} {m : ℕ} {r : Result} {env : List Shape} {t : Shape} {name : ℕ} {s : Shape}
                            (j : MeetsResult table shapes pool bindings result p row d used dest m deep r env t name s)
                            → Becomes result₁ result₂ p (used + words) dest name (join s (parts j).one) (join (join s (parts j).one) (parts j).two) o₂
                        become₂ {p} {env = env} {name = name} {s} j =
                            q₂ p 0 (parts j).second.result (taken_out (parts j).test (parts j).over ∷ env) (parts j).two name
                            (join s (parts j).one) (meets₂ j)

                        pub when_kept : ResultAsked table shapes pool bindings result row d used dest deep → Kept bindings bindings₄ d
                        when_kept w =
                            kept_then bindings bindings₃ bindings₄ d more_bound (omega (arith, bound_is))
                            (kept_then bindings bindings₂ bindings₃ d d (omega arith) (kept₂ w.meets) (kept₃ w.meets)) kept₄

                        pub when_full_then : o₂ ≡ None → GivesResult table shapes pool bindings result result₂ row d used dest deep None
                        when_full_then f p m r env t name s j =
                            let x = parts j in
                            both_full_then t x.one x.two j.stands j.within tables j.ascends (asc₁ j) (asc₂ j) x.same (put₁ j)
                            (was_full result₁ result₂ p (used + words) dest name (join s x.one) (join (join s x.one) x.two) f (become₂ j))

                        module _ {more : ℕ} (e₂ : o₂ ≡ Some more) where
                          pub when_answer : GivesResult table shapes pool bindings result result₂ row d used dest deep (Some (words + more))
                          when_answer p m r env t name s j =
                              let x = parts j in
                              both_put t x.one x.two j.stands j.within tables j.ascends (asc₁ j) (asc₂ j) x.same (put₁ j)
                              (became result₁ result₂ p (used + words) dest name (join s x.one) (join (join s x.one) x.two) e₂ (become₂ j))

                          pub when_words : ResultAsked table shapes pool bindings result row d used dest deep → used + (words + more) ≤ 65536
                          when_words w =
                              let x = when_answer w.p w.m w.form w.env w.given w.name w.old w.meets in
                              omega (arith, x.replaced.within, tables.small)
