-- `if`: both branches joined into one shape. Assumes nothing.
use Prim.Native.Nat.{ℕ, ◌+◌, ◌*◌, ◌%◌, ◌≤◌, ◌<◌}
use native.Mathlib.Omega.{arith}
use mathlib.Core.Path.{◌≡◌, refl, sym, ◌∙◌}
use mathlib.Core.Bool.{true}
use mathlib.Core.List.{List}
use lib.ListN.{length, get_or}
use Rattle.definitions.specs.Shape.{Shape, ascending, forms}
use Rattle.definitions.specs.Join.{join}
use Rattle.definitions.specs.Reader.{Result}
use Rattle.shapes.specs.Shapes.{ShapeRows}
use Rattle.join.specs.Replacing.{Put, Becomes}
use Rattle.std.specs.Prelude.{Option}
use Rattle.std.specs.Prelude.{Some, None}
use Rattle.forms.specs.FormsLaws.{stands_code, stands_size, stands_within, forms_some}
use Rattle.forms.specs.PartsLaws.{after}
use Rattle.checking.specs.Bindings.{Kept}
use Rattle.checking.specs.BindingsLaws.{bindings_kept}
use Rattle.result_shape.specs.ResultsLaws.{bindings_ascend, given_ascends}
use Rattle.result_shape.specs.Giving.{Tables, MeetsResult, ResultAsked, GivesResult}
use Rattle.result_shape.proofs.Parts.{ChooseParts, choose_parts}
use Rattle.result_shape.proofs.Steps.{became, was_full, put_stands, put_within, put_tables}
use Rattle.result_shape.proofs.Branches.{branch_meets, both_ascends, both_full_first, both_full_then, both_put}

module _
    {table shapes pool bindings result : List ℕ} {row d used dest deep first second : ℕ} (tables : Tables shapes result used)
    (code : get_or table row 0 % 32 ≡ 11)
    (first_is : first ≡ after table (row + 3))
    (second_is : second ≡ after table (after table (row + 3)))
  where
    module _
        {p : List ℕ} {m : ℕ} {r : Result} {env : List Shape} {t : Shape} {name : ℕ} {s : Shape}
        (j : MeetsResult table shapes pool bindings result p row d used dest m deep r env t name s)
      where
        abbrev parts : ChooseParts table p bindings row d env t
        parts = choose_parts r j.form j.gives j.once (sym (stands_code j.form.stands) ∙ code)

        asc₁ : ascending parts.one ≡ true
        asc₁ = given_ascends parts.first.result env parts.one (bindings_ascend j.form.bound) parts.first.gives

        asc₂ : ascending parts.two ≡ true
        asc₂ = given_ascends parts.second.result env parts.two (bindings_ascend j.form.bound) parts.second.gives

        meets₁ : MeetsResult table shapes pool bindings result p first d used dest 0 deep parts.first.result env parts.one name s
        meets₁ = branch_meets j.form.pooled j.stands j.within j.ascends refl parts.first first_is refl j.form.bound

    pub choose_asked
        : ResultAsked table shapes pool bindings result row d used dest deep
        → ResultAsked table shapes pool bindings result first d used dest deep
    choose_asked w =
        let x = parts w.meets in
        record {
          p = w.p;
          m = 0;
          form = x.first.result;
          env = w.env;
          given = x.one;
          name = w.name;
          old = w.old;
          meets = meets₁ w.meets;
        }

    -- where the branches stand
    pub choose_rows
        : ResultAsked table shapes pool bindings result row d used dest deep
        → (row + 3 ≤ first) × (first < second) × (second ≤ length table)
    choose_rows w =
        let x = parts w.meets in (
          omega (arith, first_is),
          omega (arith, first_is, second_is, stands_size x.first.stands, forms_some x.first.result),
          omega (arith, second_is, stands_within x.second.stands),
        )

    module _ (bindings₁ result₁ : List ℕ) (o₁ : Option ℕ) (q₁ : GivesResult table shapes pool bindings result result₁ first d used dest deep o₁)
        (kept : Kept bindings bindings₁ d) where
      pub choose_full_first : o₁ ≡ None → GivesResult table shapes pool bindings result result₁ row d used dest deep None
      choose_full_first e p m r env t name s j =
          let x = parts j in
          both_full_first t x.one x.two j.stands j.within tables j.ascends (asc₁ j) (asc₂ j) x.same
          (was_full result result₁ p used dest name s (join s x.one) e (q₁ p 0 x.first.result env x.one name s (meets₁ j)))

      module _ {words : ℕ} (e₁ : o₁ ≡ Some words) where
        module _
            {p : List ℕ} {m : ℕ} {r : Result} {env : List Shape} {t : Shape} {name : ℕ} {s : Shape}
            (j : MeetsResult table shapes pool bindings result p row d used dest m deep r env t name s)
          where
            put₁ : Put result result₁ used words dest (2 * forms s) (ShapeRows p name (join s (parts j).one))
            put₁ =
                let x = parts j in
                became result result₁ p used dest name s (join s x.one) e₁ (q₁ p 0 x.first.result env x.one name s (meets₁ j))

            meets₂
                : MeetsResult table shapes pool bindings₁ result₁ p second d (used + words) dest 0 deep (parts j).second.result env (parts j).two name
                (join s (parts j).one)
            meets₂ =
                branch_meets j.form.pooled
                (put_stands j.stands j.within tables put₁)
                (put_within j.stands j.within tables put₁)
                (both_ascends t (parts j).one (parts j).two j.stands j.within tables j.ascends (asc₁ j) (asc₂ j) (parts j).same)
                kept.same
                (parts j).second
                second_is
                refl
                (bindings_kept j.form.bound kept)

        pub choose_tables : ResultAsked table shapes pool bindings result row d used dest deep → Tables shapes result₁ (used + words)
        choose_tables w = put_tables w.meets.stands w.meets.within tables (put₁ w.meets)

        pub choose_asked_then
            : ResultAsked table shapes pool bindings result row d used dest deep
            → ResultAsked table shapes pool bindings₁ result₁ second d (used + words) dest deep
        choose_asked_then w =
            let x = parts w.meets in
            record {
              p = w.p;
              m = 0;
              form = x.second.result;
              env = w.env;
              given = x.two;
              name = w.name;
              old = join w.old x.one;
              meets = meets₂ w.meets;
            }

        module _ (result₂ : List ℕ) (o₂ : Option ℕ) (q₂ : GivesResult table shapes pool bindings₁ result₁ result₂ second d (used + words) dest deep o₂) where
          become₂
              : {p : List ℕ} {m : ℕ} {r : Result} {env : List Shape} {t : Shape} {name : ℕ} {s : Shape}
              (j : MeetsResult table shapes pool bindings result p row d used dest m deep r env t name s)
              → Becomes result₁ result₂ p (used + words) dest name (join s (parts j).one) (join (join s (parts j).one) (parts j).two) o₂
          become₂ {p} {env = env} {name = name} {s} j =
              let x = parts j in q₂ p 0 x.second.result env x.two name (join s x.one) (meets₂ j)

          pub choose_full_then : o₂ ≡ None → GivesResult table shapes pool bindings result result₂ row d used dest deep None
          choose_full_then e p m r env t name s j =
              let x = parts j in
              both_full_then t x.one x.two j.stands j.within tables j.ascends (asc₁ j) (asc₂ j) x.same (put₁ j)
              (was_full result₁ result₂ p (used + words) dest name (join s x.one) (join (join s x.one) x.two) e (become₂ j))

          module _ {more : ℕ} (e₂ : o₂ ≡ Some more) where
            pub choose_answer : GivesResult table shapes pool bindings result result₂ row d used dest deep (Some (words + more))
            choose_answer p m r env t name s j =
                let x = parts j in
                both_put t x.one x.two j.stands j.within tables j.ascends (asc₁ j) (asc₂ j) x.same (put₁ j)
                (became result₁ result₂ p (used + words) dest name (join s x.one) (join (join s x.one) x.two) e₂ (become₂ j))

            pub choose_words : ResultAsked table shapes pool bindings result row d used dest deep → used + (words + more) ≤ 65536
            choose_words w =
                let x = choose_answer w.p w.m w.form w.env w.given w.name w.old w.meets in
                omega (arith, x.replaced.within, tables.small)
