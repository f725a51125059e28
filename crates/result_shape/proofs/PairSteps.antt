-- One of a pack's results joined into the members of a shape. Assumes nothing.
use Prim.Native.Nat.{ℕ, ◌+◌, ◌≤◌}
use native.Mathlib.Omega.{arith}
use mathlib.Core.Path.{◌≡◌, sym, subst, ◌∙◌}
use mathlib.Core.Bool.{Bool, true, false}
use mathlib.Core.List.{List}
use lib.ListN.{get_or}
use Rattle.definitions.specs.Bytes.{Bytes}
use Rattle.definitions.specs.Shape.{Shape, Fields}
use Rattle.definitions.specs.Join.{join}
use Rattle.definitions.specs.Reader.{Result}
use Rattle.nodes.specs.Nodes.{Refers}
use Rattle.shapes.specs.Shapes.{kind_bits}
use Rattle.join.specs.Replacing.{Puts, Becomes}
use Rattle.std.specs.Prelude.{Option}
use Rattle.std.specs.Prelude.{Some, None}
use Rattle.growing.specs.Growing.{member_start}
use Rattle.growing.specs.GrowingLaws.{member_start_ascending}
use Rattle.growing.specs.Rows.{NewRow, MeetsFields, FieldsHeld, Finds}
use Rattle.growing.specs.MemberLaws.{listed_shape, listed_word, listed_stands, listed_within, listed_ascends, listed_become, gap_inside, new_unready}
use Rattle.growing.specs.MemberLaws.{new_stands, new_within, new_room, new_over, new_put, row_put}
use Rattle.forms.specs.FormsLaws.{stands_name}
use Rattle.result_shape.specs.Giving.{Tables, MeetsResult, ResultAsked, GivesResult, MeetsPair, PairAsked, GivesPair}
use Rattle.result_shape.proofs.Steps.{tables_room, became, was_full}

pub pair_held
    : {table shapes pool bindings result : List ℕ} {row d used first last deep : ℕ} → PairAsked table shapes pool bindings result row d used first last deep
    → FieldsHeld result pool used first last
pair_held w = record { part = w.p; fields = w.olds; meets = w.meets.fields }

module _
    {table shapes pool bindings result : List ℕ} {row d used first last deep label : ℕ} (had : Bool) (tables : Tables shapes result used)
    (label_is : label ≡ get_or table (row + 2) 0)
  where
    module _
        {p : List ℕ} {n : Bytes} {k : ℕ} {r : Result} {env : List Shape} {t : Shape} {fs : Fields}
        (h : MeetsPair table shapes pool bindings result p row d used first last deep n k r env t fs)
      where
        name_is : label ≡ k
        name_is = label_is ∙ stands_name h.form.stands

        refers_label : Refers p n label
        refers_label = subst (λ (x : ℕ). Refers p n x) (sym name_is) h.refers

    module _
        {at : ℕ}
        (places
        : (p : List ℕ) (fs : Fields) (n : Bytes) → MeetsFields result pool used first last p fs → Refers p n label
        → Finds result first last n p fs at true)
      where
        module _
            {p : List ℕ} {n : Bytes} {k : ℕ} {r : Result} {env : List Shape} {t : Shape} {fs : Fields}
            (h : MeetsPair table shapes pool bindings result p row d used first last deep n k r env t fs)
          where
            abbrev place_there : Finds result first last n p fs at true
            place_there = places p fs n h.fields (refers_label h)

            listed_meets
                : MeetsResult table shapes pool bindings result p row d used at k deep r env t (listed_word h.fields (tables_room tables) place_there)
                (listed_shape h.fields (tables_room tables) place_there)
            listed_meets =
                record {
                  form = h.form;
                  gives = h.gives;
                  once = h.once;
                  stands = listed_stands h.fields (tables_room tables) place_there;
                  within = listed_within h.fields (tables_room tables) place_there;
                  ascends = listed_ascends h.fields (tables_room tables) place_there h.ascend;
                }

        pub listed_asked
            : PairAsked table shapes pool bindings result row d used first last deep
            → ResultAsked table shapes pool bindings result row d used at deep
        listed_asked w =
            let f = place_there w.meets in
            record {
              p = w.p;
              m = w.word;
              form = w.form;
              env = w.env;
              given = w.given;
              name = listed_word w.meets.fields (tables_room tables) f;
              old = listed_shape w.meets.fields (tables_room tables) f;
              meets = listed_meets w.meets;
            }

        pub listed_answer
            : (result' : List ℕ) (o : Option ℕ) → GivesResult table shapes pool bindings result result' row d used at deep o
            → GivesPair table shapes pool bindings result result' row d used first last deep had o
        listed_answer result' o q p n k r env t fs h =
            let f = place_there h in
            listed_become h.fields (tables_room tables) f (member_start had) (λ (s : Shape). join s t) result' o
            (q p k r env t (listed_word h.fields (tables_room tables) f) (listed_shape h.fields (tables_room tables) f) (listed_meets h))

    module _
        {at : ℕ}
        (places
        : (p : List ℕ) (fs : Fields) (n : Bytes) → MeetsFields result pool used first last p fs → Refers p n label
        → Finds result first last n p fs at false)
      where
        place_new
            : {p : List ℕ} {n : Bytes} {k : ℕ} {r : Result} {env : List Shape} {t : Shape} {fs : Fields}
            → MeetsPair table shapes pool bindings result p row d used first last deep n k r env t fs → Finds result first last n p fs at false
        place_new {p} {n} {fs = fs} h = places p fs n h.fields (refers_label h)

        pub new_inside : PairAsked table shapes pool bindings result row d used first last deep → at ≤ used
        new_inside w =
            gap_inside had (λ (s : Shape). join s w.given) w.meets.fields w.meets.refers (tables_room tables) (place_new w.meets)

        module _ {kinds : ℕ} (result₁ : List ℕ) (o₁ : Option ℕ) (told : kinds ≡ kind_bits (member_start had))
            (q₁ : Puts result result₁ used at 0 2 (NewRow kinds label) o₁) where
          pub new_full_first : o₁ ≡ None → GivesPair table shapes pool bindings result result₁ row d used first last deep had None
          new_full_first e p n k r env t fs h =
              new_unready had (λ (s : Shape). join s t) h.fields h.refers (tables_room tables) (place_new h)
              (subst (λ (x : Option ℕ). Puts result result₁ used at 0 2 (NewRow kinds label) x) e q₁)

          module _ {opened : ℕ} (e₁ : o₁ ≡ Some opened) where
            module _
                {p : List ℕ} {n : Bytes} {k : ℕ} {r : Result} {env : List Shape} {t : Shape} {fs : Fields}
                (h : MeetsPair table shapes pool bindings result p row d used first last deep n k r env t fs)
              where
                new_meets : MeetsResult table shapes pool bindings result₁ p row d (used + opened) at k deep r env t k (member_start had)
                new_meets =
                    let g : Shape → Shape = λ s. join s t in
                    let q = row_put result result₁ used at kinds label o₁ q₁ e₁ in
                    record {
                      form = h.form;
                      gives = h.gives;
                      once = h.once;
                      stands = new_stands had g h.fields h.refers (tables_room tables) (place_new h) told (name_is h) q;
                      within = new_within had g h.fields h.refers (tables_room tables) (place_new h) told (name_is h) q;
                      ascends = member_start_ascending had;
                    }

            pub new_asked
                : PairAsked table shapes pool bindings result row d used first last deep
                → ResultAsked table shapes pool bindings result₁ row d (used + opened) at deep
            new_asked w =
                record {
                  p = w.p;
                  m = w.word;
                  form = w.form;
                  env = w.env;
                  given = w.given;
                  name = w.word;
                  old = member_start had;
                  meets = new_meets w.meets;
                }

            pub new_tables : PairAsked table shapes pool bindings result row d used first last deep → Tables shapes result₁ (used + opened)
            new_tables w =
                let h = w.meets in
                let q = row_put result result₁ used at kinds label o₁ q₁ e₁ in
                let x =
                new_room had (λ (s : Shape). join s w.given) h.fields h.refers (tables_room tables) (place_new h) told (name_is h) q in
                record { enough = x.enough; small = omega (arith, tables.small, q.replaced.same); few = tables.few }

            module _ (result₂ : List ℕ) (o₂ : Option ℕ) (q₂ : GivesResult table shapes pool bindings result₁ result₂ row d (used + opened) at deep o₂) where
              become₂
                  : {p : List ℕ} {n : Bytes} {k : ℕ} {r : Result} {env : List Shape} {t : Shape} {fs : Fields}
                  → MeetsPair table shapes pool bindings result p row d used first last deep n k r env t fs
                  → Becomes result₁ result₂ p (used + opened) at k (member_start had) (join (member_start had) t) o₂
              become₂ {p} {k = k} {r} {env} {t} h = q₂ p k r env t k (member_start had) (new_meets h)

              pub new_full_then : o₂ ≡ None → GivesPair table shapes pool bindings result result₂ row d used first last deep had None
              new_full_then e p n k r env t fs h =
                  new_over had (λ (s : Shape). join s t) h.fields h.refers (tables_room tables) (place_new h) told (name_is h)
                  (row_put result result₁ used at kinds label o₁ q₁ e₁)
                  (was_full result₁ result₂ p (used + opened) at k (member_start had) (join (member_start had) t) e (become₂ h))

              module _ {words : ℕ} (e₂ : o₂ ≡ Some words) where
                pub new_answer : GivesPair table shapes pool bindings result result₂ row d used first last deep had (Some (opened + words))
                new_answer p n k r env t fs h =
                    new_put had (λ (s : Shape). join s t) h.fields h.refers (tables_room tables) (place_new h) told (name_is h)
                    (row_put result result₁ used at kinds label o₁ q₁ e₁)
                    (became result₁ result₂ p (used + opened) at k (member_start had) (join (member_start had) t) e₂ (become₂ h))

                pub new_words : PairAsked table shapes pool bindings result row d used first last deep → used + (opened + words) ≤ 65536
                new_words w =
                    let x = new_answer w.p w.label w.word w.form w.env w.given w.olds w.meets in
                    omega (arith, x.replaced.within, tables.small)
