-- `if`, as it is checked. Assumes nothing.
use Prim.Native.Nat.{ℕ, ◌+◌, ◌/◌, ◌%◌, ◌≤◌}
use mathlib.Core.Path.{◌≡◌, refl, sym, ap, ap₂, subst, ◌∙◌}
use mathlib.Core.List.{List}
use native.Mathlib.Omega.{arith}
use lib.Bits.{bit_or}
use lib.ListN.{length, get_or}
use Rattle.definitions.specs.Outcome.{Outcome, ok, ◌>>=◌}
use Rattle.definitions.specs.Shape.{Shape, among, rank}
use Rattle.definitions.specs.Join.{join}
use Rattle.definitions.specs.Reader.{Result}
use Rattle.definitions.specs.Checking.{wants, if_kinds, check}
use Rattle.laws.specs.FormGrammar.{result_levels}
use Rattle.shapes.specs.Shapes.{bit}
use Rattle.shapes.specs.ShapesLaws.{union_bits}
use Rattle.forms.specs.Forms.{form_code, form_at, FormStands}
use Rattle.forms.specs.FormsLaws.{forms_some, stands_at, stands_within}
use Rattle.forms.specs.PartsLaws.{after, choose_first, choose_second, choose_third, literal_stands}
use Rattle.std.specs.Prelude.{Ok, Err}
use Rattle.reading.specs.declared.Refusal.{Refusal}
use Rattle.reading.specs.Refusals.{refused_as}
use Rattle.shapes.specs.declared.Shape as bits
use Rattle.checking.specs.KindSets.{flags}
use Rattle.checking.specs.Bindings.{Kept}
use Rattle.checking.specs.BindingsLaws.{bindings_kept}
use Rattle.checking.specs.WantsLaws.{wanted}
use Rattle.checking.specs.CheckContracts.{Checked, Checks, MeetsForm, FormAsked, GivesForm, TellsWant}
use Rattle.checking.proofs.SimpleForms.{conversion_code_le, literal_code_ge}
use Rattle.checking.proofs.FormWalk.{kept_then, coded_as, part_told}

bool_wanted : 2 ≡ wanted if_kinds
unfolding flags among rank if_kinds bit
bool_wanted = refl

-- the form that has the code of `if`
data IsChoose : Result → Type 0 where
  is_choose : {at : ℕ} {r₁ r₂ r₃ : Result} → IsChoose (Result.choose at r₁ r₂ r₃)

choose_coded : {forms p : List ℕ} {row d m : ℕ} (r : Result) → FormStands forms p row d m r → form_code r ≡ 11 → IsChoose r
unfolding form_code
choose_coded (Result.convert at c q) h e = absurd (let z : ⊥ = omega (arith, conversion_code_le c) in z)
choose_coded (Result.keep at q) h e = absurd (let z : ⊥ = omega arith in z)
choose_coded (Result.count at q) h e = absurd (let z : ⊥ = omega arith in z)
choose_coded (Result.each at q r) h e = absurd (let z : ⊥ = omega arith in z)
choose_coded (Result.when at k q r₁ r₂) h e = absurd (let z : ⊥ = omega arith in z)
choose_coded (Result.choose at r₁ r₂ r₃) h e = is_choose
choose_coded (Result.literal at v) h e = absurd (let z : ⊥ = omega (arith, literal_code_ge v (literal_stands h)) in z)
choose_coded (Result.pack at ps) h e = absurd (let z : ⊥ = omega arith in z)

module _ (at n d : ℕ) (r₁ r₂ r₃ : Result) (h : d + result_levels (Result.choose at r₁ r₂ r₃) ≤ n + 1) where
  first_room : d + result_levels r₁ ≤ n + 1
  unfolding result_levels
  first_room = omega (arith, h)

  second_room : d + result_levels r₂ ≤ n + 1
  unfolding result_levels
  second_room = omega (arith, h)

  third_room : d + result_levels r₃ ≤ n + 1
  unfolding result_levels
  third_room = omega (arith, h)

module _ (forms shapes pool b : List ℕ) (row d : ℕ) (choose : get_or forms row 0 % 32 ≡ 11) where
  abbrev Meets : (p : List ℕ) (m deep : ℕ) → Result → List Shape → Type 0
  Meets p m deep r env = MeetsForm forms shapes pool b p row d m deep r env

  -- the first row of the second result, and of the third
  abbrev second : ℕ
  second = after forms (row + 3)

  abbrev third : ℕ
  third = after forms second

  as_choose : {p : List ℕ} {m deep : ℕ} {r : Result} {env : List Shape} → Meets p m deep r env → IsChoose r
  as_choose {r} h = choose_coded r h.stands (coded_as choose h.stands)

  pub choose_ends : FormAsked forms shapes pool b row d → (second + 3 ≤ length forms) × (third + 3 ≤ length forms)
  choose_ends h = go (as_choose h.meets) h.meets
    where
      go : {r : Result} → IsChoose r → Meets h.p h.m h.deep r h.env → (second + 3 ≤ length forms) × (third + 3 ≤ length forms)
      go (is_choose {at} {r₁} {r₂} {r₃}) m = (
        omega (arith, stands_within (choose_second m.stands), forms_some r₂),
        omega (arith, stands_within (choose_third m.stands), forms_some r₃),
      )

  -- what comes behind the first result, and behind the second
  abbrev behind_first : (at : ℕ) (r₂ r₃ : Result) (env : List Shape) → Outcome ℕ Shape → Outcome ℕ Shape
  behind_first at r₂ r₃ env o = o >>= λ t₁. check r₂ env >>= λ t₂. check r₃ env >>= λ t₃. wants at if_kinds t₁ (ok (join t₂ t₃))

  abbrev behind_second : (at : ℕ) (r₃ : Result) (env : List Shape) (t₁ : Shape) → Outcome ℕ Shape → Outcome ℕ Shape
  behind_second at r₃ env t₁ o = o >>= λ t₂. check r₃ env >>= λ t₃. wants at if_kinds t₁ (ok (join t₂ t₃))

  first_meets
      : {p : List ℕ} {m deep at : ℕ} {r₁ r₂ r₃ : Result} {env : List Shape} → Meets p m deep (Result.choose at r₁ r₂ r₃) env
      → MeetsForm forms shapes pool b p (row + 3) d 0 deep r₁ env
  first_meets {at} {r₁} {r₂} {r₃} h =
      record {
        pooled = h.pooled;
        stands = choose_first h.stands;
        bound = h.bound;
        room = first_room at (length b) d r₁ r₂ r₃ h.room;
      }

  module _ (asked : FormAsked forms shapes pool b row d) where
    pub first_asked : FormAsked forms shapes pool b (row + 3) d
    first_asked = go (as_choose asked.meets) asked.meets
      where
        go : {r : Result} → IsChoose r → Meets asked.p asked.m asked.deep r asked.env → FormAsked forms shapes pool b (row + 3) d
        go (is_choose {at} {r₁} {r₂} {r₃}) m =
            record { p = asked.p; m = 0; deep = asked.deep; form = r₁; env = asked.env; meets = first_meets m }

    module _ (b₁ : List ℕ) (part₁ : Checked) (answer₁ : GivesForm forms shapes pool b b₁ (row + 3) d part₁) where
      first_refuses
          : {why : Refusal} → part₁ ≡ Err why → {p : List ℕ} {m deep : ℕ} {env : List Shape} {r : Result}
          → IsChoose r → Meets p m deep r env → check r env ≡ refused_as why
      unfolding check ◌>>=◌
      first_refuses {why} f {env} (is_choose {at} {r₁} {r₂} {r₃}) h =
          ap (behind_first at r₂ r₃ env) (part_told forms shapes pool part₁ (Err why) answer₁ f (first_meets h))

      pub first_refused : {why : Refusal} → part₁ ≡ Err why → GivesForm forms shapes pool b b₁ row d (Err why)
      first_refused f = record { told = λ p m deep r env h. first_refuses f (as_choose h) h; kept = answer₁.kept }

      module _ {given₁ : bits.Shape} (f : part₁ ≡ Ok given₁) {at_second : ℕ} (second_is : at_second ≡ second) where
        told_first
            : {p : List ℕ} {m deep at : ℕ} {r₁ r₂ r₃ : Result} {env : List Shape} → Meets p m deep (Result.choose at r₁ r₂ r₃) env
            → Checks (check r₁ env) (Ok given₁)
        told_first h = part_told forms shapes pool part₁ (Ok given₁) answer₁ f (first_meets h)

        second_Meets
            : {p : List ℕ} {m deep at : ℕ} {r₁ r₂ r₃ : Result} {env : List Shape} → Meets p m deep (Result.choose at r₁ r₂ r₃) env
            → MeetsForm forms shapes pool b₁ p at_second d 0 deep r₂ env
        second_Meets {at} {r₁} {r₂} {r₃} h =
            record {
              pooled = h.pooled;
              stands = rw second_is (choose_second h.stands);
              bound = bindings_kept h.bound answer₁.kept;
              room = let l = second_room at (length b) d r₁ r₂ r₃ h.room in omega (arith, answer₁.kept.same);
            }

        pub second_asked : FormAsked forms shapes pool b₁ at_second d
        second_asked = go (as_choose asked.meets) asked.meets
          where
            go : {r : Result} → IsChoose r → Meets asked.p asked.m asked.deep r asked.env → FormAsked forms shapes pool b₁ at_second d
            go (is_choose {at} {r₁} {r₂} {r₃}) m =
                record { p = asked.p; m = 0; deep = asked.deep; form = r₂; env = asked.env; meets = second_Meets m }

        module _ (b₂ : List ℕ) (part₂ : Checked) (answer₂ : GivesForm forms shapes pool b₁ b₂ at_second d part₂) where
          kept_second : Kept b b₂ d
          kept_second = kept_then answer₁.kept answer₂.kept

          second_refuses
              : {why : Refusal} → part₂ ≡ Err why → {p : List ℕ} {m deep : ℕ} {env : List Shape} {r : Result}
              → IsChoose r → Meets p m deep r env → check r env ≡ refused_as why
          unfolding check ◌>>=◌
          second_refuses {why} g {env} (is_choose {at} {r₁} {r₂} {r₃}) h =
              let t = told_first h in
              ap (behind_first at r₂ r₃ env) t.1
              ∙ ap (behind_second at r₃ env t.0)
              (part_told forms shapes pool part₂ (Err why) answer₂ g (second_Meets h))

          pub second_refused : {why : Refusal} → part₂ ≡ Err why → GivesForm forms shapes pool b b₂ row d (Err why)
          second_refused g = record { told = λ p m deep r env h. second_refuses g (as_choose h) h; kept = kept_second }

          module _ {given₂ : bits.Shape} (g : part₂ ≡ Ok given₂) {at_third : ℕ} (third_is : at_third ≡ third) where
            told_second
                : {p : List ℕ} {m deep at : ℕ} {r₁ r₂ r₃ : Result} {env : List Shape} → Meets p m deep (Result.choose at r₁ r₂ r₃) env
                → Checks (check r₂ env) (Ok given₂)
            told_second h = part_told forms shapes pool part₂ (Ok given₂) answer₂ g (second_Meets h)

            third_meets
                : {p : List ℕ} {m deep at : ℕ} {r₁ r₂ r₃ : Result} {env : List Shape} → Meets p m deep (Result.choose at r₁ r₂ r₃) env
                → MeetsForm forms shapes pool b₂ p at_third d 0 deep r₃ env
            third_meets {at} {r₁} {r₂} {r₃} h =
                record {
                  pooled = h.pooled;
                  stands = rw third_is (choose_third h.stands);
                  bound = bindings_kept h.bound kept_second;
                  room = let l = third_room at (length b) d r₁ r₂ r₃ h.room in omega (arith, kept_second.same);
                }

            pub third_asked : FormAsked forms shapes pool b₂ at_third d
            third_asked = go (as_choose asked.meets) asked.meets
              where
                go : {r : Result} → IsChoose r → Meets asked.p asked.m asked.deep r asked.env → FormAsked forms shapes pool b₂ at_third d
                go (is_choose {at} {r₁} {r₂} {r₃}) m =
                    record { p = asked.p; m = 0; deep = asked.deep; form = r₃; env = asked.env; meets = third_meets m }

            module _ (b₃ : List ℕ) (part₃ : Checked) (answer₃ : GivesForm forms shapes pool b₂ b₃ at_third d part₃) where
              kept_third : Kept b b₃ d
              kept_third = kept_then kept_second answer₃.kept

              whole_is
                  : {p : List ℕ} {m deep at : ℕ} {r₁ r₂ r₃ : Result} {env : List Shape} (h : Meets p m deep (Result.choose at r₁ r₂ r₃) env)
                  → check (Result.choose at r₁ r₂ r₃) env
                  ≡ (check r₃ env >>= λ t₃. wants at if_kinds (told_first h).0 (ok (join (told_second h).0 t₃)))
              unfolding check ◌>>=◌
              whole_is {at} {r₂} {r₃} {env} h =
                  ap (behind_first at r₂ r₃ env) (told_first h).1 ∙ ap (behind_second at r₃ env (told_first h).0) (told_second h).1

              third_refuses
                  : {why : Refusal} → part₃ ≡ Err why → {p : List ℕ} {m deep : ℕ} {env : List Shape} {r : Result}
                  → IsChoose r → Meets p m deep r env → check r env ≡ refused_as why
              unfolding ◌>>=◌
              third_refuses {why} k (is_choose {at} {r₁} {r₂} {r₃}) h =
                  whole_is h
                  ∙ ap (λ (o : Outcome ℕ Shape). o >>= λ t₃. wants at if_kinds (told_first h).0 (ok (join (told_second h).0 t₃)))
                  (part_told forms shapes pool part₃ (Err why) answer₃ k (third_meets h))

              pub third_refused : {why : Refusal} → part₃ ≡ Err why → GivesForm forms shapes pool b b₃ row d (Err why)
              third_refused k = record { told = λ p m deep r env h. third_refuses k (as_choose h) h; kept = kept_third }

              module _
                  {given₃ : bits.Shape} (k : part₃ ≡ Ok given₃) {place : ℕ} (near : place ≡ get_or forms row 0 / 2048 % 65536) (x : Checked)
                  {both : ℕ} (made : both ≡ bit_or given₂.kinds given₃.kinds) (w : TellsWant given₁.kinds 2 both place x) where
                chooses : {p : List ℕ} {m deep : ℕ} {env : List Shape} {r : Result} → IsChoose r → Meets p m deep r env → Checks (check r env) x
                unfolding ◌>>=◌ form_at
                chooses {env} (is_choose {at} {r₁} {r₂} {r₃}) h =
                    let t = told_first h in
                    let u = told_second h in
                    let v = part_told forms shapes pool part₃ (Ok given₃) answer₃ k (third_meets h) in
                    let same : wants place if_kinds t.0 (ok (join u.0 v.0)) ≡ check (Result.choose at r₁ r₂ r₃) env
                    = ap (λ (y : ℕ). wants y if_kinds t.0 (ok (join u.0 v.0))) (near ∙ stands_at h.stands)
                    ∙ sym (whole_is h ∙ ap (λ (o : Outcome ℕ Shape). o >>= λ t₃. wants at if_kinds t.0 (ok (join u.0 t₃))) v.1) in
                    subst
                    (λ (o : Outcome ℕ Shape). Checks o x)
                    same
                    (w if_kinds t.0 (join u.0 v.0) t.2 bool_wanted
                    (sym (union_bits u.0 v.0) ∙ ap₂ (λ (y z : ℕ). bit_or y z) u.2 v.2 ∙ sym made))

                pub choose_told : GivesForm forms shapes pool b b₃ row d x
                choose_told = record { told = λ p m deep r env h. chooses (as_choose h) h; kept = kept_third }
