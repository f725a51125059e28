-- `when`, as it is checked. Assumes nothing.
use Prim.Native.Nat.{ℕ, ◌+◌, ◌/◌, ◌%◌, ◌≤◌, ◌<◌}
use mathlib.Core.Path.{◌≡◌, sym, ap, ap₂, subst, ◌∙◌}
use mathlib.Core.List.{List, ◌∷◌}
use native.Mathlib.Omega.{arith}
use lib.Bits.{bit_or}
use lib.ListN.{length, get_or, set}
use Rattle.definitions.specs.Outcome.{Outcome, ok, ◌>>=◌}
use Rattle.definitions.specs.Shape.{Shape}
use Rattle.definitions.specs.Join.{join}
use Rattle.definitions.specs.Reader.{Place, Test, Result}
use Rattle.definitions.specs.Checking.{cut_to, taken_out, check_place, check}
use Rattle.laws.specs.FormGrammar.{result_levels}
use Rattle.shapes.specs.Shapes.{kind_bits}
use Rattle.shapes.specs.ShapesLaws.{kind_bits_lt, union_bits, stands_row}
use Rattle.forms.specs.Forms.{test_code, form_code, form_operand, FormStands}
use Rattle.forms.specs.FormsLaws.{forms_some, levels_some, stands_operand, stands_within}
use Rattle.forms.specs.PartsLaws.{after, when_place, when_first, when_second, literal_stands}
use Rattle.std.specs.Prelude.{Ok, Err}
use Rattle.reading.specs.declared.Refusal.{Refusal}
use Rattle.reading.specs.Refusals.{refused_as}
use Rattle.shapes.specs.declared.Shape as bits
use Rattle.checking.specs.declared.bindings.Binding.{Binding}
use Rattle.checking.specs.KindSets.{TellsCut, TellsOut}
use Rattle.checking.specs.Bindings.{Bound, binding, Kept}
use Rattle.checking.specs.BindingsLaws.{bound_cut, bound_out, bind_kept, binds, bindings_kept}
use Rattle.checking.specs.CheckContracts.{Located, Checked, Locates, Checks, PlaceAsked, GivesPlace, MeetsForm, FormAsked, GivesForm}
use Rattle.checking.proofs.SimpleForms.{conversion_code_le, literal_code_ge}
use Rattle.checking.proofs.FormWalk.{kept_same, kept_then, kept_less, coded_as, place_told, part_told, part_bound}

-- the form that has the code of `when`
data IsWhen : Result → Type 0 where
  is_when : {at : ℕ} {k : Test} {q : Place} {r₁ r₂ : Result} → IsWhen (Result.when at k q r₁ r₂)

when_coded : {forms p : List ℕ} {row d m : ℕ} (r : Result) → FormStands forms p row d m r → form_code r ≡ 10 → IsWhen r
unfolding form_code
when_coded (Result.convert at c q) h e = absurd (let z : ⊥ = omega (arith, conversion_code_le c) in z)
when_coded (Result.keep at q) h e = absurd (let z : ⊥ = omega arith in z)
when_coded (Result.count at q) h e = absurd (let z : ⊥ = omega arith in z)
when_coded (Result.each at q r) h e = absurd (let z : ⊥ = omega arith in z)
when_coded (Result.when at k q r₁ r₂) h e = is_when
when_coded (Result.choose at r₁ r₂ r₃) h e = absurd (let z : ⊥ = omega arith in z)
when_coded (Result.literal at v) h e = absurd (let z : ⊥ = omega (arith, literal_code_ge v (literal_stands h)) in z)
when_coded (Result.pack at ps) h e = absurd (let z : ⊥ = omega arith in z)

module _ (at n d : ℕ) (k : Test) (q : Place) (r₁ r₂ : Result) (h : d + result_levels (Result.when at k q r₁ r₂) ≤ n + 1) where
  there : d < n
  unfolding result_levels
  there = omega (arith, h, levels_some r₁)

  first_room : d + 1 + result_levels r₁ ≤ n + 1
  unfolding result_levels
  first_room = omega (arith, h)

  second_room : d + 1 + result_levels r₂ ≤ n + 1
  unfolding result_levels
  second_room = omega (arith, h)

module _ (forms shapes pool b : List ℕ) (row d : ℕ) (when : get_or forms row 0 % 32 ≡ 10) where
  abbrev Meets : (p : List ℕ) (m deep : ℕ) → Result → List Shape → Type 0
  Meets p m deep r env = MeetsForm forms shapes pool b p row d m deep r env

  -- the first row of each result
  abbrev first : ℕ
  first = after forms (row + 3)

  abbrev second : ℕ
  second = after forms first

  as_when : {p : List ℕ} {m deep : ℕ} {r : Result} {env : List Shape} → Meets p m deep r env → IsWhen r
  as_when {r} h = when_coded r h.stands (coded_as when h.stands)

  pub when_ends
      : FormAsked forms shapes pool b row d → (first + 3 ≤ length forms) × (second + 3 ≤ length forms) × (d < length b)
  when_ends h = go (as_when h.meets) h.meets
    where
      go : {r : Result} → IsWhen r → Meets h.p h.m h.deep r h.env
          → (first + 3 ≤ length forms) × (second + 3 ≤ length forms) × (d < length b)
      go (is_when {at} {k} {q} {r₁} {r₂}) m = (
        omega (arith, stands_within (when_first m.stands), forms_some r₁),
        omega (arith, stands_within (when_second m.stands), forms_some r₂),
        there at (length b) d k q r₁ r₂ m.room,
      )

  pub when_place_asked : FormAsked forms shapes pool b row d → PlaceAsked forms shapes pool b (row + 3)
  when_place_asked h = go (as_when h.meets) h.meets
    where
      go : {r : Result} → IsWhen r → Meets h.p h.m h.deep r h.env → PlaceAsked forms shapes pool b (row + 3)
      go (is_when {at} {k} {q} {r₁} {r₂}) m =
          record {
            p = h.p;
            d = d;
            deep = h.deep;
            place = q;
            env = h.env;
            meets = record { pooled = m.pooled; stands = when_place m.stands; bound = m.bound };
          }

  module _ (l : Located) (gives : GivesPlace forms shapes pool b (row + 3) l) where
    found
        : {p : List ℕ} {m deep at : ℕ} {k : Test} {q : Place} {r₁ r₂ : Result} {env : List Shape} → Meets p m deep (Result.when at k q r₁ r₂) env
        → (x : Located) → l ≡ x → Locates shapes p deep (check_place q env) x
    found h x e = place_told forms shapes pool l x gives e h.pooled (when_place h.stands) h.bound

    -- what comes behind the place, and behind the first result
    abbrev behind_place : (k : Test) (r₁ r₂ : Result) (env : List Shape) → Outcome ℕ Shape → Outcome ℕ Shape
    behind_place k r₁ r₂ env o =
        o >>= λ s. check r₁ (cut_to k s ∷ env) >>= λ t₁. check r₂ (taken_out k s ∷ env) >>= λ t₂. ok (join t₁ t₂)

    abbrev behind_first : (k : Test) (r₂ : Result) (env : List Shape) (s : Shape) → Outcome ℕ Shape → Outcome ℕ Shape
    behind_first k r₂ env s o = o >>= λ t₁. check r₂ (taken_out k s ∷ env) >>= λ t₂. ok (join t₁ t₂)

    refuses
        : {why : Refusal} → l ≡ Err why → {p : List ℕ} {m deep : ℕ} {env : List Shape} {r : Result} → IsWhen r → Meets p m deep r env
        → check r env ≡ refused_as why
    unfolding check ◌>>=◌
    refuses {why} e {env} (is_when {at} {k} {q} {r₁} {r₂}) h =
        ap (behind_place k r₁ r₂ env) (found h (Err why) e)

    pub when_refused : {why : Refusal} → l ≡ Err why → GivesForm forms shapes pool b b row d (Err why)
    when_refused e = record { told = λ p m deep r env h. refuses e (as_when h) h; kept = kept_same b d }

    module _ {here : Binding} (e : l ≡ Ok here) {test : ℕ} (tested : test ≡ get_or forms row 0 / 32 % 64) where
      pub row_there : FormAsked forms shapes pool b row d → here.row + 2 ≤ length shapes
      row_there h = go (as_when h.meets) h.meets
        where
          go : {r : Result} → IsWhen r → Meets h.p h.m h.deep r h.env → here.row + 2 ≤ length shapes
          go (is_when {at} {k} {q} {r₁} {r₂}) m = stands_row (found m (Ok here) e).2.stands

      -- the kinds that the test leaves
      module _ {p : List ℕ} {m deep at : ℕ} {k : Test} {q : Place} {r₁ r₂ : Result} {env : List Shape} (h : Meets p m deep (Result.when at k q r₁ r₂) env) where
        abbrev place_shape : Shape
        place_shape = (found h (Ok here) e).0

        test_is : test ≡ test_code k
        unfolding form_operand
        test_is = tested ∙ stands_operand h.stands

        cut_is : (c : ℕ) → TellsCut here.kinds.kinds test c → c ≡ kind_bits (cut_to k place_shape)
        cut_is c t = let f = found h (Ok here) e in t k f.0 test_is (sym f.2.left)

        out_is : (c : ℕ) → TellsOut here.kinds.kinds test c → c ≡ kind_bits (taken_out k place_shape)
        out_is c t = let f = found h (Ok here) e in t k f.0 test_is (sym f.2.left)

        cut_bound : (c : ℕ) → TellsCut here.kinds.kinds test c → Bound shapes p deep here.row c (cut_to k place_shape)
        cut_bound c t =
            subst
            (λ (y : ℕ). Bound shapes p deep here.row y (cut_to k place_shape))
            (sym (cut_is c t))
            (bound_cut k (found h (Ok here) e).2)

        out_bound : (c : ℕ) → TellsOut here.kinds.kinds test c → Bound shapes p deep here.row c (taken_out k place_shape)
        out_bound c t =
            subst
            (λ (y : ℕ). Bound shapes p deep here.row y (taken_out k place_shape))
            (sym (out_is c t))
            (bound_out k (found h (Ok here) e).2)

      pub few_cut : (c : ℕ) → TellsCut here.kinds.kinds test c → FormAsked forms shapes pool b row d → c < 128
      few_cut c t h = go (as_when h.meets) h.meets
        where
          go : {r : Result} → IsWhen r → Meets h.p h.m h.deep r h.env → c < 128
          go (is_when {at} {k} {q} {r₁} {r₂}) m = omega (arith, cut_is m c t, kind_bits_lt (cut_to k (place_shape m)))

      pub few_out : (c : ℕ) → TellsOut here.kinds.kinds test c → FormAsked forms shapes pool b row d → c < 128
      few_out c t h = go (as_when h.meets) h.meets
        where
          go : {r : Result} → IsWhen r → Meets h.p h.m h.deep r h.env → c < 128
          go (is_when {at} {k} {q} {r₁} {r₂}) m = omega (arith, out_is m c t, kind_bits_lt (taken_out k (place_shape m)))

      module _
          (asked : FormAsked forms shapes pool b row d) (c : ℕ) (cut : TellsCut here.kinds.kinds test c) (b₁ : List ℕ) (put : b₁ ≡ set b d (binding here.row c))
          {at_first : ℕ} (first_is : at_first ≡ first) where
        first_meets
            : {p : List ℕ} {m deep at : ℕ} {k : Test} {q : Place} {r₁ r₂ : Result} {env : List Shape} (h : Meets p m deep (Result.when at k q r₁ r₂) env)
            → MeetsForm forms shapes pool b₁ p at_first (d + 1) 0 deep r₁ (cut_to k (place_shape h) ∷ env)
        first_meets {at} {k} {q} {r₁} {r₂} h =
            part_bound forms shapes pool h.pooled (rw first_is (when_first h.stands)) h.bound (there at (length b) d k q r₁ r₂ h.room)
            (binds b b₁ d here.row c put (there at (length b) d k q r₁ r₂ h.room) (few_cut c cut asked) (cut_bound h c cut))
            (first_room at (length b) d k q r₁ r₂ h.room)

        pub first_asked : FormAsked forms shapes pool b₁ at_first (d + 1)
        first_asked = go (as_when asked.meets) asked.meets
          where
            go : {r : Result} → IsWhen r → Meets asked.p asked.m asked.deep r asked.env → FormAsked forms shapes pool b₁ at_first (d + 1)
            go (is_when {at} {k} {q} {r₁} {r₂}) m =
                record { p = asked.p; m = 0; deep = asked.deep; form = r₁; env = _; meets = first_meets m }

        module _ (b₂ : List ℕ) (part : Checked) (answer : GivesForm forms shapes pool b₁ b₂ at_first (d + 1) part) where
          kept_first : Kept b b₂ d
          kept_first =
              kept_then (bind_kept b b₁ d here.row c put (when_ends asked).2 (few_cut c cut asked)) (kept_less b₁ b₂ d answer.kept)

          pub still_there : d < length b₂
          still_there = omega (arith, (when_ends asked).2, kept_first.same)

          first_refuses
              : {why : Refusal} → part ≡ Err why → {p : List ℕ} {m deep : ℕ} {env : List Shape} {r : Result}
              → IsWhen r → Meets p m deep r env → check r env ≡ refused_as why
          unfolding check ◌>>=◌
          first_refuses {why} f {env} (is_when {at} {k} {q} {r₁} {r₂}) h =
              ap (behind_place k r₁ r₂ env) (found h (Ok here) e).1
              ∙ ap (behind_first k r₂ env (place_shape h))
              (part_told forms shapes pool part (Err why) answer f (first_meets h))

          pub first_refused : {why : Refusal} → part ≡ Err why → GivesForm forms shapes pool b b₂ row d (Err why)
          first_refused f = record { told = λ p m deep r env h. first_refuses f (as_when h) h; kept = kept_first }

          module _
              {given : bits.Shape} (f : part ≡ Ok given) (o : ℕ) (out : TellsOut here.kinds.kinds test o) (b₃ : List ℕ)
              (put_out : b₃ ≡ set b₂ d (binding here.row o)) {at_second : ℕ} (second_is : at_second ≡ second) where
            second_Meets
                : {p : List ℕ} {m deep at : ℕ} {k : Test} {q : Place} {r₁ r₂ : Result} {env : List Shape}
                (h : Meets p m deep (Result.when at k q r₁ r₂) env)
                → MeetsForm forms shapes pool b₃ p at_second (d + 1) 0 deep r₂ (taken_out k (place_shape h) ∷ env)
            second_Meets {at} {k} {q} {r₁} {r₂} h =
                part_bound forms shapes pool h.pooled (rw second_is (when_second h.stands)) (bindings_kept h.bound kept_first) still_there
                (binds b₂ b₃ d here.row o put_out still_there (few_out o out asked) (out_bound h o out))
                (let room = second_room at (length b) d k q r₁ r₂ h.room in omega (arith, kept_first.same))

            pub second_asked : FormAsked forms shapes pool b₃ at_second (d + 1)
            second_asked = go (as_when asked.meets) asked.meets
              where
                go : {r : Result} → IsWhen r → Meets asked.p asked.m asked.deep r asked.env → FormAsked forms shapes pool b₃ at_second (d + 1)
                go (is_when {at} {k} {q} {r₁} {r₂}) m =
                    record { p = asked.p; m = 0; deep = asked.deep; form = r₂; env = _; meets = second_Meets m }

            module _ (b₄ : List ℕ) (part₂ : Checked) (answer₂ : GivesForm forms shapes pool b₃ b₄ at_second (d + 1) part₂) where
              kept_second : Kept b b₄ d
              kept_second =
                  kept_then kept_first
                  (kept_then (bind_kept b₂ b₃ d here.row o put_out still_there (few_out o out asked)) (kept_less b₃ b₄ d answer₂.kept))

              -- what the whole is, where the first result has its shape
              whole_is
                  : {p : List ℕ} {m deep at : ℕ} {k : Test} {q : Place} {r₁ r₂ : Result} {env : List Shape}
                  (h : Meets p m deep (Result.when at k q r₁ r₂) env)
                  → check (Result.when at k q r₁ r₂) env
                  ≡ (check r₂ (taken_out k (place_shape h) ∷ env)
                  >>= λ t₂. ok (join (part_told forms shapes pool part (Ok given) answer f (first_meets h)).0 t₂))
              unfolding check ◌>>=◌
              whole_is {k} {r₁} {r₂} {env} h =
                  ap (behind_place k r₁ r₂ env) (found h (Ok here) e).1
                  ∙ ap (behind_first k r₂ env (place_shape h)) (part_told forms shapes pool part (Ok given) answer f (first_meets h)).1

              second_refuses
                  : {why : Refusal} → part₂ ≡ Err why → {p : List ℕ} {m deep : ℕ} {env : List Shape} {r : Result}
                  → IsWhen r → Meets p m deep r env → check r env ≡ refused_as why
              unfolding ◌>>=◌
              second_refuses {why} g (is_when {at} {k} {q} {r₁} {r₂}) h =
                  whole_is h
                  ∙ ap
                  (λ (o : Outcome ℕ Shape). o >>= λ t₂. ok (join (part_told forms shapes pool part (Ok given) answer f (first_meets h)).0 t₂))
                  (part_told forms shapes pool part₂ (Err why) answer₂ g (second_Meets h))

              pub second_refused : {why : Refusal} → part₂ ≡ Err why → GivesForm forms shapes pool b b₄ row d (Err why)
              second_refused g = record { told = λ p m deep r env h. second_refuses g (as_when h) h; kept = kept_second }

              joins
                  : {given₂ both : bits.Shape} → part₂ ≡ Ok given₂ → both.kinds ≡ bit_or given.kinds given₂.kinds
                  → {p : List ℕ} {m deep : ℕ} {env : List Shape} {r : Result} → IsWhen r → Meets p m deep r env → Checks (check r env) (Ok both)
              unfolding ◌>>=◌
              joins {given₂} g made (is_when {at} {k} {q} {r₁} {r₂}) h =
                  let t = part_told forms shapes pool part (Ok given) answer f (first_meets h) in
                  let u = part_told forms shapes pool part₂ (Ok given₂) answer₂ g (second_Meets h) in (
                    join t.0 u.0,
                    whole_is h ∙ ap (λ (o : Outcome ℕ Shape). o >>= λ t₂. ok (join t.0 t₂)) u.1,
                    sym (union_bits t.0 u.0) ∙ ap₂ (λ (x y : ℕ). bit_or x y) t.2 u.2 ∙ sym made,
                  )

              pub when_told
                  : {given₂ both : bits.Shape} → part₂ ≡ Ok given₂ → both.kinds ≡ bit_or given.kinds given₂.kinds
                  → GivesForm forms shapes pool b b₄ row d (Ok both)
              when_told g made = record { told = λ p m deep r env h. joins g made (as_when h) h; kept = kept_second }
