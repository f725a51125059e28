-- `each`, as it is checked. Assumes nothing.
use Prim.Native.Nat.{ℕ, ◌+◌, ◌/◌, ◌%◌, ◌≤◌, ◌<◌}
use mathlib.Core.Path.{◌≡◌, refl, sym, ap, subst, ◌∙◌}
use mathlib.Core.List.{List, ◌∷◌}
use native.Mathlib.Omega.{arith}
use lib.ListN.{length, get_or}
use Rattle.definitions.specs.Outcome.{Outcome, ok, ◌>>=◌}
use Rattle.definitions.specs.Shape.{Shape, list_of, only_list, element_of, has_list, has_rec}
use Rattle.definitions.specs.Reader.{Place, Result}
use Rattle.definitions.specs.Checking.{wants, list_kinds, element_shape, check_place, check}
use Rattle.laws.specs.FormGrammar.{result_levels}
use Rattle.shapes.specs.Shapes.{bit, numeric_bits, kind_bits}
use Rattle.forms.specs.Forms.{form_code, form_at, FormStands}
use Rattle.forms.specs.FormsLaws.{forms_some, levels_some, stands_at, stands_within}
use Rattle.forms.specs.PartsLaws.{after, each_place, each_result, literal_stands}
use Rattle.std.specs.Prelude.{Ok, Err}
use Rattle.reading.specs.declared.Refusal.{Refusal}
use Rattle.reading.specs.Refusals.{refused_as}
use Rattle.shapes.specs.declared.Shape as bits
use Rattle.checking.specs.declared.bindings.Binding.{Binding}
use Rattle.checking.specs.Bindings.{Kept, SomeBound, BindsElement}
use Rattle.checking.specs.CheckContracts.{Located, Checked, Locates, Checks, PlaceAsked, GivesPlace, MeetsForm, FormAsked, GivesForm, TellsWant}
use Rattle.checking.proofs.SimpleForms.{conversion_code_le, literal_code_ge, list_wanted}
use Rattle.checking.proofs.FormWalk.{kept_same, kept_then, kept_less, coded_as, place_told, part_told, part_bound}

-- the form that has the code of `each`
data IsEach : Result → Type 0 where
  is_each : {at : ℕ} {q : Place} {r : Result} → IsEach (Result.each at q r)

each_coded : {forms p : List ℕ} {row d m : ℕ} (r : Result) → FormStands forms p row d m r → form_code r ≡ 9 → IsEach r
unfolding form_code
each_coded (Result.convert at c q) h e = absurd (let z : ⊥ = omega (arith, conversion_code_le c) in z)
each_coded (Result.keep at q) h e = absurd (let z : ⊥ = omega arith in z)
each_coded (Result.count at q) h e = absurd (let z : ⊥ = omega arith in z)
each_coded (Result.each at q r) h e = is_each
each_coded (Result.when at k q r₁ r₂) h e = absurd (let z : ⊥ = omega arith in z)
each_coded (Result.choose at r₁ r₂ r₃) h e = absurd (let z : ⊥ = omega arith in z)
each_coded (Result.literal at v) h e = absurd (let z : ⊥ = omega (arith, literal_code_ge v (literal_stands h)) in z)
each_coded (Result.pack at ps) h e = absurd (let z : ⊥ = omega arith in z)

list_given : (t : Shape) → kind_bits (only_list (list_of t)) ≡ 32
unfolding kind_bits only_list bit numeric_bits has_list has_rec
list_given t = refl

-- a form with a binding has room for it
part_there : (at n d : ℕ) (q : Place) (r : Result) → d + result_levels (Result.each at q r) ≤ n + 1 → d < n
unfolding result_levels
part_there at n d q r h = omega (arith, levels_some r)

module _ (forms shapes pool b : List ℕ) (row d : ℕ) (each : get_or forms row 0 % 32 ≡ 9) where
  abbrev Meets : (p : List ℕ) (m deep : ℕ) → Result → List Shape → Type 0
  Meets p m deep r env = MeetsForm forms shapes pool b p row d m deep r env

  as_each : {p : List ℕ} {m deep : ℕ} {r : Result} {env : List Shape} → Meets p m deep r env → IsEach r
  as_each {r} h = each_coded r h.stands (coded_as each h.stands)

  -- where its parts stand
  pub each_ends
      : FormAsked forms shapes pool b row d
      → (row + 3 ≤ after forms (row + 3)) × (after forms (row + 3) + 3 ≤ length forms) × (d < length b)
  each_ends h = go (as_each h.meets) h.meets
    where
      go : {r : Result} → IsEach r → Meets h.p h.m h.deep r h.env
          → (row + 3 ≤ after forms (row + 3)) × (after forms (row + 3) + 3 ≤ length forms) × (d < length b)
      go (is_each {at} {q} {r}) m = (
        omega arith,
        omega (arith, stands_within (each_result m.stands), forms_some r),
        part_there at (length b) d q r m.room,
      )

  pub each_place_asked : FormAsked forms shapes pool b row d → PlaceAsked forms shapes pool b (row + 3)
  each_place_asked h = go (as_each h.meets) h.meets
    where
      go : {r : Result} → IsEach r → Meets h.p h.m h.deep r h.env → PlaceAsked forms shapes pool b (row + 3)
      go (is_each {at} {q} {r}) m =
          record {
            p = h.p;
            d = d;
            deep = h.deep;
            place = q;
            env = h.env;
            meets = record { pooled = m.pooled; stands = each_place m.stands; bound = m.bound };
          }

  module _ (l : Located) (gives : GivesPlace forms shapes pool b (row + 3) l) where
    module _ {p : List ℕ} {m deep at : ℕ} {q : Place} {r : Result} {env : List Shape} (h : Meets p m deep (Result.each at q r) env) where
      found : (x : Located) → l ≡ x → Locates shapes p deep (check_place q env) x
      found x e = place_told forms shapes pool l x gives e h.pooled (each_place h.stands) h.bound

      body_room : d + 1 + result_levels r ≤ length b + 1
      unfolding result_levels
      body_room = omega (arith, h.room)

      body_there : d < length b
      unfolding result_levels
      body_there = omega (arith, h.room, levels_some r)

    refuses
        : {why : Refusal} → l ≡ Err why → {p : List ℕ} {m deep : ℕ} {env : List Shape} {r : Result} → IsEach r → Meets p m deep r env
        → check r env ≡ refused_as why
    unfolding check ◌>>=◌
    refuses {why} e {env} (is_each {at} {q} {r}) h =
        ap
        (λ (o : Outcome ℕ Shape). o >>= λ s. check r (element_shape (element_of s) ∷ env) >>= λ t. wants at list_kinds s (ok (only_list (list_of t))))
        (found h (Err why) e)

    pub each_refused : {why : Refusal} → l ≡ Err why → GivesForm forms shapes pool b b row d (Err why)
    each_refused e = record { told = λ p m deep r env h. refuses e (as_each h) h; kept = kept_same b d }

    module _ {here : Binding} (e : l ≡ Ok here) where
      pub list_bound : FormAsked forms shapes pool b row d → SomeBound shapes here.row here.kinds.kinds
      list_bound h = go (as_each h.meets) h.meets
        where
          go : {r : Result} → IsEach r → Meets h.p h.m h.deep r h.env → SomeBound shapes here.row here.kinds.kinds
          go (is_each {at} {q} {r}) m =
              record { p = h.p; deep = h.deep; shape = _; bound = (found m (Ok here) e).2 }

      module _
          (b₁ : List ℕ) (binds : BindsElement shapes b b₁ d here.row here.kinds.kinds) {body : ℕ} (body_is : body ≡ after forms (row + 3)) where
        body_meets
            : {p : List ℕ} {m deep at : ℕ} {q : Place} {r : Result} {env : List Shape} (h : Meets p m deep (Result.each at q r) env)
            → MeetsForm forms shapes pool b₁ p body (d + 1) 0 deep r
            (element_shape (element_of (found h (Ok here) e).0) ∷ env)
        body_meets {p} {m} {deep} h =
            let f = found h (Ok here) e in
            part_bound forms shapes pool h.pooled (rw body_is (each_result h.stands)) h.bound (body_there h) (binds p deep f.0 f.2) (body_room h)

        pub body_asked : FormAsked forms shapes pool b row d → FormAsked forms shapes pool b₁ body (d + 1)
        body_asked h = go (as_each h.meets) h.meets
          where
            go : {r : Result} → IsEach r → Meets h.p h.m h.deep r h.env
                → FormAsked forms shapes pool b₁ body (d + 1)
            go (is_each {at} {q} {r}) m = record { p = h.p; m = 0; deep = h.deep; form = r; env = _; meets = body_meets m }

        bound_kept : FormAsked forms shapes pool b row d → Kept b b₁ d
        bound_kept h = let s = list_bound h in (binds s.p s.deep s.shape s.bound).kept

        module _
            (asked : FormAsked forms shapes pool b row d) (b₂ : List ℕ) (part : Checked)
            (answer : GivesForm forms shapes pool b₁ b₂ body (d + 1) part) where
          kept : Kept b b₂ d
          kept = kept_then (bound_kept asked) (kept_less b₁ b₂ d answer.kept)

          body_refuses
              : {why : Refusal} → part ≡ Err why → {p : List ℕ} {m deep : ℕ} {env : List Shape} {r : Result}
              → IsEach r → Meets p m deep r env → check r env ≡ refused_as why
          unfolding check ◌>>=◌
          body_refuses {why} f {env} (is_each {at} {q} {r}) h =
              let s = found h (Ok here) e in
              ap
              (λ (o : Outcome ℕ Shape). o >>= λ s. check r (element_shape (element_of s) ∷ env) >>= λ t. wants at list_kinds s (ok (only_list (list_of t))))
              s.1
              ∙ ap
              (λ (o : Outcome ℕ Shape). o >>= λ t. wants at list_kinds s.0 (ok (only_list (list_of t))))
              (part_told forms shapes pool part (Err why) answer f (body_meets h))

          pub body_refused : {why : Refusal} → part ≡ Err why → GivesForm forms shapes pool b b₂ row d (Err why)
          body_refused f = record { told = λ p m deep r env h. body_refuses f (as_each h) h; kept = kept }

          module _
              {given : bits.Shape} (f : part ≡ Ok given) {place : ℕ} (near : place ≡ get_or forms row 0 / 2048 % 65536) (x : Checked)
              (w : TellsWant here.kinds.kinds 33 32 place x) where
            gives_list : {p : List ℕ} {m deep : ℕ} {env : List Shape} {r : Result} → IsEach r → Meets p m deep r env → Checks (check r env) x
            unfolding check ◌>>=◌ form_at
            gives_list {env} (is_each {at} {q} {r}) h =
                let s = found h (Ok here) e in
                let t = part_told forms shapes pool part (Ok given) answer f (body_meets h) in
                let same : wants place list_kinds s.0 (ok (only_list (list_of t.0))) ≡ check (Result.each at q r) env
                = ap (λ (y : ℕ). wants y list_kinds s.0 (ok (only_list (list_of t.0)))) (near ∙ stands_at h.stands)
                ∙ sym
                (ap
                (λ (o : Outcome ℕ Shape). o >>= λ s. check r (element_shape (element_of s) ∷ env) >>= λ t. wants at list_kinds s (ok (only_list (list_of t))))
                s.1
                ∙ ap (λ (o : Outcome ℕ Shape). o >>= λ t. wants at list_kinds s.0 (ok (only_list (list_of t)))) t.1) in
                subst
                (λ (o : Outcome ℕ Shape). Checks o x)
                same
                (w list_kinds s.0 (only_list (list_of t.0)) s.2.left list_wanted (list_given t.0))

            pub each_told : GivesForm forms shapes pool b b₂ row d x
            each_told = record { told = λ p m deep r env h. gives_list (as_each h) h; kept = kept }
