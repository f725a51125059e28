-- What the forms with results inside have in common: where their parts stand, and what they leave of the bindings. Assumes nothing.
use Prim.Native.Nat.{ℕ, suc, ◌+◌, ◌%◌, ◌≤◌, ◌<◌}
use mathlib.Core.Path.{◌≡◌, refl, sym, ap, subst, ◌∙◌}
use mathlib.Core.List.{List, ◌∷◌}
use native.Mathlib.Numerals.{add-one}
use native.Mathlib.Omega.{arith}
use lib.ListN.{length, get_or, take}
use lib.Seq.{take-take}
use Rattle.definitions.specs.Shape.{Shape}
use Rattle.definitions.specs.Value.{Value}
use Rattle.definitions.specs.Reader.{Place, Conversion, Result}
use Rattle.definitions.specs.Checking.{check_place, check}
use Rattle.laws.specs.FormGrammar.{result_levels}
use Rattle.plain.specs.Table.{Used}
use Rattle.forms.specs.Forms.{literal_code, form_code, PlaceStands, FormStands}
use Rattle.forms.specs.FormsLaws.{forms_some, stands_code, stands_within}
use Rattle.checking.specs.Bindings.{Bindings, Kept, Binds}
use Rattle.checking.specs.BindingsLaws.{bindings_more}
use Rattle.checking.specs.CheckContracts.{Located, Checked, Locates, Checks, GivesPlace, MeetsForm, FormAsked, GivesForm}
use Rattle.checking.proofs.SimpleForms.{conversion_code_le}

-- ---- bindings kept

pub kept_same : (b : List ℕ) (d : ℕ) → Kept b b d
kept_same b d = record { front = refl; same = refl }

pub kept_then : {b b' b'' : List ℕ} {d : ℕ} → Kept b b' d → Kept b' b'' d → Kept b b'' d
kept_then h k = record { front = k.front ∙ h.front; same = k.same ∙ h.same }

pub kept_less : (b b' : List ℕ) (d : ℕ) → Kept b b' (d + 1) → Kept b b' d
kept_less b b' d h =
    let l : d ≤ d + 1 = omega arith in
    record {
      front = sym (take-take d (d + 1) b' l) ∙ ap (take d) h.front ∙ take-take d (d + 1) b l;
      same = h.same;
    }

-- ---- parts

pub form_within : {forms shapes pool b : List ℕ} {row d : ℕ} → FormAsked forms shapes pool b row d → row + 3 ≤ length forms
form_within h = omega (arith, stands_within h.meets.stands, forms_some h.form)

-- which form has a code
module _ {forms p : List ℕ} {row d m n : ℕ} (coded : get_or forms row 0 % 32 ≡ n) where
  pub no_convert : {at : ℕ} {c : Conversion} {q : Place} → FormStands forms p row d m (Result.convert at c q) → 6 < n → ⊥
  unfolding form_code
  no_convert {c} h l = omega (arith, stands_code h, conversion_code_le c)

  pub no_literal : {at : ℕ} {v : Value} → FormStands forms p row d m (Result.literal at v) → (n ≡ literal_code v → ⊥) → ⊥
  unfolding form_code
  no_literal h f = f (sym coded ∙ stands_code h)

  pub coded_as : {r : Result} → FormStands forms p row d m r → form_code r ≡ n
  coded_as h = sym (stands_code h) ∙ coded

module _ (forms shapes pool : List ℕ) where
  -- the shape of a part's place
  pub place_told
      : {b p : List ℕ} {row d deep : ℕ} {q : Place} {env : List Shape} (l x : Located) → GivesPlace forms shapes pool b row l → l ≡ x
      → Used pool p → PlaceStands forms p row d q → Bindings shapes p b deep d env → Locates shapes p deep (check_place q env) x
  place_told {b} {p} {row} {d} {deep} {q} {env} l x gives e u s h =
      subst
      (λ (y : Located). Locates shapes p deep (check_place q env) y)
      e
      (gives p d deep q env (record { pooled = u; stands = s; bound = h }))

  -- the answer of a part
  pub part_told
      : {b b' p : List ℕ} {row d m deep : ℕ} {r : Result} {env : List Shape} (x y : Checked) → GivesForm forms shapes pool b b' row d x → x ≡ y
      → MeetsForm forms shapes pool b p row d m deep r env → Checks (check r env) y
  part_told {p} {m} {deep} {r} {env} x y gives e h =
      subst (λ (z : Checked). Checks (check r env) z) e (gives.told p m deep r env h)

  -- a part with one binding more
  pub part_bound
      : {b b' p : List ℕ} {row d m deep : ℕ} {r : Result} {env : List Shape} {t : Shape} → Used pool p → FormStands forms p row (suc d) m r
      → Bindings shapes p b deep d env → d < length b → Binds shapes p b b' deep d t → d + 1 + result_levels r ≤ length b + 1
      → MeetsForm forms shapes pool b' p row (d + 1) m deep r (t ∷ env)
  part_bound {b} {b'} {p} {row} {d} {m} {deep} {r} {env} {t} u s h there w room =
      record {
        pooled = u;
        stands = rw (add-one d) s;
        bound = rw (add-one d) (bindings_more h there w);
        room = omega (arith, room, w.kept.same);
      }
