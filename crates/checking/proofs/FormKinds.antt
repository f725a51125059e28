-- Which form a code means, where a result is checked. Assumes nothing.
use Prim.Native.Nat.{ℕ, ◌%◌}
use mathlib.Core.Path.{◌≡◌, ◌∙◌}
use mathlib.Core.List.{List}
use lib.ListN.{get_or}
use Rattle.definitions.specs.Shape.{Shape}
use Rattle.definitions.specs.Reader.{Result}
use Rattle.forms.specs.Forms.{form_code, FormStands}
use Rattle.forms.specs.FormsLaws.{stands_code}
use Rattle.checking.specs.CheckContracts.{Checked, MeetsForm, FormAsked, GivesForm, Simple, simple_convert, simple_keep, simple_count, simple_literal}
use Rattle.checking.specs.CheckContracts.{MeetsSimple, SimpleAsked, GivesSimple}
use Rattle.checking.proofs.FormWalk.{kept_same}

module _
    (forms shapes pool b : List ℕ) (row d : ℕ) {code : ℕ} (coded : code ≡ get_or forms row 0 % 32) (each : code ≡ 9 → ⊥) (when : code ≡ 10 → ⊥)
    (choose : code ≡ 11 → ⊥) (pack : code ≡ 17 → ⊥) where
  simple : {p : List ℕ} {m : ℕ} (r : Result) → FormStands forms p row d m r → Simple r
  unfolding form_code
  simple (Result.convert at c q) h = simple_convert
  simple (Result.keep at q) h = simple_keep
  simple (Result.count at q) h = simple_count
  simple (Result.each at q r) h = absurd (each (coded ∙ stands_code h))
  simple (Result.when at k q r₁ r₂) h = absurd (when (coded ∙ stands_code h))
  simple (Result.choose at r₁ r₂ r₃) h = absurd (choose (coded ∙ stands_code h))
  simple (Result.literal at v) h = simple_literal
  simple (Result.pack at ps) h = absurd (pack (coded ∙ stands_code h))

  meets
      : {p : List ℕ} {m deep : ℕ} {r : Result} {env : List Shape} → MeetsForm forms shapes pool b p row d m deep r env
      → MeetsSimple forms shapes pool b p row d m deep r env
  meets {r} h = record { simple = simple r h.stands; pooled = h.pooled; stands = h.stands; bound = h.bound }

  pub simple_asked : FormAsked forms shapes pool b row d → SimpleAsked forms shapes pool b row
  simple_asked h = record { p = h.p; d = d; m = h.m; deep = h.deep; form = h.form; env = h.env; meets = meets h.meets }

  pub simple_told : (x : Checked) → GivesSimple forms shapes pool b row x → GivesForm forms shapes pool b b row d x
  simple_told x gives = record { told = λ p m deep r env h. gives p d m deep r env (meets h); kept = kept_same b d }
