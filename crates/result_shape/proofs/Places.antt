-- The shape of the place of a form whose check passes. Assumes nothing.
use Prim.Native.Nat.{ℕ, ◌+◌, ◌%◌, ◌≤◌}
use native.Mathlib.Omega.{arith}
use mathlib.Core.Path.{◌≡◌, sym, subst, ◌∙◌}
use mathlib.Core.List.{List}
use lib.ListN.{length, get_or}
use Rattle.definitions.specs.Shape.{Shape}
use Rattle.definitions.specs.Join.{join}
use Rattle.definitions.specs.Reader.{Result}
use Rattle.definitions.specs.Checking.{check_place}
use Rattle.std.specs.Prelude.{Option}
use Rattle.forms.specs.FormsLaws.{forms_some, stands_code, stands_within}
use Rattle.checking.specs.Bindings.{Bound}
use Rattle.checking.specs.CheckContracts.{Locates, GivesPlace, PlaceAsked}
use Rattle.std.specs.Prelude.{Ok, Err}
use Rattle.reading.specs.declared.Refusal.{Refusal}
use Rattle.checking.specs.CheckContracts.{Located}
use Rattle.result_shape.specs.ResultsLaws.{ok_same, never_ok}
use Rattle.result_shape.specs.Giving.{Tables, MeetsResult, ResultAsked, GivesResult, KeptAsked, GivesKept}
use Rattle.result_shape.proofs.Parts.{Placed, keep_placed}

-- ---- what is found

module _
    {table shapes pool bindings p : List ℕ} {row d deep : ℕ} {env : List Shape} {s : Shape} (w : Placed table shapes pool bindings p row d deep env s)
  where
    pub place_asked : PlaceAsked table shapes pool bindings (row + 3)
    place_asked = record { p = p; d = d; deep = deep; place = w.place; env = env; meets = w.meets }

    module _ (o : Located) (q : GivesPlace table shapes pool bindings (row + 3) o) where
      found_there : Locates shapes p deep (check_place w.place env) o
      found_there = q p d deep w.place env w.meets

      pub never_refused {ℓ} : {X : Type ℓ} {why : Refusal} → o ≡ Err why → X
      never_refused e = never_ok w.gives (subst (Locates shapes p deep (check_place w.place env)) e found_there)

      pub found_bound : {at kinds : ℕ} → o ≡ Ok (record { row = at; kinds = record { kinds = kinds } }) → Bound shapes p deep at kinds s
      found_bound {at} {kinds} e =
          let l = subst (Locates shapes p deep (check_place w.place env)) e found_there in
          subst (Bound shapes p deep at kinds) (ok_same l.1 w.gives) l.2

-- ---- `keep`

module _ {table shapes pool bindings result : List ℕ} {row d used dest deep : ℕ} (tables : Tables shapes result used) (code : get_or table row 0 % 32 ≡ 7) where
  module _
      {p : List ℕ} {m : ℕ} {r : Result} {env : List Shape} {t : Shape} {name : ℕ} {s : Shape}
      (j : MeetsResult table shapes pool bindings result p row d used dest m deep r env t name s)
    where
      placed : Placed table shapes pool bindings p row d deep env t
      placed = keep_placed r j.form j.gives j.once (sym (stands_code j.form.stands) ∙ code)

  pub keep_asks : ResultAsked table shapes pool bindings result row d used dest deep → PlaceAsked table shapes pool bindings (row + 3)
  keep_asks w = place_asked (placed w.meets)

  module _ (o : Located) (q : GivesPlace table shapes pool bindings (row + 3) o) where
    pub keep_never {ℓ}
        : {X : Type ℓ} {p : List ℕ} {m : ℕ} {r : Result} {env : List Shape} {t : Shape} {name : ℕ} {s : Shape} {why : Refusal}
        → MeetsResult table shapes pool bindings result p row d used dest m deep r env t name s → o ≡ Err why → X
    keep_never j e = never_refused (placed j) o q e

    module _ {at kinds : ℕ} (e : o ≡ Ok (record { row = at; kinds = record { kinds = kinds } })) where
      pub kept_asked : ResultAsked table shapes pool bindings result row d used dest deep → KeptAsked shapes pool result at kinds used dest deep
      kept_asked w =
          let j = w.meets in
          record {
            p = w.p;
            given = w.given;
            name = w.name;
            old = w.old;
            meets =
                record {
                  pooled = j.form.pooled;
                  bound = found_bound (placed j) o q e;
                  stands = j.stands;
                  within = j.within;
                  ascends = j.ascends;
                };
          }

      pub kept_Gives
          : (result' : List ℕ) (x : Option ℕ) → GivesKept join shapes pool result result' at kinds used dest deep x
          → GivesResult table shapes pool bindings result result' row d used dest deep x
      kept_Gives result' x h p m r env t name s j =
          h p t name s
          (record {
            pooled = j.form.pooled;
            bound = found_bound (placed j) o q e;
            stands = j.stands;
            within = j.within;
            ascends = j.ascends;
          })

-- where a form's parts stand is within the table
pub asked_within
    : {table shapes pool bindings result : List ℕ} {row d used dest deep : ℕ} → ResultAsked table shapes pool bindings result row d used dest deep
    → row + 3 ≤ length table
asked_within w = omega (arith, stands_within w.meets.form.stands, forms_some w.form)
