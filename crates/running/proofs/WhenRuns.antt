-- What running `when` and `if` answers. Assumes nothing.
use Prim.Native.Nat.{ℕ, suc, ◌+◌, ◌*◌, ◌/◌, ◌%◌, ◌≤◌}
use native.Mathlib.Numerals.{add-one}
use native.Mathlib.Omega.{arith}
use mathlib.Core.Path.{◌≡◌, refl, sym, ap, ◌∙◌, subst}
use mathlib.Core.Bool.{Bool, true, false}
use mathlib.Core.List.{List, ◌∷◌}
use lib.ListN.{length, get_or, take, set, length-set}
use lib.Seq.{take_all, take-take, take-set-le}
use Rattle.definitions.specs.declared.Limits.{Limits}
use Rattle.definitions.specs.Outcome.{refused}
use Rattle.definitions.specs.Value.{Value}
use Rattle.definitions.specs.Shape.{among}
use Rattle.definitions.specs.Admits.{kind_of}
use Rattle.definitions.specs.Reader.{Place, Test, Result}
use Rattle.definitions.specs.Checking.{test_kinds}
use Rattle.definitions.specs.Running.{run}
use Rattle.laws.specs.FormGrammar.{result_levels}
use Rattle.laws.specs.Good.{GoodReader, good_when, good_choose}
use Rattle.forms.specs.Forms.{form_operand, form_at, test_code, FormStands, size_at}
use Rattle.forms.specs.FormsLaws.{stands_code, stands_operand, stands_at, stands_within, forms_some, levels_some}
use Rattle.forms.specs.PartsLaws as parts
use Rattle.std.specs.Prelude.{Ok, Err}
use Rattle.reading.specs.declared.Refusal.{Refusal}
use Rattle.reading.specs.declared.Cause.TheVariants as cause
use Rattle.running.specs.declared.going.Cursor.{Cursor}
use Rattle.running.specs.Bindings.{Bound, Binds}
use Rattle.running.specs.BindingsLaws.{binds_kept, binds_more}
use Rattle.running.specs.Codes.{IsWhen, is_when, IsChoose, is_choose, when_of, choose_of}
use Rattle.running.specs.FormLaws as laws
use Rattle.running.specs.Walk.{Part, follow, Meets, Ready, Entered, Following, branch, Made, Comes, Kept, Runs, Follows}
use Rattle.running.proofs.FormRuns.{comes_on}

-- a part of a form, with what is bound at it
pub part_meets
    : {forms nodes pool bindings bindings' : List ℕ} {limit row row' bound bound' m : ℕ} {l : Limits} {p : List ℕ} {r s : Result} {env env' : List Value}
    → Meets forms nodes pool bindings limit row bound l p r env → FormStands forms p row' bound' m s → GoodReader s → length env' ≡ bound'
    → Binds nodes p bindings' env' → bound' + result_levels s ≤ length bindings' + 1
    → Meets forms nodes pool bindings' limit row' bound' l p s env'
part_meets {m = m} w st g n b h =
    record { limited = w.limited; pooled = w.pooled; name = m; stands = st; good = g; counted = n; binds = b; room = h }

-- ---- `when`

-- its branches
record WhenMeets (forms nodes pool bindings : List ℕ) (limit row first second bound : ℕ) (l : Limits) (p : List ℕ) (form : Result) (env : List Value)
    : Type 0 where
  place : ℕ
  test : Test
  inner : Place
  one : Result
  two : Result
  same : form ≡ Result.when place test inner one two
  coded : test_code test ≡ get_or forms row 0 / 32 % 64
  yes : Meets forms nodes pool bindings limit first bound l p one env
  no : Meets forms nodes pool bindings limit second bound l p two env

module _ {forms nodes pool bindings : List ℕ} {limit row bound at first second : ℕ}
    (firsts : first ≡ parts.after forms (row + 3)) (seconds : second ≡ parts.after forms first) where
  when_meets
      : {l : Limits} {p : List ℕ} {env : List Value} {v : Value} {form : Result} → IsWhen form → Meets forms nodes pool bindings limit row bound l p form env
      → Bound nodes p at v → WhenMeets forms nodes pool (set bindings bound at) limit row first second (bound + 1) l p form (v ∷ env)
  unfolding result_levels form_operand
  when_meets {l} {p} {env} {v} (is_when {at = a} {k} {q} {r₁} {r₂}) m b = go m.good
    where
      bd : suc bound ≡ bound + 1
      bd = sym (add-one bound)

      long : length (set bindings bound at) ≡ length bindings
      long = length-set bindings bound at

      more : Binds nodes p (set bindings bound at) (v ∷ env)
      more = binds_more bound m.counted (omega (arith, m.room, levels_some r₁)) b m.binds

      go
          : GoodReader (Result.when a k q r₁ r₂)
          → WhenMeets forms nodes pool (set bindings bound at) limit row first second (bound + 1) l p (Result.when a k q r₁ r₂) (v ∷ env)
      go (good_when gp g₁ g₂) =
          record {
            place = a;
            test = k;
            inner = q;
            one = r₁;
            two = r₂;
            same = refl;
            coded = sym (stands_operand m.stands);
            yes =
                part_meets m
                (subst (λ (i : ℕ). FormStands forms p i (bound + 1) 0 r₁) (sym firsts)
                (subst (λ (i : ℕ). FormStands forms p (parts.after forms (row + 3)) i 0 r₁) bd (parts.when_first m.stands)))
                g₁ (omega (arith, m.counted)) more (omega (arith, m.room, long));
            no =
                part_meets m
                (subst (λ (i : ℕ). FormStands forms p i (bound + 1) 0 r₂) (sym (seconds ∙ ap (λ (i : ℕ). parts.after forms i) firsts))
                (subst (λ (i : ℕ). FormStands forms p (parts.after forms (parts.after forms (row + 3))) i 0 r₂) bd (parts.when_second m.stands)))
                g₂ (omega (arith, m.counted)) more (omega (arith, m.room, long));
          }

-- what was bound before is kept
pub kept_before
    : (bindings bindings' : List ℕ) (k at : ℕ) → take (k + 1) bindings' ≡ take (k + 1) (set bindings k at) → take k bindings' ≡ take k bindings
kept_before bindings bindings' k at e =
    sym (take-take k (k + 1) bindings' (omega arith))
    ∙ ap (take k) e
    ∙ take-take k (k + 1) (set bindings k at) (omega arith)
    ∙ take-set-le k bindings k at (omega arith)

-- where the rows of the branches stand
pub when_within
    : {forms nodes pool bindings results : List ℕ} {limit : ℕ} {c : Cursor} {at steps : ℕ}
    → Following forms nodes pool bindings results limit c at steps 10 10
    → (parts.after forms (c.row + 3) + 3 ≤ length forms) × (parts.after forms (parts.after forms (c.row + 3)) + 3 ≤ length forms)
when_within f =
    let r = f.ready in
    let w = when_meets refl refl (when_of r.form (omega (arith, f.late, f.early, stands_code r.meets.stands))) r.meets f.bound in
    (omega (arith, stands_within w.yes.stands, forms_some w.one), omega (arith, stands_within w.no.stands, forms_some w.two))

module _ {forms nodes pool bindings results : List ℕ} {limit : ℕ} {c : Cursor} {at steps first second : ℕ} (firsts : first ≡ parts.after forms (c.row + 3))
    (seconds : second ≡ parts.after forms first) where
  is_it
      : {l : Limits} {p : List ℕ} {env : List Value} (form : Result) → Meets forms nodes pool bindings limit c.row c.bound l p form env
      → Following forms nodes pool bindings results limit c at steps 10 10 → IsWhen form
  is_it form m f = when_of form (omega (arith, f.late, f.early, stands_code m.stands))

  pub when_yes_ready
      : Following forms nodes pool bindings results limit c at steps 10 10
      → Ready forms nodes pool (set bindings c.bound at) results limit (branch c first (c.bound + 1) steps)
  when_yes_ready f =
      let r = f.ready in
      let w = when_meets firsts seconds (is_it r.form r.meets f) r.meets f.bound in
      record {
        limits = r.limits;
        used = r.used;
        form = w.one;
        env = f.value ∷ r.env;
        meets = w.yes;
        small = r.small;
        paid = omega (arith, r.paid, f.counted);
      }

  pub when_no_ready
      : Following forms nodes pool bindings results limit c at steps 10 10
      → Ready forms nodes pool (set bindings c.bound at) results limit (branch c second (c.bound + 1) steps)
  when_no_ready f =
      let r = f.ready in
      let w = when_meets firsts seconds (is_it r.form r.meets f) r.meets f.bound in
      record {
        limits = r.limits;
        used = r.used;
        form = w.two;
        env = f.value ∷ r.env;
        meets = w.no;
        small = r.small;
        paid = omega (arith, r.paid, f.counted);
      }

  module _ {b : Bool} {test : ℕ} (tested : test ≡ get_or forms c.row 0 / 32 % 64)
      (told : (p : List ℕ) (v : Value) (k : Test) → Bound nodes p at v → test_code k ≡ test → b ≡ among (kind_of v) (test_kinds k))
      (f : Following forms nodes pool bindings results limit c at steps 10 10) {bindings' results' : List ℕ} {r : Part} where
    pub when_yes
        : b ≡ true
        → Runs forms nodes pool (set bindings c.bound at) bindings' results results' limit (branch c first (c.bound + 1) steps) r
        → Follows forms nodes pool bindings bindings' results results' limit c at steps r
    when_yes e x =
        record {
          kept = record { bound_kept = kept_before bindings bindings' c.bound at x.kept.bound_kept; front = x.kept.front };
          told = λ l p form env v m bd.
              let w = when_meets firsts seconds (is_it form m f) m bd in
              comes_on limit p results results' c first (c.bound + 1) steps
              (ap (λ (y : Result). follow y l env v steps) w.same
              ∙ laws.when_first w.place w.test w.inner w.one w.two l env v steps
              (sym (told p v w.test bd (w.coded ∙ sym tested)) ∙ e))
              (omega (arith, f.counted)) r (x.told l p w.one (v ∷ env) w.yes);
        }

    pub when_no
        : b ≡ false
        → Runs forms nodes pool (set bindings c.bound at) bindings' results results' limit (branch c second (c.bound + 1) steps) r
        → Follows forms nodes pool bindings bindings' results results' limit c at steps r
    when_no e x =
        record {
          kept = record { bound_kept = kept_before bindings bindings' c.bound at x.kept.bound_kept; front = x.kept.front };
          told = λ l p form env v m bd.
              let w = when_meets firsts seconds (is_it form m f) m bd in
              comes_on limit p results results' c second (c.bound + 1) steps
              (ap (λ (y : Result). follow y l env v steps) w.same
              ∙ laws.when_second w.place w.test w.inner w.one w.two l env v steps
              (sym (told p v w.test bd (w.coded ∙ sym tested)) ∙ e))
              (omega (arith, f.counted)) r (x.told l p w.two (v ∷ env) w.no);
        }

-- ---- `if`

record ChooseMeets (forms nodes pool bindings : List ℕ) (limit row bound : ℕ) (l : Limits) (p : List ℕ) (form : Result) (env : List Value) : Type 0 where
  place : ℕ
  test : Result
  one : Result
  two : Result
  same : form ≡ Result.choose place test one two
  placed : get_or forms row 0 / 2048 % 65536 ≡ place
  tests : Meets forms nodes pool bindings limit (row + 3) bound l p test env
  yes : Meets forms nodes pool bindings limit (parts.after forms (row + 3)) bound l p one env
  no : Meets forms nodes pool bindings limit (parts.after forms (parts.after forms (row + 3))) bound l p two env

choose_meets
    : {forms nodes pool bindings : List ℕ} {limit row bound : ℕ} {l : Limits} {p : List ℕ} {env : List Value} {form : Result} → IsChoose form
    → Meets forms nodes pool bindings limit row bound l p form env → ChooseMeets forms nodes pool bindings limit row bound l p form env
unfolding result_levels form_at
choose_meets {forms} {nodes} {pool} {bindings} {limit} {row} {bound} {l} {p} {env} (is_choose {at = a} {r₁} {r₂} {r₃}) m = go m.good
  where
    go : GoodReader (Result.choose a r₁ r₂ r₃) → ChooseMeets forms nodes pool bindings limit row bound l p (Result.choose a r₁ r₂ r₃) env
    go (good_choose g₁ g₂ g₃) =
        record {
          place = a;
          test = r₁;
          one = r₂;
          two = r₃;
          same = refl;
          placed = stands_at m.stands;
          tests = part_meets m (parts.choose_first m.stands) g₁ m.counted m.binds (omega (arith, m.room));
          yes = part_meets m (parts.choose_second m.stands) g₂ m.counted m.binds (omega (arith, m.room));
          no = part_meets m (parts.choose_third m.stands) g₃ m.counted m.binds (omega (arith, m.room));
        }

-- the bindings of a part that ran
meets_kept
    : {forms nodes pool bindings bindings' : List ℕ} {limit row bound : ℕ} {l : Limits} {p : List ℕ} {r : Result} {env : List Value}
    → take bound bindings' ≡ take bound bindings → length bindings' ≡ length bindings → Meets forms nodes pool bindings limit row bound l p r env
    → Meets forms nodes pool bindings' limit row bound l p r env
meets_kept {bound = bound} e n m =
    record {
      limited = m.limited;
      pooled = m.pooled;
      name = m.name;
      stands = m.stands;
      good = m.good;
      counted = m.counted;
      binds = binds_kept bound e (omega (arith, m.counted)) m.binds;
      room = omega (arith, m.room, n);
    }

-- the condition
abbrev pub condition : Cursor → (results : List ℕ) → Cursor
condition c results = record { row = c.row + 3; name = 0; bound = c.bound; begun = length results; steps = c.steps + 1 }

-- its rows have no room
all_kept
    : (results results' : List ℕ) → length results' ≡ length results → take (3 * length results) results' ≡ take (3 * length results) results
    → results' ≡ results
all_kept results results' n e =
    sym (take_all (3 * length results) results' (omega (arith, n))) ∙ e ∙ take_all (3 * length results) results (omega arith)

module _ {forms nodes pool bindings results : List ℕ} {limit : ℕ} {c : Cursor} (w : Entered forms nodes pool bindings results limit c 11) where
  chooses
      : {l : Limits} {p : List ℕ} {env : List Value} (form : Result) → Meets forms nodes pool bindings limit c.row c.bound l p form env
      → ChooseMeets forms nodes pool bindings limit c.row c.bound l p form env
  chooses form m = choose_meets (choose_of form (sym (stands_code m.stands) ∙ w.coded)) m

  pub choose_within
      : (c.row + 6 ≤ length forms) × (parts.after forms (c.row + 3) + 3 ≤ length forms)
      × (parts.after forms (parts.after forms (c.row + 3)) + 3 ≤ length forms)
  choose_within =
      let k = chooses w.ready.form w.ready.meets in (
        omega (arith, stands_within k.tests.stands, forms_some k.test),
        omega (arith, stands_within k.yes.stands, forms_some k.one),
        omega (arith, stands_within k.no.stands, forms_some k.two),
      )

  pub test_ready : Ready forms nodes pool bindings results limit (condition c results)
  test_ready =
      let r = w.ready in
      let k = chooses r.form r.meets in
      record {
        limits = r.limits;
        used = r.used;
        form = k.test;
        env = r.env;
        meets = k.tests;
        small = r.small;
        paid = omega (arith, r.small.parts);
      }

  module _ {bindings' results' : List ℕ} {r : Part} (ran : Runs forms nodes pool bindings bindings' results results' limit (condition c results) r)
      (same_bindings : length bindings' ≡ length bindings) (same_results : length results' ≡ length results) where
    results_kept : results' ≡ results
    results_kept = all_kept results results' same_results ran.kept.front

    entered
        : {l : Limits} {p : List ℕ} {env : List Value} {form : Result} → Meets forms nodes pool bindings limit c.row c.bound l p form env
        → (k : ChooseMeets forms nodes pool bindings limit c.row c.bound l p form env)
        → run form l env c.steps ≡ laws.chosen k.place k.one k.two l env (run k.test l env (c.steps + 1))
    entered {l} {p} {env} {form} m k =
        ap (λ (y : Result). run y l env c.steps) k.same
        ∙ laws.choose_entered k.place k.test k.one k.two l env c.steps (omega (arith, m.limited, w.left))
        ∙ ap (λ (n : ℕ). laws.chosen k.place k.one k.two l env (run k.test l env n)) (sym (add-one c.steps))

    pub test_refused
        : {why : Refusal} → r ≡ Err why
        → Runs forms nodes pool bindings bindings' results results' limit c (Err why)
    test_refused e =
        record {
          kept = record { bound_kept = ran.kept.bound_kept; front = ap (take (3 * c.begun)) results_kept };
          told = λ l p form env m.
              let k = chooses form m in
              entered m k ∙ laws.choose_refused k.place k.one k.two l env
              (subst (Comes (run k.test l env (c.steps + 1)) limit p results results' (condition c results)) e (ran.told l p k.test env k.tests));
        }

    module _ {kind begun steps : ℕ} (e : r ≡ Ok (record { kind = kind; begun = begun; steps = steps })) where
      tested
          : {l : Limits} {p : List ℕ} {env : List Value} {form : Result} (k : ChooseMeets forms nodes pool bindings limit c.row c.bound l p form env)
          → Made (run k.test l env (c.steps + 1)) limit p results results' (condition c results) kind begun steps
      tested {l} {p} {env} k =
          subst (Comes (run k.test l env (c.steps + 1)) limit p results results' (condition c results)) e (ran.told l p k.test env k.tests)

      pub choose_stuck
          : {place : ℕ} → (kind ≡ 2 → ⊥) → (kind ≡ 1 → ⊥) → place ≡ get_or forms c.row 0 / 2048 % 65536
          → Runs forms nodes pool bindings bindings' results results' limit c (Err (record { cause = cause.Stuck; place = place }))
      choose_stuck f g h =
          record {
            kept = record { bound_kept = ran.kept.bound_kept; front = ap (take (3 * c.begun)) results_kept };
            told = λ l p form env m.
                let k = chooses form m in
                let x = tested k in
                entered m k
                ∙ laws.choose_stuck k.place k.one k.two l env x.value steps x.ran (λ z. f (x.kinded ∙ z)) (λ z. g (x.kinded ∙ z))
                ∙ ap (refused 12) (sym (h ∙ k.placed));
          }

      module _ {row : ℕ} where
        pub yes_ready : row ≡ parts.after forms (c.row + 3) → Ready forms nodes pool bindings' results' limit (branch c row c.bound steps)
        yes_ready f =
            let q = w.ready in
            let k = chooses q.form q.meets in
            let x = tested k in
            record {
              limits = q.limits;
              used = q.used;
              form = k.one;
              env = q.env;
              meets = subst (λ (i : ℕ). Meets forms nodes pool bindings' limit i c.bound q.limits q.used k.one q.env) (sym f)
                  (meets_kept ran.kept.bound_kept same_bindings k.yes);
              small = record { rows = q.small.rows; parts = omega (arith, q.small.parts, same_results); steps = q.small.steps };
              paid = omega (arith, q.paid, x.counted);
            }

        pub no_ready
            : row ≡ parts.after forms (parts.after forms (c.row + 3)) → Ready forms nodes pool bindings' results' limit (branch c row c.bound steps)
        no_ready f =
            let q = w.ready in
            let k = chooses q.form q.meets in
            let x = tested k in
            record {
              limits = q.limits;
              used = q.used;
              form = k.two;
              env = q.env;
              meets = subst (λ (i : ℕ). Meets forms nodes pool bindings' limit i c.bound q.limits q.used k.two q.env) (sym f)
                  (meets_kept ran.kept.bound_kept same_bindings k.no);
              small = record { rows = q.small.rows; parts = omega (arith, q.small.parts, same_results); steps = q.small.steps };
              paid = omega (arith, q.paid, x.counted);
            }

        module _ {bindings'' results'' : List ℕ} {s : Part}
            (then : Runs forms nodes pool bindings' bindings'' results' results'' limit (branch c row c.bound steps) s) where
          branch_kept : Kept bindings bindings'' results results'' c.bound c.begun
          branch_kept =
              record {
                bound_kept = then.kept.bound_kept ∙ ran.kept.bound_kept;
                front = then.kept.front ∙ ap (take (3 * c.begun)) results_kept;
              }

          pub chose_yes
              : kind ≡ 2 → row ≡ parts.after forms (c.row + 3) → Runs forms nodes pool bindings bindings'' results results'' limit c s
          chose_yes f g =
              record {
                kept = branch_kept;
                told = λ l p form env m.
                    let k = chooses form m in
                    let x = tested k in
                    comes_on limit p results results'' c row c.bound steps
                    (entered m k ∙ laws.choose_yes k.place k.one k.two l env x.value steps x.ran (sym x.kinded ∙ f))
                    (omega (arith, x.counted)) s
                    (subst (λ t. Comes (run k.one l env steps) limit p t results'' (branch c row c.bound steps) s) results_kept
                    (then.told l p k.one env
                    (subst (λ (i : ℕ). Meets forms nodes pool bindings' limit i c.bound l p k.one env) (sym g)
                    (meets_kept ran.kept.bound_kept same_bindings k.yes))));
              }

          pub chose_no
              : kind ≡ 1 → row ≡ parts.after forms (parts.after forms (c.row + 3)) → Runs forms nodes pool bindings bindings'' results results'' limit c s
          chose_no f g =
              record {
                kept = branch_kept;
                told = λ l p form env m.
                    let k = chooses form m in
                    let x = tested k in
                    comes_on limit p results results'' c row c.bound steps
                    (entered m k ∙ laws.choose_no k.place k.one k.two l env x.value steps x.ran (sym x.kinded ∙ f))
                    (omega (arith, x.counted)) s
                    (subst (λ t. Comes (run k.two l env steps) limit p t results'' (branch c row c.bound steps) s) results_kept
                    (then.told l p k.two env
                    (subst (λ (i : ℕ). Meets forms nodes pool bindings' limit i c.bound l p k.two env) (sym g)
                    (meets_kept ran.kept.bound_kept same_bindings k.no))));
              }

-- the row behind a part, and the one behind that
pub row_behind : (forms : List ℕ) (row n : ℕ) → n ≡ size_at forms row → row + n ≡ parts.after forms row
row_behind forms row n e = ap (λ (k : ℕ). row + k) e

pub row_third
    : (forms : List ℕ) (row second n : ℕ) → second ≡ parts.after forms row → n ≡ size_at forms second → second + n ≡ parts.after forms (parts.after forms row)
row_third forms row second n s e = row_behind forms second n e ∙ ap (λ (i : ℕ). parts.after forms i) s
