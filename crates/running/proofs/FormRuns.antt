-- What running a form answers that has no loop. Assumes nothing.
use Prim.Native.Nat.{ℕ, ◌+◌, ◌/◌, ◌%◌, ◌≤◌, ◌<◌}
use native.Mathlib.Numerals.{add-one}
use native.Mathlib.Omega.{arith}
use mathlib.Core.Path.{◌≡◌, refl, sym, ap, ◌∙◌, subst}
use mathlib.Core.List.{List}
use lib.ListN.{length, get_or}
use Rattle.definitions.specs.declared.Limits.{Limits}
use Rattle.definitions.specs.Outcome.{Outcome, refused, ◌>>=◌}
use Rattle.definitions.specs.Value.{Value, count}
use Rattle.definitions.specs.Reader.{Place, to_int, to_dec, to_bool, to_text, Result}
use Rattle.definitions.specs.Running.{Ran, gives, whole_value, converted, items_of, int_value, run}
use Rattle.laws.specs.FormGrammar.{result_levels}
use Rattle.laws.specs.Good.{GoodReader, good_literal}
use Rattle.plain.specs.GoodBounded.{good_bounded}
use Rattle.plain.specs.Table.{BoundedNumbers}
use Rattle.forms.specs.Forms.{conversion_code, form_code, form_operand}
use Rattle.forms.specs.FormsLaws.{stands_code, stands_operand, stands_at, stands_within, forms_some, levels_some}
use Rattle.forms.specs.PartsLaws.{after, literal_stands}
use Rattle.std.specs.Prelude.{Ok, Err}
use Rattle.reading.specs.declared.Refusal.{Refusal}
use Rattle.reading.specs.declared.Cause.TheVariants as cause
use Rattle.running.specs.declared.going.Cursor.{Cursor}
use Rattle.running.specs.Bindings.{Bound}
use Rattle.running.specs.Codes.{IsWhen, is_when, IsCount, is_count, IsSame, is_convert, is_keep, IsLiteral, is_literal}
use Rattle.running.specs.Codes.{when_of, count_of, same_of, literal_of}
use Rattle.running.specs.FormLaws as laws
use Rattle.running.specs.Rows.{SomeBound}
use Rattle.running.specs.Singles.{Giving, Gives, Handed, Counts, LiteralAt, SomeLiteral}
use Rattle.running.specs.Walk.{Part, Seen, operand, follow, Meets, OperandReady, Ready, Following, branch, SeenAt, Sees, SeesOperand}
use Rattle.running.specs.Walk.{Comes, Kept, Runs, Follows}
use Rattle.running.proofs.Operands.{has_place}
use Rattle.running.proofs.WholeRows.{handed_on}

-- ---- answers carried on

pub kept_same : (bindings results : List ℕ) (bound begun : ℕ) → Kept bindings bindings results results bound begun
kept_same bindings results bound begun = record { bound_kept = refl; front = refl }

-- a part whose value is the form's
pub comes_on
    : {o o' : Outcome ℕ (Ran Value)} (limit : ℕ) (p before after : List ℕ) (c : Cursor) (row bound steps : ℕ) → o ≡ o' → c.steps ≤ steps → (r : Part)
    → Comes o' limit p before after (branch c row bound steps) r → Comes o limit p before after c r
comes_on limit p before after c row bound steps e h (Ok done) m =
    record {
      value = m.value;
      ran = e ∙ m.ran;
      kinded = m.kinded;
      bounded = m.bounded;
      puts = m.puts;
      paid = m.paid;
      counted = omega (arith, m.counted);
      left = m.left;
    }
comes_on limit p before after c row bound steps e h (Err why) m = e ∙ m

-- the same form
pub comes_as
    : {o o' : Outcome ℕ (Ran Value)} (limit : ℕ) (p before after : List ℕ) (c : Cursor) → o ≡ o' → (r : Part)
    → Comes o' limit p before after c r → Comes o limit p before after c r
comes_as limit p before after c e r m = subst (λ o. Comes o limit p before after c r) (sym e) m

module _ {forms nodes pool bindings : List ℕ} {limit row bound : ℕ} where
  literal_here
      : {l : Limits} {p : List ℕ} {env : List Value} {form : Result} → IsLiteral form
      → Meets forms nodes pool bindings limit row bound l p form env
      → (v : Value) × LiteralAt forms pool row p v
      × ((n : ℕ) → n < limit → run form l env n ≡ gives v (n + 1))
  unfolding form_code form_operand
  literal_here {l} {p} {env} (is_literal {at} {v}) m = (
    v,
    record {
      coded = stands_code m.stands;
      operand = stands_operand m.stands;
      payload = literal_stands m.stands;
      pooled = m.pooled;
      bounded = good_of m.good;
    },
    λ n h. laws.literal_given at v l env n (omega (arith, m.limited)) ∙ ap (gives v) (sym (add-one n)),
  )
    where
      good_of : GoodReader (Result.literal at v) → BoundedNumbers v
      good_of (good_literal g) = good_bounded g

  is_one
      : {l : Limits} {p : List ℕ} {env : List Value} {form : Result} {code : ℕ} → code ≡ get_or forms row 0 % 32 → 11 < code → (code ≡ 17 → ⊥)
      → Meets forms nodes pool bindings limit row bound l p form env → IsLiteral form
  is_one {form = form} coded late other m =
      literal_of form (omega (arith, coded, late, stands_code m.stands)) (λ e. other (coded ∙ stands_code m.stands ∙ e))

  split
      : {l : Limits} {p : List ℕ} (form : Result) {env : List Value} {steps : ℕ} → get_or forms row 0 % 32 ≤ 10 → steps < limit
      → Meets forms nodes pool bindings limit row bound l p form env
      → run form l env steps ≡ (operand form l env (steps + 1) >>= λ x. follow form l env x.result x.steps)
  split {l} form {env} {steps} low h m =
      let k = has_place form m low in
      laws.form_split l env steps k.placed (omega (arith, m.limited))
      ∙ ap (λ (n : ℕ). operand form l env n >>= λ x. follow form l env x.result x.steps) (sym (add-one steps))

  seen_at
      : {s : Seen} {steps at behind : ℕ} → SeesOperand forms nodes pool bindings limit row bound steps s → s ≡ Ok (record { row = at; steps = behind })
      → {l : Limits} {p : List ℕ} (form : Result) {env : List Value} → Meets forms nodes pool bindings limit row bound l p form env
      → SeenAt (operand form l env steps) nodes p limit steps at behind
  seen_at {steps = steps} seen e {l} {p} form {env} m =
      subst (Sees (operand form l env steps) nodes p limit steps) e (seen.told l p form env m)

placed_some : {form : Result} {q : Place} → laws.PlacedForm form q → 1 ≤ form_code form
unfolding form_code conversion_code
placed_some (laws.placed_convert {c = to_int}) = omega arith
placed_some (laws.placed_convert {c = to_dec}) = omega arith
placed_some (laws.placed_convert {c = to_bool}) = omega arith
placed_some (laws.placed_convert {c = to_text}) = omega arith
placed_some laws.placed_keep = omega arith
placed_some laws.placed_count = omega arith
placed_some laws.placed_each = omega arith
placed_some laws.placed_when = omega arith

-- ---- a form

module _ {forms nodes pool bindings results : List ℕ} {limit : ℕ} {c : Cursor} where
  pub row_within : Ready forms nodes pool bindings results limit c → c.row + 3 ≤ length forms
  row_within r = omega (arith, stands_within r.meets.stands, forms_some r.form)

  pub stopped
      : {place : ℕ} → limit ≤ c.steps → place ≡ get_or forms c.row 0 / 2048 % 65536
      → Runs forms nodes pool bindings bindings results results limit c (Err (record { cause = cause.StepLimit; place = place }))
  stopped h e =
      record {
        kept = kept_same bindings results c.bound c.begun;
        told = λ l p form env m.
            laws.form_stops form l env c.steps (omega (arith, m.limited)) ∙ ap (refused 13) (sym (e ∙ stands_at m.stands));
      }

  -- ---- literals

  module _ {code : ℕ} (coded : code ≡ get_or forms c.row 0 % 32) (late : 11 < code) (other : code ≡ 17 → ⊥) where
    pub some_literal : Ready forms nodes pool bindings results limit c → SomeLiteral forms pool c.row
    some_literal r =
        let x = literal_here (is_one coded late other r.meets) r.meets in record { used = r.used; value = x.0; held = x.1 }

    pub literal_ran
        : {results' : List ℕ} {r : Part} → c.steps < limit
        → Gives results results' limit c (c.steps + 1) (λ p v. LiteralAt forms pool c.row p v) r
        → Runs forms nodes pool bindings bindings results results' limit c r
    literal_ran {results'} {r} h g =
        record {
          kept = record { bound_kept = refl; front = g.front };
          told = λ l p form env m.
              let x = literal_here (is_one coded late other m) m in comes_as limit p results results' c (x.2 c.steps h) r (g.told p x.0 x.1);
        }

  pub giving : {steps : ℕ} → Ready forms nodes pool bindings results limit c → c.steps < steps → steps ≤ limit → Giving limit c steps
  giving r h k = record { few = r.small.steps; paid = r.paid; counted = h; left = k }

  -- ---- forms with a place

  module _ {code : ℕ} (coded : code ≡ get_or forms c.row 0 % 32) (early : code ≤ 11) (other : code ≡ 11 → ⊥) where
    pub operand_ready : Ready forms nodes pool bindings results limit c → OperandReady forms nodes pool bindings limit c.row c.bound (c.steps + 1)
    operand_ready r =
        record {
          limits = r.limits;
          used = r.used;
          form = r.form;
          env = r.env;
          meets = r.meets;
          placed = omega (arith, coded, early, other);
          small = r.small.rows;
          few = r.small.steps;
        }

    module _ {s : Seen} (seen : SeesOperand forms nodes pool bindings limit c.row c.bound (c.steps + 1) s) (h : c.steps < limit) where
      pub operand_refused
          : {why : Refusal} → s ≡ Err why
          → Runs forms nodes pool bindings bindings results results limit c (Err why)
      operand_refused e =
          record {
            kept = kept_same bindings results c.bound c.begun;
            told = λ l p form env m.
                split form (omega (arith, coded, early, other)) h m
                ∙ laws.split_refused form l env
                (subst (Sees (operand form l env (c.steps + 1)) nodes p limit (c.steps + 1)) e (seen.told l p form env m));
          }

      module _ {at behind : ℕ} (e : s ≡ Ok (record { row = at; steps = behind })) where
        pub following : Ready forms nodes pool bindings results limit c → Following forms nodes pool bindings results limit c at behind 0 10
        following r =
            let x = seen_at seen e r.form r.meets in
            record {
              ready = r;
              value = x.value;
              bound = x.bound;
              counted = omega (arith, x.counted);
              left = x.left;
              late = omega arith;
              early = omega (arith, coded, early, other);
            }

        pub followed
            : {bindings' results' : List ℕ} {r : Part} → Follows forms nodes pool bindings bindings' results results' limit c at behind r
            → Runs forms nodes pool bindings bindings' results results' limit c r
        followed {bindings'} {results'} {r} f =
            record {
              kept = f.kept;
              told = λ l p form env m.
                  let x = seen_at seen e form m in
                  comes_as limit p results results' c
                  (split form (omega (arith, coded, early, other)) h m ∙ laws.split_given form l env x.value behind x.ran) r
                  (f.told l p form env x.value m x.bound);
            }

  -- ---- behind the place

  module _ {at steps : ℕ} where
    -- the code is known
    pub narrowed
        : {code from to : ℕ} → Following forms nodes pool bindings results limit c at steps 0 10 → code ≡ get_or forms c.row 0 % 32 → from ≤ code → code ≤ to
        → Following forms nodes pool bindings results limit c at steps from to
    narrowed f e h k =
        record {
          ready = f.ready;
          value = f.value;
          bound = f.bound;
          counted = f.counted;
          left = f.left;
          late = omega (arith, e, h);
          early = omega (arith, e, k);
        }

    pub some_bound : {from to : ℕ} → Following forms nodes pool bindings results limit c at steps from to → SomeBound nodes at 0
    some_bound f =
        record { used = f.ready.used; value = f.value; bound = f.bound; small = f.ready.small.rows; few = omega arith }

    pub count_followed
        : {results' : List ℕ} {r : Part} {code : ℕ} → code ≡ get_or forms c.row 0 % 32 → code ≡ 8
        → Gives results results' limit c steps (Counts nodes at) r → Follows forms nodes pool bindings bindings results results' limit c at steps r
    unfolding follow
    count_followed {results'} {r} {code} e k g =
        record {
          kept = record { bound_kept = refl; front = g.front };
          told = λ l p form env v m b. go (count_of form (sym (e ∙ stands_code m.stands) ∙ k)) m b;
        }
      where
        go : {l : Limits} {p : List ℕ} {form : Result} {env : List Value} {v : Value} → IsCount form
            → Meets forms nodes pool bindings limit c.row c.bound l p form env → Bound nodes p at v
            → Comes (follow form l env v steps) limit p results results' c r
        go {p = p} {v = v} is_count m b =
            g.told p (int_value (count (items_of v))) (record { whole = v; bound = b; same = refl })

    pub value_followed
        : {results' : List ℕ} {r : Part} {code : ℕ} → Following forms nodes pool bindings results limit c at steps 0 10
        → code ≡ get_or forms c.row 0 % 32 → code < 8
        → Gives results results' limit c steps (Handed nodes at code) r → Follows forms nodes pool bindings bindings results results' limit c at steps r
    unfolding follow form_code conversion_code converted
    value_followed {results'} {r} {code} f e k g =
        record {
          kept = record { bound_kept = refl; front = g.front };
          told = λ l p form env v m b.
              go (same_of form (omega (arith, placed_some (has_place form m f.early).placed)) (omega (arith, e, k, stands_code m.stands))) m b
              (e ∙ stands_code m.stands);
        }
      where
        go : {l : Limits} {p : List ℕ} {form : Result} {env : List Value} {v : Value} → IsSame form
            → Meets forms nodes pool bindings limit c.row c.bound l p form env → Bound nodes p at v → code ≡ form_code form
            → Comes (follow form l env v steps) limit p results results' c r
        go {p = p} {v = v} (is_convert {c = to_int}) m b i =
            g.told p (whole_value v) (record { handed = v; bound = b; by_int = λ z. refl; by_other = λ n. absurd (n i) })
        go {p = p} {v = v} (is_convert {c = to_dec}) m b i = g.told p v (handed_on b (λ e. omega (arith, e, i)))
        go {p = p} {v = v} (is_convert {c = to_bool}) m b i = g.told p v (handed_on b (λ e. omega (arith, e, i)))
        go {p = p} {v = v} (is_convert {c = to_text}) m b i = g.told p v (handed_on b (λ e. omega (arith, e, i)))
        go {p = p} {v = v} is_keep m b i = g.told p v (handed_on b (λ e. omega (arith, e, i)))

-- ---- `when`

-- a branch of `when`, its value bound
module _ {forms nodes pool bindings results : List ℕ} {limit : ℕ} {c : Cursor} {at steps : ℕ} where
  pub when_room : Following forms nodes pool bindings results limit c at steps 10 10 → c.bound < length bindings
  unfolding result_levels
  when_room f = go (when_of f.ready.form (omega (arith, f.late, f.early, stands_code f.ready.meets.stands))) f.ready.meets.room
    where
      go : {r : Result} → IsWhen r → c.bound + result_levels r ≤ length bindings + 1 → c.bound < length bindings
      go (is_when {r₁}) h = omega (arith, h, levels_some r₁)
