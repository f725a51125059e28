-- The place of a form, and what judging its value answers. Assumes nothing.
use Prim.Native.Nat.{ℕ, ◌+◌, ◌/◌, ◌%◌, ◌≤◌}
use native.Mathlib.Omega.{arith}
use mathlib.Core.Path.{◌≡◌, sym, ap, ◌∙◌, subst}
use mathlib.Core.Bool.{Bool, true, false}
use mathlib.Core.List.{List}
use lib.ListN.{length, get_or}
use Rattle.definitions.specs.declared.Limits.{Limits}
use Rattle.definitions.specs.Outcome.{refused}
use Rattle.definitions.specs.Value.{Value}
use Rattle.definitions.specs.Reader.{Place, Result}
use Rattle.definitions.specs.Running.{run_place}
use Rattle.forms.specs.Forms.{literal_code, form_code, LiteralPayload, null_payload, yes_payload, no_payload, number_payload}
use Rattle.forms.specs.Forms.{text_payload, PlaceStands}
use Rattle.forms.specs.FormsLaws.{stands_code, stands_at, place_stands_within, place_forms_some, levels_some}
use Rattle.forms.specs.PartsLaws.{convert_place, keep_place, count_place, each_place, when_place, literal_stands}
use Rattle.std.specs.Prelude.{Ok, Err}
use Rattle.reading.specs.declared.Refusal.{Refusal}
use Rattle.reading.specs.declared.Cause.TheVariants as cause
use Rattle.running.specs.Bindings.{Bound}
use Rattle.running.specs.Kinds.{wanted}
use Rattle.running.specs.FormLaws.{PlacedForm, placed_convert, placed_keep, placed_count, placed_each, placed_when, operand_judged, judged_refused}
use Rattle.running.specs.FormLaws.{judged_stuck, judged_given}
use Rattle.running.specs.Walk.{Seen, Meets, MeetsPlace, OperandReady, PlaceReady, SeenAt, Sees, SeesPlace, SeesOperand}

literal_some : {p : List ℕ} {v : Value} {k : ℕ} → LiteralPayload p v k → 12 ≤ literal_code v
unfolding literal_code
literal_some null_payload = omega arith
literal_some yes_payload = omega arith
literal_some no_payload = omega arith
literal_some number_payload = omega arith
literal_some (text_payload f) = omega arith

-- the place of a form
pub record HasPlace (forms nodes pool bindings : List ℕ) (limit row : ℕ) (l : Limits) (p : List ℕ) (r : Result) (env : List Value) : Type 0 where
  pub place : Place
  pub placed : PlacedForm r place
  pub meets : MeetsPlace forms nodes pool bindings limit (row + 3) l p place env

module _ {forms nodes pool bindings : List ℕ} {limit row bound : ℕ} {l : Limits} {p : List ℕ} {env : List Value} where
  has_place_at
      : {r : Result} {q : Place} → Meets forms nodes pool bindings limit row bound l p r env → PlacedForm r q
      → PlaceStands forms p (row + 3) bound q → HasPlace forms nodes pool bindings limit row l p r env
  has_place_at {r} {q} m f s =
      record {
        place = q;
        placed = f;
        meets =
            record {
              limited = m.limited;
              pooled = m.pooled;
              bound = bound;
              stands = s;
              counted = m.counted;
              binds = m.binds;
              room = omega (arith, m.room, levels_some r);
            };
      }

  pub has_place
      : (r : Result) → Meets forms nodes pool bindings limit row bound l p r env → get_or forms row 0 % 32 ≤ 10
      → HasPlace forms nodes pool bindings limit row l p r env
  unfolding form_code
  has_place (Result.convert at c q) m h = has_place_at m placed_convert (convert_place m.stands)
  has_place (Result.keep at q) m h = has_place_at m placed_keep (keep_place m.stands)
  has_place (Result.count at q) m h = has_place_at m placed_count (count_place m.stands)
  has_place (Result.each at q r) m h = has_place_at m placed_each (each_place m.stands)
  has_place (Result.when at k q r₁ r₂) m h = has_place_at m placed_when (when_place m.stands)
  has_place (Result.choose at r₁ r₂ r₃) m h = absurd (let z : ⊥ = omega (arith, h, stands_code m.stands) in z)
  has_place (Result.literal at v) m h =
      absurd (let z : ⊥ = omega (arith, h, stands_code m.stands, literal_some (literal_stands m.stands)) in z)
  has_place (Result.pack at ps) m h = absurd (let z : ⊥ = omega (arith, h, stands_code m.stands) in z)

seen
    : {forms nodes pool bindings : List ℕ} {limit row steps at behind : ℕ} {r : Seen} → SeesPlace forms nodes pool bindings limit (row + 3) steps r
    → r ≡ Ok (record { row = at; steps = behind }) → {l : Limits} {p : List ℕ} {form : Result} {env : List Value}
    → (h : HasPlace forms nodes pool bindings limit row l p form env)
    → SeenAt (run_place h.place l env steps) nodes p limit steps at behind
seen {nodes = nodes} {limit = limit} {steps = steps} s e {l} {p} {form} {env} h =
    subst (Sees (run_place h.place l env steps) nodes p limit steps) e (s.told l p h.place env h.meets)

module _ {forms nodes pool bindings : List ℕ} {limit row bound steps : ℕ} where
  pub place_ready
      : OperandReady forms nodes pool bindings limit row bound steps → PlaceReady forms nodes pool bindings limit (row + 3) steps
  place_ready r =
      let h = has_place r.form r.meets r.placed in
      record { limits = r.limits; used = r.used; place = h.place; env = r.env; meets = h.meets; small = r.small; few = r.few }

  pub place_within : OperandReady forms nodes pool bindings limit row bound steps → row + 6 ≤ length forms
  place_within r =
      let h = has_place r.form r.meets r.placed in
      omega (arith, place_stands_within h.meets.stands, place_forms_some h.place)

  module _ (placed : get_or forms row 0 % 32 ≤ 10) {r : Seen} (s : SeesPlace forms nodes pool bindings limit (row + 3) steps r) where
    pub place_refused
        : {why : Refusal} → r ≡ Err why → SeesOperand forms nodes pool bindings limit row bound steps (Err why)
    place_refused e =
        record {
          told = λ l p form env m.
              let h = has_place form m placed in
              operand_judged l env steps h.placed
              ∙ judged_refused form
              (subst (Sees (run_place h.place l env steps) nodes p limit steps) e (s.told l p h.place env h.meets));
        }

    module _ {at behind : ℕ} (e : r ≡ Ok (record { row = at; steps = behind })) where
      module _ {b : Bool} {code : ℕ} (coded : code ≡ get_or forms row 0 % 32)
          (w : (p : List ℕ) (v : Value) (form : Result) → Bound nodes p at v → form_code form ≡ code → b ≡ wanted form v) where
        pub stuck
            : {place : ℕ} → b ≡ false → place ≡ get_or forms row 0 / 2048 % 65536
            → SeesOperand forms nodes pool bindings limit row bound steps (Err (record { cause = cause.Stuck; place = place }))
        stuck n g =
            record {
              told = λ l p form env m.
                  let h = has_place form m placed in
                  let x = seen s e h in
                  operand_judged l env steps h.placed
                  ∙ judged_stuck form x.value behind x.ran
                  (sym (w p x.value form x.bound (sym (coded ∙ stands_code m.stands))) ∙ n)
                  ∙ ap (refused 12) (sym (g ∙ stands_at m.stands));
            }

        pub judged_at : b ≡ true → SeesOperand forms nodes pool bindings limit row bound steps (Ok (record { row = at; steps = behind }))
        judged_at n =
            record {
              told = λ l p form env m.
                  let h = has_place form m placed in
                  let x = seen s e h in
                  record {
                    value = x.value;
                    ran =
                        operand_judged l env steps h.placed
                        ∙ judged_given form x.value behind x.ran
                        (sym (w p x.value form x.bound (sym (coded ∙ stands_code m.stands))) ∙ n);
                    bound = x.bound;
                    counted = x.counted;
                    left = x.left;
                  };
            }
