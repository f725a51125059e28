-- What running a place answers, for each way through it. Assumes nothing.
use Prim.Native.Nat.{ℕ, suc, ◌+◌, ◌/◌, ◌%◌, ◌≤◌, ◌<◌}
use native.Mathlib.Numerals.{add-one}
use native.Mathlib.Omega.{arith}
use mathlib.Core.Path.{◌≡◌, refl, sym, ap, ◌∙◌, subst}
use mathlib.Core.List.{List}
use lib.ListN.{length, get_or}
use Rattle.definitions.specs.declared.Limits.{Limits}
use Rattle.definitions.specs.Bytes.{Bytes}
use Rattle.definitions.specs.Outcome.{refused}
use Rattle.definitions.specs.Value.{Value, Members}
use Rattle.definitions.specs.Reader.{Place}
use Rattle.definitions.specs.Running.{gives, member_of, run_place}
use Rattle.nodes.specs.Nodes.{Refers}
use Rattle.forms.specs.Forms.{place_code, place_at, slot}
use Rattle.forms.specs.FormsLaws.{place_stands_code, place_stands_within, place_forms_some}
use Rattle.forms.specs.PartsLaws.{it_slot, field_name, field_place}
use Rattle.std.specs.Prelude.{Ok, Err}
use Rattle.reading.specs.declared.Refusal.{Refusal}
use Rattle.reading.specs.declared.Cause.TheVariants as cause
use Rattle.running.specs.Bindings.{Bound, standing}
use Rattle.running.specs.BindingsLaws.{bound_kind, binds_at, slot_within}
use Rattle.running.specs.Codes.{IsIt, is_it, it_of}
use Rattle.running.specs.Members.{RecordAt, SomeRecord}
use Rattle.running.specs.PlaceLaws.{place_stops, it_given, field_of, field_entered, field_refused, field_stuck, field_through, IsRec, is_rec}
use Rattle.running.specs.PlaceLaws.{rec_of_kind, field_given}
use Rattle.running.specs.PlaceLaws.{place_stands_at}
use Rattle.running.specs.Walk.{Seen, MeetsPlace, PlaceReady, SeenAt, Sees, SeesPlace}

-- the place is a field
record FieldParts (forms nodes pool bindings : List ℕ) (limit row : ℕ) (l : Limits) (p : List ℕ) (q : Place) (env : List Value) : Type 0 where
  at : ℕ
  name : Bytes
  inner : Place
  same : q ≡ Place.field at name inner
  refers : Refers p name (get_or forms (row + 1) 0)
  meets : MeetsPlace forms nodes pool bindings limit (row + 3) l p inner env
  placed : get_or forms row 0 / 2048 % 65536 ≡ at

module _ {forms nodes pool bindings : List ℕ} {limit row : ℕ} where
  field_parts
      : {l : Limits} {p : List ℕ} (q : Place) {env : List Value} → MeetsPlace forms nodes pool bindings limit row l p q env
      → (get_or forms row 0 % 32 ≡ 1 → ⊥) → FieldParts forms nodes pool bindings limit row l p q env
  unfolding place_code place_at
  field_parts (Place.it at n) m f = absurd (f (place_stands_code m.stands))
  field_parts (Place.field at n q) m f =
      record {
        at = at;
        name = n;
        inner = q;
        same = refl;
        refers = field_name m.stands;
        meets =
            record {
              limited = m.limited;
              pooled = m.pooled;
              bound = m.bound;
              stands = field_place m.stands;
              counted = m.counted;
              binds = m.binds;
              room = m.room;
            };
        placed = place_stands_at m.stands;
      }

  pub stopped
      : {steps place : ℕ} → limit ≤ steps → place ≡ get_or forms row 0 / 2048 % 65536
      → SeesPlace forms nodes pool bindings limit row steps (Err (record { cause = cause.StepLimit; place = place }))
  stopped {steps} h e =
      record {
        told = λ l p q env m.
            place_stops q l env steps (omega (arith, m.limited)) ∙ ap (refused 13) (sym (e ∙ place_stands_at m.stands));
      }

  -- ---- `it`

  it_parts
      : {l : Limits} {p : List ℕ} (q : Place) {env : List Value} (steps : ℕ) → MeetsPlace forms nodes pool bindings limit row l p q env
      → get_or forms row 0 % 32 ≡ 1 → steps < limit
      → (get_or forms (row + 1) 0 < length bindings)
      × SeenAt (run_place q l env steps) nodes p limit steps (get_or bindings (get_or forms (row + 1) 0) 0) (suc steps)
  it_parts {l} {p} q {env} steps m f h = go (it_of q (sym (place_stands_code m.stands) ∙ f)) m
    where
      go : {a : Place} → IsIt a → MeetsPlace forms nodes pool bindings limit row l p a env
          → (get_or forms (row + 1) 0 < length bindings)
          × SeenAt (run_place a l env steps) nodes p limit steps (get_or bindings (get_or forms (row + 1) 0) 0) (suc steps)
      go (is_it {at} {n}) w =
          let s = it_slot w.stands in
          let e : get_or forms (row + 1) 0 ≡ slot (length env) n = s.0 ∙ ap (λ (d : ℕ). slot d n) (sym w.counted) in
          let k : n < length env = omega (arith, s.1, w.counted) in (
            omega (arith, e, slot_within (length env) n k, w.counted, w.room),
            record {
              value = get_or env n Value.null;
              ran = it_given at n l env steps (omega (arith, w.limited));
              bound = subst (λ (i : ℕ). Bound nodes p (get_or bindings i 0) (get_or env n Value.null)) (sym e) (binds_at n w.binds k);
              counted = omega arith;
              left = omega arith;
            },
          )

  pub it_within
      : {steps : ℕ} → PlaceReady forms nodes pool bindings limit row steps → get_or forms row 0 % 32 ≡ 1 → steps < limit
      → get_or forms (row + 1) 0 < length bindings
  it_within {steps} r f h = (it_parts r.place steps r.meets f h).0

  pub it_seen
      : {steps payload : ℕ} → get_or forms row 0 % 32 ≡ 1 → steps < limit → payload ≡ get_or forms (row + 1) 0
      → SeesPlace forms nodes pool bindings limit row steps (Ok (record { row = (get_or bindings payload 0); steps = (steps + 1) }))
  it_seen {steps} {payload} f h e =
      record {
        told = λ l p q env m.
            subst (λ (i : ℕ). SeenAt (run_place q l env steps) nodes p limit steps (get_or bindings i 0) (steps + 1)) (sym e)
            (subst (λ (i : ℕ). SeenAt (run_place q l env steps) nodes p limit steps (get_or bindings (get_or forms (row + 1) 0) 0) i) (sym (add-one steps))
            (it_parts q steps m f h).1);
      }

  -- ---- `field`

  module _ {steps : ℕ} (f : get_or forms row 0 % 32 ≡ 1 → ⊥) where
    pub inner_ready
        : PlaceReady forms nodes pool bindings limit row steps → PlaceReady forms nodes pool bindings limit (row + 3) (steps + 1)
    inner_ready r =
        let k = field_parts r.place r.meets f in
        record { limits = r.limits; used = r.used; place = k.inner; env = r.env; meets = k.meets; small = r.small; few = r.few }

    pub inner_within
        : PlaceReady forms nodes pool bindings limit row steps → row + 6 ≤ length forms
    inner_within r =
        let k = field_parts r.place r.meets f in
        omega (arith, place_stands_within k.meets.stands, place_forms_some k.inner)

    -- what running comes to behind the place inside
    entered
        : {l : Limits} {p : List ℕ} {q : Place} {env : List Value} (k : FieldParts forms nodes pool bindings limit row l p q env) → steps < limit
        → run_place q l env steps ≡ field_of k.at k.name (run_place k.inner l env (steps + 1))
    entered {l} {p} {q} {env} k h =
        ap (λ (a : Place). run_place a l env steps) k.same
        ∙ field_entered k.at k.name k.inner l env steps (omega (arith, k.meets.limited))
        ∙ ap (λ (n : ℕ). field_of k.at k.name (run_place k.inner l env n)) (sym (add-one steps))

    pub inner_refused
        : {r : Seen} {why : Refusal} → steps < limit → SeesPlace forms nodes pool bindings limit (row + 3) (steps + 1) r
        → r ≡ Err why → SeesPlace forms nodes pool bindings limit row steps (Err why)
    inner_refused {r} {why} h s e =
        record {
          told = λ l p q env m.
              let k = field_parts q m f in
              entered k h ∙ field_refused k.at k.name
              (subst (Sees (run_place k.inner l env (steps + 1)) nodes p limit (steps + 1)) e (s.told l p k.inner env k.meets));
        }

    module _ {r : Seen} {at behind kind : ℕ} (h : steps < limit)
        (s : SeesPlace forms nodes pool bindings limit (row + 3) (steps + 1) r) (e : r ≡ Ok (record { row = at; steps = behind }))
        (kinded : kind ≡ get_or nodes at 0 % 8) where
      seen
          : {l : Limits} {p : List ℕ} {q : Place} {env : List Value} (k : FieldParts forms nodes pool bindings limit row l p q env)
          → SeenAt (run_place k.inner l env (steps + 1)) nodes p limit (steps + 1) at behind
      seen {l} {p} {q} {env} k =
          subst (Sees (run_place k.inner l env (steps + 1)) nodes p limit (steps + 1)) e (s.told l p k.inner env k.meets)

      pub stuck
          : {place : ℕ} → (kind ≡ 0 → ⊥) → (kind ≡ 6 → ⊥) → place ≡ get_or forms row 0 / 2048 % 65536
          → SeesPlace forms nodes pool bindings limit row steps (Err (record { cause = cause.Stuck; place = place }))
      stuck z n g =
          record {
            told = λ l p q env m.
                let k = field_parts q m f in
                let x = seen k in
                entered k h
                ∙ field_stuck k.at k.name x.value behind x.ran (λ c. z (kinded ∙ bound_kind x.bound ∙ c))
                (λ c. n (kinded ∙ bound_kind x.bound ∙ c))
                ∙ ap (refused 12) (sym (g ∙ k.placed));
          }

      -- null is left where it stands
      pub through : kind ≡ 0 → SeesPlace forms nodes pool bindings limit row steps (Ok (record { row = at; steps = behind }))
      through z =
          record {
            told = λ l p q env m.
                let k = field_parts q m f in
                let x = seen k in
                record {
                  value = x.value;
                  ran =
                      entered k h ∙ field_through k.at k.name x.value behind x.ran (sym (kinded ∙ bound_kind x.bound) ∙ z);
                  bound = x.bound;
                  counted = omega (arith, x.counted);
                  left = x.left;
                };
          }

      pub some_record : kind ≡ 6 → PlaceReady forms nodes pool bindings limit row steps → SomeRecord nodes pool at
      some_record n w =
          let k = field_parts w.place w.meets f in
          let x = seen k in
          go (rec_of_kind x.value (sym (kinded ∙ bound_kind x.bound) ∙ n)) x.bound
        where
          go : {v : Value} → IsRec v → Bound nodes w.used at v → SomeRecord nodes pool at
          go (is_rec {ms}) (standing {m} b bd) =
              record {
                used = w.used;
                members = ms;
                held = record { name = m; stands = b; bounded = bd; pooled = w.meets.pooled };
                small = w.small;
              }

      pub found
          : {row' payload : ℕ} → kind ≡ 6 → payload ≡ get_or forms (row + 1) 0
          → ((p : List ℕ) (ms : Members) (n : Bytes) → RecordAt nodes pool at p ms → Refers p n payload → Bound nodes p row' (member_of n ms))
          → SeesPlace forms nodes pool bindings limit row steps (Ok (record { row = row'; steps = behind }))
      found {row'} {payload} n g b =
          record {
            told = λ l p q env m.
                let k = field_parts q m f in
                let x = seen k in
                go l p q env m k (rec_of_kind x.value (sym (kinded ∙ bound_kind x.bound) ∙ n)) x.bound x.ran x.counted x.left;
          }
        where
          go : (l : Limits) (p : List ℕ) (q : Place) (env : List Value) → MeetsPlace forms nodes pool bindings limit row l p q env
              → (k : FieldParts forms nodes pool bindings limit row l p q env) {v : Value} → IsRec v → Bound nodes p at v
              → run_place k.inner l env (steps + 1) ≡ gives v behind → steps + 1 ≤ behind → behind ≤ limit
              → SeenAt (run_place q l env steps) nodes p limit steps row' behind
          go l p q env m k (is_rec {ms}) (standing {m = j} w bd) ran more left =
              record {
                value = member_of k.name ms;
                ran = entered k h ∙ field_given k.at k.name ms behind ran;
                bound =
                    b p ms k.name (record { name = j; stands = w; bounded = bd; pooled = m.pooled })
                    (subst (Refers p k.name) (sym g) k.refers);
                counted = omega (arith, more);
                left = left;
              }
