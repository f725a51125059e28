-- What running a reader answers. Assumes nothing.
use Prim.Native.Nat.{ℕ, ◌+◌, ◌*◌, ◌≤◌, ◌<◌}
use native.Mathlib.Omega.{arith}
use mathlib.Core.Path.{◌≡◌, refl, sym, ap, ap₂, ◌∙◌, subst}
use mathlib.Core.Bool.{Bool, true, false, ◌||◌}
use mathlib.Core.List.{List, [], ◌∷◌, ◌++◌}
use borrow.Author.Tests.{lt-ltb, le-ltb}
use lib.Dec.{ltb}
use lib.ListN.{length, drop, set, length-set, take-append-drop}
use lib.Seq.{get_or-set_same}
use Rattle.definitions.specs.declared.Limits.{Limits}
use Rattle.definitions.specs.Value.{Value, size, nesting}
use Rattle.definitions.specs.Reader.{Result}
use Rattle.definitions.specs.Running.{run, run_reader}
use Rattle.nodes.specs.Standing.{ValueStands}
use Rattle.forms.specs.FormsLaws.{levels_some}
use Rattle.std.specs.Prelude.{Ok, Err}
use Rattle.reading.specs.declared.Refusal.{Refusal}
use Rattle.running.specs.declared.Halt.TheVariants as halt
use Rattle.running.specs.declared.going.Cursor.{Cursor}
use Rattle.running.specs.Bindings.{Bound, standing, no_binding, binding}
use Rattle.running.specs.Depth.{SomeValue}
use Rattle.running.specs.Run.{ReadsBoth, Runnable, RunsReader}
use Rattle.running.specs.Walk.{Part, Meets, Ready, Made, Comes, Runs}

-- where it begins
abbrev pub start : Cursor
start = record { row = 0; name = 0; bound = 1; begun = 0; steps = 0 }

module _ {forms nodes pool : List ℕ} (bindings : List ℕ) {l : Limits} (room : l.nesting ≤ length bindings) where
  some_bindings : {p : List ℕ} {form : Result} {v : Value} → ReadsBoth forms nodes pool l p form v → 0 < length bindings
  some_bindings {form = form} h = omega (arith, h.levels, room, levels_some form)

  pub bound_within : {results : List ℕ} → Runnable forms nodes pool bindings results l → 0 < length bindings
  bound_within r = some_bindings r.held

  meets
      : {p : List ℕ} {form : Result} {v : Value} → ReadsBoth forms nodes pool l p form v
      → Meets forms nodes pool (set bindings 0 0) l.steps 0 1 l p form (v ∷ [])
  meets {p} {form} {v} h =
      record {
        limited = refl;
        pooled = h.pooled;
        name = h.reader_name;
        stands = h.reader;
        good = h.good;
        counted = refl;
        binds =
            binding
            (subst (λ (i : ℕ). Bound nodes p i v) (sym (get_or-set_same bindings 0 0 0 (some_bindings h))) (standing h.document h.bounded))
            no_binding;
        room = omega (arith, h.levels, room, length-set bindings 0 0);
      }

  pub ready : {results : List ℕ} → Runnable forms nodes pool bindings results l → Ready forms nodes pool (set bindings 0 0) results l.steps start
  ready r =
      record {
        limits = l;
        used = r.used;
        form = r.form;
        env = r.value ∷ [];
        meets = meets r.held;
        small = record { rows = r.small_nodes; parts = r.small_results; steps = r.few_steps };
        paid = omega arith;
      }

  module _ {bindings' results results' : List ℕ} {r : Part} (ran : Runs forms nodes pool (set bindings 0 0) bindings' results results' l.steps start r) where
    pub refused_at : {why : Refusal} → r ≡ Err why → RunsReader forms nodes pool results' l (Err (halt.Refused why))
    unfolding run_reader
    refused_at e =
        record {
          told = λ p form v h. subst (Comes (run form l (v ∷ []) 0) l.steps p results results' start) e (ran.told l p form (v ∷ []) (meets h));
        }

    module _ {kind begun steps : ℕ} (e : r ≡ Ok (record { kind = kind; begun = begun; steps = steps })) where
      made
          : {p : List ℕ} {form : Result} {v : Value} → ReadsBoth forms nodes pool l p form v
          → Made (run form l (v ∷ []) 0) l.steps p results results' start kind begun steps
      made {p} {form} {v} h = subst (Comes (run form l (v ∷ []) 0) l.steps p results results' start) e (ran.told l p form (v ∷ []) (meets h))

      pub too_many : l.values < begun → RunsReader forms nodes pool results' l (Err halt.Over)
      unfolding run_reader
      too_many h =
          record {
            told = λ p form v b.
                let x = made b in
                record {
                  value = x.value;
                  steps = steps;
                  ran = x.ran;
                  too_much =
                      ap (λ (y : Bool). y || ltb l.nesting (nesting x.value)) (lt-ltb l.values (size x.value) (omega (arith, h, x.puts.counted)));
                };
          }

      module _ (few : begun ≤ l.values) (long : 3 * l.values ≤ length results) where
        stands : {p : List ℕ} {form : Result} {v : Value} (b : ReadsBoth forms nodes pool l p form v) → ValueStands results' p 0 0 (made b).value
        stands b =
            let x = made b in
            let a = x.puts.put (omega (arith, few, long)) in
            record {
              rows = a.rows;
              rest = drop (3 * (0 + size x.value)) results';
              encoded = a.encoded;
              placed =
                  sym (take-append-drop (3 * (0 + size x.value)) results') ∙ ap (λ (t : List ℕ). t ++ drop (3 * (0 + size x.value)) results') a.placed;
            }

        pub some_value : Runnable forms nodes pool bindings results l → length results' ≡ length results → SomeValue results' 0
        some_value q n =
            record {
              used = q.used;
              name = 0;
              value = (made q.held).value;
              stands = stands q.held;
              small = omega (arith, n, q.small_results);
            }

        module _ {b : Bool} (deep : (p : List ℕ) (m : ℕ) (v : Value) → ValueStands results' p 0 m v → b ≡ ltb l.nesting (nesting v)) where
          sized : {p : List ℕ} {form : Result} {v : Value} (q : ReadsBoth forms nodes pool l p form v) → ltb l.values (size (made q).value) ≡ false
          sized q = le-ltb l.values (size (made q).value) (omega (arith, few, (made q).puts.counted))

          pub too_deep : b ≡ true → RunsReader forms nodes pool results' l (Err halt.Over)
          unfolding run_reader
          too_deep t =
              record {
                told = λ p form v q.
                    let x = made q in
                    record {
                      value = x.value;
                      steps = steps;
                      ran = x.ran;
                      too_much = ap₂ (λ (y z : Bool). y || z) (sized q) (sym (deep p 0 x.value (stands q)) ∙ t);
                    };
              }

          pub allowed : b ≡ false → RunsReader forms nodes pool results' l (Ok steps)
          unfolding run_reader
          allowed t =
              record {
                told = λ p form v q.
                    let x = made q in
                    let s = stands q in
                    record {
                      value = x.value;
                      ran = x.ran;
                      allowed = ap₂ (λ (y z : Bool). y || z) (sized q) (sym (deep p 0 x.value s) ∙ t);
                      holds =
                          record {
                            used = p;
                            stands = record { name = 0; rows = s.rows; rest = s.rest; encoded = s.encoded; placed = s.placed };
                            pooled = q.pooled;
                            bounded = x.bounded;
                          };
                    };
              }
