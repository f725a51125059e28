-- What a document comes to, from what its value does. Assumes nothing.
use Prim.Native.Nat.{ℕ, suc, ◌-◌, ◌*◌, ◌≤◌, ◌<◌}
use mathlib.Core.Path.{◌≡◌, refl, ap, ◌∙◌}
use mathlib.Core.Bool.{false}
use mathlib.Core.List.{List}
use native.Mathlib.Omega.{arith}
use lib.ListN.{length, drop, get_or, length-drop, drop_of_length-le}
use lib.Seq.{drop-cons}
use Rattle.std.specs.Prelude.{Ok, Err}
use Rattle.definitions.specs.declared.Limits.{Limits}
use Rattle.definitions.specs.Bytes.{Bytes, white}
use Rattle.definitions.specs.Outcome.{ok, refused, place, placed}
use Rattle.definitions.specs.Value.{Value}
use Rattle.definitions.specs.Json.{root, Gap, gap, put, token_move, gap_end, end_move, depth, judge, scan, read_json}
use Rattle.reading.specs.declared.Cursor.{Cursor}
use Rattle.reading.specs.declared.Refusal.{Refusal}
use Rattle.reading.specs.declared.Cause.TheVariants.{JsonSyntax}
use Rattle.reading.specs.Refusals.{number_of, refused_as}
use Rattle.json_reader.specs.JsonRead.{Tables, ReadsDocument}
use Rattle.json_reader.specs.JsonParts.{Skips, OpenLimited, Ready, Reads}
use Rattle.json_reader.proofs.Scan.{scan_token}

-- where a document begins
abbrev pub start : ℕ → Cursor
start top = record { at = 0; begun = 0; top = top }

pub start_ready
    : {doc nodes pool : List ℕ} {values : ℕ} (top : ℕ) → Tables doc nodes pool top values → Ready doc nodes pool values (start top)
start_ready top t =
    record {
      placed = record { rows = t.rows; short = t.short; few = t.few; within = omega arith; limit = omega arith; small = omega (arith, t.low) };
      base = top;
      low = t.low;
      texts = t.texts;
      used = t.used;
      room = omega arith;
    }

-- nothing is open around it
at_root : (l : Limits) → OpenLimited l root l.values l.nesting
unfolding depth
at_root l = record { most = refl; nests = omega arith }

-- ---- outcomes

read_refused
    : (l : Limits) (doc : Bytes) (r : Refusal) → r.place ≤ length doc
    → scan l 0 doc (gap (Gap.value root)) doc ≡ refused (number_of r.cause) (drop r.place doc) → read_json l doc ≡ refused_as r
unfolding read_json placed place
read_refused l doc r h e =
    ap (placed doc) e
    ∙ ap (λ (p : ℕ). refused (number_of r.cause) p)
    (let f : length doc - length (drop r.place doc) ≡ r.place = omega (arith, length-drop r.place doc) in f)

read_ok
    : (l : Limits) (doc : Bytes) (v : Value) → scan l 0 doc (gap (Gap.value root)) doc ≡ ok v → read_json l doc ≡ ok v
unfolding read_json placed
read_ok l doc v e = ap (placed doc) e

-- the end behind the value
whole_ends : (l : Limits) (n : ℕ) (kept doc : Bytes) (v : Value) (at : ℕ) → length doc ≤ at → scan l n kept (gap (Gap.whole v)) (drop at doc) ≡ ok v
unfolding scan judge end_move gap_end
whole_ends l n kept doc v at h = rw (drop_of_length-le doc {i = at} h)

-- another byte there
whole_goes_on
    : (l : Limits) (n : ℕ) (kept doc : Bytes) (v : Value) (at : ℕ) → at < length doc → white (get_or doc at 256) ≡ false
    → scan l n kept (gap (Gap.whole v)) (drop at doc) ≡ refused 3 (drop at doc)
unfolding judge token_move
whole_goes_on l n kept doc v at h w =
    rw (drop-cons doc at 256 h) (scan_token l n kept (Gap.whole v) (get_or doc at 256) (drop (suc at) doc) w)

-- ---- answers

module _ (l : Limits) {doc nodes pool nodes' pool' : List ℕ} (top : ℕ) where
  pub document_refused
      : {r : Refusal} → Reads Gap.value 0 l.nesting l.values doc nodes pool nodes' pool' 0 (start top) (Err r)
      → ReadsDocument l doc nodes pool nodes' pool' top (Err r)
  document_refused {r} d =
      record {
        answer = read_refused l doc r d.answer.within (d.answer.run l root (at_root l) doc);
        nodes_kept = d.nodes_kept;
        pool_kept = d.pool_kept;
      }

  module _
      {end : ℕ} (to : Cursor) (d : Reads Gap.value 0 l.nesting l.values doc nodes pool nodes' pool' 0 (start top) (Ok to))
      (s : Skips doc to.at end) where
    run_to_end
        : scan l 0 doc (gap (Gap.value root)) doc ≡ scan l to.begun doc (gap (Gap.whole d.answer.value)) (drop end doc)
    unfolding put
    run_to_end = d.answer.run l root (at_root l) doc ∙ s.run l to.begun doc (Gap.whole d.answer.value)

    pub document_goes_on : end < length doc → ReadsDocument l doc nodes pool nodes' pool' top (Err (record { cause = JsonSyntax; place = end }))
    document_goes_on h =
        record {
          answer =
              read_refused l doc (record { cause = JsonSyntax; place = end }) s.within
              (run_to_end ∙ whole_goes_on l to.begun doc doc d.answer.value end h s.stops);
          nodes_kept = d.nodes_kept;
          pool_kept = d.pool_kept;
        }

    pub document_read
        : Tables doc nodes pool top l.values → length doc ≤ end
        → ReadsDocument l doc nodes pool nodes' pool' top (Ok (record { words = 3 * to.begun; top = to.top }))
    document_read t h =
        let v = d.answer in
        record {
          answer =
              record {
                value = v.value;
                read = read_ok l doc v.value (run_to_end ∙ whole_ends l to.begun doc doc v.value end h);
                held = rw v.table v.held;
                counted = omega (arith, v.counted);
                within = omega (arith, v.moves.room, v.moves.within, v.moves.limit, t.texts, d.pool_kept);
                small = omega (arith, v.moves.room, v.moves.within, v.moves.limit, t.short, t.few, t.low);
                grows = v.moves.grows;
                front = v.front;
              };
          nodes_kept = d.nodes_kept;
          pool_kept = d.pool_kept;
        }
