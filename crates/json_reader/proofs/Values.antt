-- Answers of the value reader from those for lists, records and scalars. Assumes nothing.
use Prim.Native.Nat.{ℕ, suc, ◌+◌, ◌-◌, ◌≤◌, ◌<◌}
use mathlib.Core.Path.{◌≡◌, refl, ◌∙◌}
use mathlib.Core.Bool.{true, false}
use mathlib.Core.List.{List}
use mathlib.Core.Option.{some}
use native.Mathlib.Omega.{arith}
use lib.ListN.{length, drop, get_or}
use Rattle.std.specs.Prelude.{Result, Ok, Err}
use Rattle.definitions.specs.declared.Limits.{Limits}
use Rattle.definitions.specs.Bytes.{Bytes, look, between, white, white_table, found}
use Rattle.definitions.specs.Json.{Open, Gap, gap, value_rows, scan}
use Rattle.reading.specs.declared.Cursor.{Cursor}
use Rattle.reading.specs.declared.Cause.TheVariants.{ValueLimit}
use Rattle.reading.specs.declared.Refusal.{Refusal}
use Rattle.json_reader.specs.declared.parts.Bracket.{Bracket}
use Rattle.json_reader.specs.declared.parts.Bracket.TheVariants.{Square, Curly}
use Rattle.json_reader.specs.JsonParts.{Skips, OpenLimited, JudgesFull, Ready, Reads, ScalarByte, opening_of, start_of}
use Rattle.json_reader.proofs.Scan.{byte_inside}
use Rattle.json_reader.proofs.Scalars.{full_here, begins_here}
use Rattle.json_reader.proofs.Answers.{refuses}

opens : (k : Bracket) (o : Open) → look (value_rows o) (opening_of k) ≡ some (gap (start_of k o))
unfolding value_rows look between
opens Square o = refl
opens Curly o = refl

opening_visible : (k : Bracket) → white (opening_of k) ≡ false
unfolding white white_table found look between
opening_visible Square = refl
opening_visible Curly = refl

opening_byte : (k : Bracket) → opening_of k < 256
opening_byte Square = omega arith
opening_byte Curly = omega arith

-- the cursor at another place of the text
abbrev pub moved : Cursor → ℕ → Cursor
moved c at = record { at = at; begun = c.begun; top = c.top }

-- an answer from a place that reading comes to is one from where it came from
pub from_there
    : {g h : Open → Gap} {n m left left' values : ℕ} {doc : Bytes} {nodes pool nodes' pool' : List ℕ} {name : ℕ} (c : Cursor) (at : ℕ)
    (r : Result Cursor Refusal)
    → c.at ≤ at
    → ((l : Limits) (o : Open) → OpenLimited l o values left → (kept : Bytes)
    → scan l n kept (gap (g o)) (drop c.at doc) ≡ scan l m kept (gap (h o)) (drop at doc))
    → ((l : Limits) (o : Open) → OpenLimited l o values left → OpenLimited l o values left')
    → Reads h m left' values doc nodes pool nodes' pool' name (moved c at) r
    → Reads g n left values doc nodes pool nodes' pool' name c r
from_there c at (Err q) e run around d =
    refuses d.nodes_kept d.pool_kept d.answer.within
    (λ l o a kept. run l o a kept ∙ d.answer.run l o (around l o a) kept)
from_there c at (Ok to) e run around d =
    let v = d.answer in
    record {
      answer =
          record {
            value = v.value;
            run = λ l o a kept. run l o a kept ∙ v.run l o (around l o a) kept;
            rows = v.rows;
            held = v.held;
            table = v.table;
            counted = v.counted;
            wrote = v.wrote;
            front = v.front;
            moves =
                record {
                  ahead = omega (arith, v.moves.ahead);
                  within = v.moves.within;
                  limit = v.moves.limit;
                  grows = v.moves.grows;
                  room = omega (arith, v.moves.room);
                  short = omega (arith, v.moves.short);
                };
          };
      nodes_kept = d.nodes_kept;
      pool_kept = d.pool_kept;
    }

module _
    {values at : ℕ} {doc nodes pool : List ℕ} (c : Cursor) (p : Ready doc nodes pool values c) (s : Skips doc c.at at) where
  -- ---- a list or record

  module _ (k : Bracket) (e : get_or doc at 256 ≡ opening_of k) where
    pub bracket_full
        : {left name : ℕ} → JudgesFull values left c.begun true
        → Reads Gap.value c.begun left values doc nodes pool nodes pool name c (Err (record { cause = ValueLimit; place = at }))
    bracket_full j =
        refuses refl refl s.within
        (λ l o a kept.
        s.run l c.begun kept (Gap.value o)
        ∙ full_here doc at (opening_of k) (λ o'. gap (start_of k o')) e (opening_byte k) (opening_visible k) (opens k) j l o a kept)

    pub bracket_ready : Ready doc nodes pool values (moved c (at + 1))
    bracket_ready =
        let inside : at < length doc = byte_inside doc at e (opening_byte k) in
        record {
          placed =
              record {
                rows = p.placed.rows;
                short = p.placed.short;
                few = p.placed.few;
                within = omega arith;
                limit = p.placed.limit;
                small = p.placed.small;
              };
          base = p.base;
          low = p.low;
          texts = p.texts;
          used = p.used;
          room = omega (arith, p.room, s.from);
        }

    pub bracket_value
        : {left name : ℕ} {nodes' pool' : List ℕ} {r : Result Cursor Refusal} → JudgesFull values left c.begun false
        → Reads (start_of k) (suc c.begun) (suc (left - 1)) values doc nodes pool nodes' pool' name (moved c (at + 1)) r
        → Reads Gap.value c.begun left values doc nodes pool nodes' pool' name c r
    bracket_value {r} j d =
        from_there c (at + 1) r (omega (arith, s.from))
        (λ l o a kept.
        s.run l c.begun kept (Gap.value o)
        ∙ begins_here doc at (opening_of k) (λ o'. gap (start_of k o')) e (opening_byte k) (opening_visible k) (opens k) j l o a kept)
        (λ l o a. record { most = a.most; nests = omega (arith, a.nests, (j.within refl).1) })
        d

  -- ---- any other

  pub scalar_byte : {b : ℕ} → b ≡ get_or doc at 256 → (b ≡ 0x5B → ⊥) × (b ≡ 0x7B → ⊥) → ScalarByte (get_or doc at 256)
  scalar_byte e (h, i) = record { visible = s.stops; no_list = λ z. h (e ∙ z); no_record = λ z. i (e ∙ z) }

  pub scalar_ready : Ready doc nodes pool values (moved c at)
  scalar_ready =
      record {
        placed =
            record {
              rows = p.placed.rows;
              short = p.placed.short;
              few = p.placed.few;
              within = s.within;
              limit = p.placed.limit;
              small = p.placed.small;
            };
        base = p.base;
        low = p.low;
        texts = p.texts;
        used = p.used;
        room = omega (arith, p.room, s.from);
      }

  pub scalar_value
      : {left name : ℕ} {nodes' pool' : List ℕ} {r : Result Cursor Refusal}
      → Reads Gap.value c.begun left values doc nodes pool nodes' pool' name (moved c at) r
      → Reads Gap.value c.begun left values doc nodes pool nodes' pool' name c r
  scalar_value {r} d = from_there c at r s.from (λ l o a kept. s.run l c.begun kept (Gap.value o)) (λ l o a. a) d
