-- A turn of the list reader's and of the record reader's loop. Assumes nothing.
use Prim.Native.Nat.{ℕ, suc, ◌+◌, ◌-◌, ◌*◌, ◌/◌, ◌^◌, ◌≤◌, ◌<◌}
use mathlib.Core.Path.{◌≡◌, sym, ap, ◌∙◌, subst}
use mathlib.Core.List.{List, ◌++◌, append_assoc}
use native.Mathlib.Omega.{arith}
use lib.ListN.{length, take, drop, get_or}
use Rattle.std.specs.Prelude.{Result, Ok, Err}
use Rattle.std.proofs.Common.{ControlFlow, Continue, Break}
use lib.Seq.{take-take, length-take-le, drop_at}
use Rattle.definitions.specs.declared.Limits.{Limits}
use Rattle.definitions.specs.Bytes.{Bytes}
use Rattle.definitions.specs.Value.{Items, item, Members, member, size}
use Rattle.definitions.specs.Json.{Open, in_list, in_rec, Gap, gap, put, depth, scan}
use Rattle.nodes.specs.Nodes.{Refers, ItemsBefore, item_before, MembersBefore, member_before}
use Rattle.nodes.specs.NodesLaws.{refers_grow, items_before_grow, members_before_grow, grown}
use Rattle.nodes.specs.StandingLaws.{size_some}
use Rattle.reading.specs.declared.Cursor.{Cursor}
use Rattle.reading.specs.declared.Refusal.{Refusal}
use Rattle.json_reader.specs.declared.parts.Bracket.{Bracket}
use Rattle.json_reader.specs.declared.parts.Bracket.TheVariants.{Square, Curly}
use Rattle.json_reader.specs.declared.parts.Part.{Part}
use Rattle.json_reader.specs.declared.name.Name.{Name}
use Rattle.json_reader.specs.JsonParts.{answer_of, OpenLimited, TablePlaced, Ready, ValueDone, Reads, MembersAt, NameReady, ReadsName}
use Rattle.json_reader.specs.JsonParts.{Parts, start_of, next_of, behind_of, items_length, members_length, OpenParts, Turns, BehindReady, Ahead}

-- ---- what is left to read

abbrev pub to_read : Bytes → ControlFlow ℕ Part → ℕ
to_read doc (Continue part) = suc (length doc - part.from.at)
to_read doc (Break r) = 0

pub reads_less
    : (doc : Bytes) (part : Part) (to : Cursor) (turn : ControlFlow ℕ Part) → part.from.at < to.at → to.at ≤ length doc → Ahead to turn
    → to_read doc turn < to_read doc (Continue part)
reads_less doc part to (Continue next) h k a = omega (arith, a)
reads_less doc part to (Break r) h k a = omega arith

-- ---- inside a list or a record

pub inside_list : {l : Limits} {o : Open} {values left : ℕ} (vs : Items) → OpenLimited l o values (suc left) → OpenLimited l (in_list vs o) values left
unfolding depth
inside_list vs a = record { most = a.most; nests = omega (arith, a.nests) }

pub inside_record
    : {l : Limits} {o : Open} {values left : ℕ} (ms : Members) (n : Bytes) → OpenLimited l o values (suc left) → OpenLimited l (in_rec ms n o) values left
unfolding depth
inside_record ms n a = record { most = a.most; nests = omega (arith, a.nests) }

-- what is written and what is used of the pool stay small
module _
    (k : Bracket) {here : Parts k → Open → Gap} {seen spare left values total : ℕ} {doc : Bytes} {nodes₀ pool₀ nodes pool : List ℕ} (c to : Cursor)
    (r : Ready doc nodes₀ pool₀ values c) (op : OpenParts k seen here spare left values doc nodes₀ pool₀ nodes pool c to total) where
  pub total_small : total ≤ 2 ^ 40
  total_small = omega (arith, op.moves.short, op.moves.within, op.moves.limit, r.placed.short, r.placed.few)

  pub top_small : to.top < 65536
  top_small = omega (arith, r.room, r.low, op.moves.room, op.moves.within, op.moves.limit, r.placed.short, r.placed.few)

-- where the next part may begin
unfoldable pub part_ready
    : (k : Bracket) {seen left values written : ℕ} {doc : Bytes} {nodes₀ pool₀ nodes pool : List ℕ} (c from : Cursor)
    → Ready doc nodes₀ pool₀ values c → OpenParts k seen (next_of k) 1 left values doc nodes₀ pool₀ nodes pool c from written
    → Ready doc nodes pool values from
part_ready k c from r op =
    record {
      placed =
          record {
            rows = omega (arith, r.placed.rows, op.nodes_kept);
            short = r.placed.short;
            few = r.placed.few;
            within = op.moves.within;
            limit = op.moves.limit;
            small = top_small k c from r op;
          };
      base = r.base;
      low = r.low;
      texts = omega (arith, r.texts, op.pool_kept);
      used = omega (arith, r.room, op.moves.room, op.moves.within, op.moves.limit, r.texts, op.pool_kept);
      room = omega (arith, r.room, op.moves.room);
    }

-- a part, and the answer
pub a_part
    : {k : Bracket} {seen left values : ℕ} {doc : Bytes} {nodes pool nodes' pool' : List ℕ} {name : ℕ} {c : Cursor} {turn : ControlFlow ℕ Part}
    {part : Part}
    → Turns k seen left values doc nodes pool nodes' pool' name c turn → turn ≡ Continue part
    → OpenParts k seen (next_of k) 1 left values doc nodes pool nodes' pool' c part.from part.written
a_part {k} {seen} {left} {values} {doc} {nodes} {pool} {nodes'} {pool'} {name} {c} t e =
    (subst (λ (u : ControlFlow ℕ Part). Turns k seen left values doc nodes pool nodes' pool' name c u) e t).answer

pub the_answer
    : {k : Bracket} {seen left values : ℕ} {doc : Bytes} {nodes pool nodes' pool' : List ℕ} {name : ℕ} {c : Cursor} {turn : ControlFlow ℕ Part}
    {r : ℕ}
    → Turns k seen left values doc nodes pool nodes' pool' name c turn → turn ≡ Break r
    → Reads (start_of k) (suc c.begun) (suc left) values doc nodes pool nodes' pool' name c (answer_of r)
the_answer {k} {seen} {left} {values} {doc} {nodes} {pool} {nodes'} {pool'} {name} {c} t e =
    (subst (λ (u : ControlFlow ℕ Part). Turns k seen left values doc nodes pool nodes' pool' name c u) e t).answer

-- the row of what begins there is in the table
pub row_placed
    : {doc nodes : List ℕ} {values : ℕ} {c : Cursor} → TablePlaced doc nodes values c → c.begun < values
    → TablePlaced doc nodes (c.begun + 1) c
row_placed p h =
    record {
      rows = omega (arith, p.rows);
      short = p.short;
      few = omega (arith, p.few);
      within = p.within;
      limit = omega arith;
      small = p.small;
    }

-- ---- a list's element

module _
    {seen left values written : ℕ} {doc : Bytes} {nodes₀ pool₀ nodes pool nodes' pool' : List ℕ} {c from : Cursor}
    (ready : Ready doc nodes₀ pool₀ values c) (op : OpenParts Square seen (next_of Square) 1 left values doc nodes₀ pool₀ nodes pool c from written)
  where
    pub element_refused
        : {name : ℕ} {r : Refusal} {v : Result Cursor Refusal} → v ≡ Err r
        → Reads Gap.value from.begun left values doc nodes pool nodes' pool' 0 from v
        → Reads Gap.first_item (suc c.begun) (suc left) values doc nodes₀ pool₀ nodes' pool' name c v
    element_refused {name} e d₀ =
        let d = subst (λ (z : Result Cursor Refusal). Reads Gap.value from.begun left values doc nodes pool nodes' pool' 0 from z) e d₀ in
        subst (λ (z : Result Cursor Refusal). Reads Gap.first_item (suc c.begun) (suc left) values doc nodes₀ pool₀ nodes' pool' name c z) (sym e)
        (record {
          answer =
              record {
                run = λ l o a kept.
                    op.run l o a kept ∙ d.answer.run l (in_list op.parts o) (inside_list op.parts a) kept;
                within = d.answer.within;
              };
          nodes_kept = d.nodes_kept ∙ op.nodes_kept;
          pool_kept = d.pool_kept ∙ op.pool_kept;
        })

    pub element_read
        : {to : Cursor} {n : ℕ} → Reads Gap.value from.begun left values doc nodes pool nodes' pool' 0 from (Ok to)
        → n ≡ get_or nodes' (3 * from.begun) 0 / 256
        → OpenParts Square seen (behind_of Square) 0 left values doc nodes₀ pool₀ nodes' pool' c to (written + n + 1)
    unfolding put size items_length
    element_read {to} {n} d e =
        let v = d.answer in
        record {
          parts = item v.value op.parts;
          run = λ l o a kept. op.run l o a kept ∙ v.run l (in_list op.parts o) (inside_list op.parts a) kept;
          rows = op.rows ++ v.rows;
          held = item_before held_then v.held;
          marked = tt;
          table =
              v.table
              ∙ ap (λ (s : List ℕ). s ++ v.rows) op.table
              ∙ append_assoc (take (3 * suc c.begun) nodes₀) op.rows v.rows;
          counted = omega (arith, v.counted, op.counted);
          wrote = omega (arith, e, v.wrote, op.wrote);
          front =
              sym (take-take c.top from.top pool' op.moves.grows)
              ∙ ap (λ (s : List ℕ). take c.top s) v.front
              ∙ take-take c.top from.top pool op.moves.grows
              ∙ op.front;
          moves =
              record {
                ahead = omega (arith, op.moves.ahead, v.moves.ahead);
                within = v.moves.within;
                limit = v.moves.limit;
                grows = omega (arith, op.moves.grows, v.moves.grows);
                room = omega (arith, op.moves.room, v.moves.room);
                short = omega (arith, e, v.wrote, op.moves.short, v.moves.short);
              };
          nodes_kept = d.nodes_kept ∙ op.nodes_kept;
          pool_kept = d.pool_kept ∙ op.pool_kept;
        }
      where
        held_then : ItemsBefore (take to.top pool') op.parts op.rows
        held_then =
            let v = d.answer in
            rw (grown pool pool' from.top to.top v.moves.grows (part_ready Square c from ready op).used v.front)
            (items_before_grow (take (to.top - from.top) (drop from.top pool')) op.held)

-- behind a part
pub behind_ready
    : (k : Bracket) {seen left values name : ℕ} {doc : Bytes} {nodes₀ pool₀ nodes₁ pool₁ nodes' pool' : List ℕ} {total : ℕ}
    (c from to : Cursor) {g : Open → Gap} {m : ℕ}
    → Ready doc nodes₀ pool₀ values c
    → suc c.begun ≤ from.begun
    → ValueDone g m left values doc nodes₁ pool₁ nodes' pool' name from to
    → OpenParts k seen (behind_of k) 0 left values doc nodes₀ pool₀ nodes' pool' c to total
    → BehindReady doc nodes' c to total
behind_ready k c from to r e v op =
    record {
      within = v.moves.within;
      brief = r.placed.short;
      small = top_small k c to r op;
      rows = omega (arith, v.moves.limit, r.placed.rows, op.nodes_kept);
      more = omega (arith, v.counted, size_some v.value);
      few = omega (arith, v.moves.limit, r.placed.few);
      short = total_small k c to r op;
    }

-- ---- a record's member

module _
    {seen left values written : ℕ} {doc : Bytes} {nodes₀ pool₀ nodes pool : List ℕ} {c from : Cursor}
    (ready : Ready doc nodes₀ pool₀ values c × (c.begun < values))
    (op : OpenParts Curly seen (next_of Curly) 1 left values doc nodes₀ pool₀ nodes pool c from written) where
  members_before : MembersAt nodes pool (c.begun + 1) from op.parts
  members_before =
      record {
        rows = op.rows;
        held = op.held;
        table =
            ap (λ (s : List ℕ). drop (3 * (c.begun + 1)) s) op.table
            ∙ drop_at (take (3 * suc c.begun) nodes₀) op.rows (3 * (c.begun + 1))
            (length-take-le (3 * suc c.begun) nodes₀ (omega (arith, ready.0.placed.rows, ready.1))
            ∙ (let e : 3 * suc c.begun ≡ 3 * (c.begun + 1) = omega arith in e));
      }

  pub name_ready : NameReady doc nodes pool (c.begun + 1) from
  unfolding part_ready
  name_ready =
      let r = ready.0 in
      record {
        values = values;
        ready = part_ready Curly c from r op;
        spare = omega (arith, r.room, op.moves.room);
        members = op.parts;
        before = members_before;
        ordered = omega (arith, op.counted);
      }

  module _ {pool₁ : List ℕ} where
    pub name_refused
        : {name : ℕ} {r : Refusal} → ReadsName doc nodes pool pool₁ (c.begun + 1) seen from (Err r)
        → Reads Gap.first_name (suc c.begun) (suc left) values doc nodes₀ pool₀ nodes pool₁ name c (Err r)
    name_refused d =
        record {
          answer =
              record {
                run = λ l o a kept. op.run l o a kept ∙ d.answer.run op.parts members_before op.marked l from.begun kept o;
                within = d.answer.within;
              };
          nodes_kept = op.nodes_kept;
          pool_kept = d.pool_kept ∙ op.pool_kept;
        }

    module _ {named : Name} (d : ReadsName doc nodes pool pool₁ (c.begun + 1) seen from (Ok named)) where
      pub value_ready : Ready doc nodes pool₁ values named.to
      value_ready =
          let r = ready.0 in
          let q = part_ready Curly c from r op in
          let m = d.answer.moves in
          record {
            placed =
                record {
                  rows = q.placed.rows;
                  short = q.placed.short;
                  few = q.placed.few;
                  within = m.within;
                  limit = omega (arith, q.placed.limit, m.begun);
                  small =
                      omega (arith, op.moves.room, r.room, r.low, m.room, m.begun, m.within, op.moves.limit, r.placed.short, r.placed.few);
                };
            base = r.base;
            low = r.low;
            texts = omega (arith, r.texts, op.pool_kept, d.pool_kept);
            used = omega (arith, op.moves.room, r.room, m.room, m.begun, m.within, op.moves.limit, r.texts, op.pool_kept, d.pool_kept);
            room = omega (arith, op.moves.room, r.room, m.room, m.begun);
          }

      named_run
          : (l : Limits) (o : Open) → OpenLimited l o values (suc left) → (kept : Bytes)
          → scan l (suc c.begun) kept (gap (Gap.first_name o)) (drop c.at doc)
          ≡ scan l named.to.begun kept (gap (Gap.value (in_rec op.parts d.answer.name o))) (drop named.to.at doc)
      named_run l o a kept =
          op.run l o a kept
          ∙ d.answer.run op.parts members_before op.marked l from.begun kept o
          ∙ ap (λ (i : ℕ). scan l i kept (gap (Gap.value (in_rec op.parts d.answer.name o))) (drop named.to.at doc)) (sym d.answer.moves.begun)

      module _ {nodes' pool' : List ℕ} where
        pub member_refused
            : {name : ℕ} {r : Refusal} {v : Result Cursor Refusal} → v ≡ Err r
            → Reads Gap.value named.to.begun left values doc nodes pool₁ nodes' pool' named.word named.to v
            → Reads Gap.first_name (suc c.begun) (suc left) values doc nodes₀ pool₀ nodes' pool' name c v
        member_refused {name} e u₀ =
            let u = subst (λ (z : Result Cursor Refusal). Reads Gap.value named.to.begun left values doc nodes pool₁ nodes' pool' named.word named.to z) e u₀ in
            subst (λ (z : Result Cursor Refusal). Reads Gap.first_name (suc c.begun) (suc left) values doc nodes₀ pool₀ nodes' pool' name c z) (sym e)
            (record {
              answer =
                  record {
                    run = λ l o a kept.
                        named_run l o a kept
                        ∙ u.answer.run l (in_rec op.parts d.answer.name o) (inside_record op.parts d.answer.name a) kept;
                    within = u.answer.within;
                  };
              nodes_kept = u.nodes_kept ∙ op.nodes_kept;
              pool_kept = u.pool_kept ∙ d.pool_kept ∙ op.pool_kept;
            })

        pub member_read
            : {to : Cursor} {n : ℕ}
            → Reads Gap.value named.to.begun left values doc nodes pool₁ nodes' pool' named.word named.to (Ok to)
            → n ≡ get_or nodes' (3 * named.to.begun) 0 / 256
            → OpenParts Curly named.seen (behind_of Curly) 0 left values doc nodes₀ pool₀ nodes' pool' c to (written + named.written + n + 2)
        unfolding put size members_length
        member_read {to} {n} u e =
            let v = u.answer in
            let m = d.answer.moves in
            record {
              parts = member d.answer.name v.value op.parts;
              run = λ l o a kept.
                  named_run l o a kept
                  ∙ v.run l (in_rec op.parts d.answer.name o) (inside_record op.parts d.answer.name a) kept;
              rows = op.rows ++ v.rows;
              held = member_before before_then named_then v.held;
              marked = d.answer.covers v.value op.marked;
              table =
                  v.table
                  ∙ ap (λ (i : ℕ). take (3 * i) nodes ++ v.rows) m.begun
                  ∙ ap (λ (s : List ℕ). s ++ v.rows) op.table
                  ∙ append_assoc (take (3 * suc c.begun) nodes₀) op.rows v.rows;
              counted = omega (arith, v.counted, op.counted, m.begun);
              wrote = omega (arith, e, v.wrote, op.wrote, d.answer.wrote);
              front =
                  sym (take-take c.top named.to.top pool' (omega (arith, op.moves.grows, m.grows)))
                  ∙ ap (λ (s : List ℕ). take c.top s) v.front
                  ∙ take-take c.top named.to.top pool₁ (omega (arith, op.moves.grows, m.grows))
                  ∙ sym (take-take c.top from.top pool₁ op.moves.grows)
                  ∙ ap (λ (s : List ℕ). take c.top s) d.answer.front
                  ∙ take-take c.top from.top pool op.moves.grows
                  ∙ op.front;
              moves =
                  record {
                    ahead = omega (arith, op.moves.ahead, m.ahead, v.moves.ahead);
                    within = v.moves.within;
                    limit = v.moves.limit;
                    grows = omega (arith, op.moves.grows, m.grows, v.moves.grows);
                    room = omega (arith, op.moves.room, m.room, m.begun, v.moves.room);
                    short = omega (arith, e, v.wrote, op.moves.short, m.short, m.begun, v.moves.short);
                  };
              nodes_kept = u.nodes_kept ∙ op.nodes_kept;
              pool_kept = u.pool_kept ∙ d.pool_kept ∙ op.pool_kept;
            }
          where
            -- the pool behind the name, and behind the value
            behind_name : take named.to.top pool₁ ≡ take from.top pool ++ take (named.to.top - from.top) (drop from.top pool₁)
            behind_name =
                grown pool pool₁ from.top named.to.top d.answer.moves.grows (part_ready Curly c from ready.0 op).used d.answer.front

            behind_value : take to.top pool' ≡ take named.to.top pool₁ ++ take (to.top - named.to.top) (drop named.to.top pool')
            behind_value = grown pool₁ pool' named.to.top to.top u.answer.moves.grows value_ready.used u.answer.front

            before_then : MembersBefore (take to.top pool') op.parts op.rows
            before_then =
                let then : MembersBefore (take named.to.top pool₁) op.parts op.rows =
                rw behind_name (members_before_grow (take (named.to.top - from.top) (drop from.top pool₁)) op.held) in
                rw behind_value (members_before_grow (take (to.top - named.to.top) (drop named.to.top pool')) then)

            named_then : Refers (take to.top pool') d.answer.name named.word
            named_then = rw behind_value (refers_grow (take (to.top - named.to.top) (drop named.to.top pool')) d.answer.refers)
