-- Answers behind an opening bracket and behind a part, for lists and records alike. Assumes nothing.
use Prim.Native.Nat.{ℕ, suc, ◌+◌, ◌-◌, ◌*◌, ◌/◌, ◌≤◌, ◌<◌}
use mathlib.Core.Path.{◌≡◌, refl, sym, ap, ap₂, ◌∙◌}
use mathlib.Core.List.{List, [], ◌∷◌, ◌++◌, append-nil}
use native.Mathlib.Omega.{arith}
use lib.ListN.{length, take, drop, get_or}
use Rattle.definitions.specs.declared.Limits.{Limits}
use Rattle.definitions.specs.Bytes.{Bytes}
use Rattle.definitions.specs.Value.{size}
use Rattle.definitions.specs.Plain.{plain}
use Rattle.definitions.specs.Json.{Open, gap, put, scan}
use Rattle.nodes.specs.Nodes.{head_word, head_of}
use Rattle.nodes.specs.NodesLaws.{head_word_is}
use Rattle.std.specs.Prelude.{Err}
use Rattle.reading.specs.declared.Cursor.{Cursor}
use Rattle.reading.specs.declared.Cause.TheVariants.{JsonSyntax}
use Rattle.json_reader.specs.declared.parts.Bracket.{Bracket}
use Rattle.json_reader.specs.declared.parts.Bracket.TheVariants.{Square, Curly}
use Rattle.json_reader.specs.JsonParts.{answer_of, Skips, Token, Neither, OpenLimited, TablePlaced}
use Rattle.json_reader.specs.JsonParts.{Moves, Reads, Parts, no_parts, code_of, closing_of}
use Rattle.json_reader.specs.JsonParts.{start_of, next_of, behind_of, Before, count_of, whole_of, Marked, covers_none}
use Rattle.json_reader.specs.JsonParts.{OpenParts, Closes, BehindReady}
use Rattle.json_reader.proofs.Scan.{scan_broken}
use Rattle.nodes.specs.RowLaws.{length_with_row, row_put}
use Rattle.json_reader.proofs.Answers.{as_word, row_first}
use Rattle.json_reader.proofs.Bracketed.{comma, closes, closes_empty, first_part, behind_end, behind_broken, no_rows, whole_rows}
use Rattle.json_reader.proofs.Bracketed.{count_none, size_whole, code_whole, bits_whole, length_whole, length_none, parts_none}

-- ---- a list or record that is whole

pub code_small : (k : Bracket) → code_of k < 8
code_small Square = omega arith
code_small Curly = omega arith

module _
    (k : Bracket) {left values : ℕ} {doc : Bytes} {nodes₀ pool₀ nodes nodes' pool : List ℕ} {name written r : ℕ} {c to : Cursor}
    (s : Parts k) (rs : List ℕ) where
  -- its row is put before those of its parts
  whole_read
      : Closes nodes nodes' c.begun k name to written r
      → 3 * c.begun + 3 ≤ length nodes
      → length nodes ≡ length nodes₀
      → length pool ≡ length pool₀
      → Before k (take to.top pool) s rs
      → take (3 * to.begun) nodes ≡ take (3 * suc c.begun) nodes₀ ++ rs
      → to.begun ≡ suc c.begun + count_of k s
      → written ≡ length (plain (whole_of k s))
      → take c.top pool ≡ take c.top pool₀
      → Moves doc values c to (length (plain (whole_of k s)))
      → ((l : Limits) (o : Open) → OpenLimited l o values (suc left) → (kept : Bytes)
      → scan l (suc c.begun) kept (gap (start_of k o)) (drop c.at doc) ≡ scan l to.begun kept (gap (put (whole_of k s) o)) (drop to.at doc))
      → Reads (start_of k) (suc c.begun) (suc left) values doc nodes₀ pool₀ nodes' pool name c (answer_of r)
  whole_read u room same_nodes same_pool held table counted wrote front moves run =
      as_word u.answer
      (record {
        answer =
            record {
              value = whole_of k s;
              run = run;
              rows = head_word (whole_of k s) ∷ 3 * size (whole_of k s) ∷ name ∷ rs;
              held = whole_rows k (take to.top pool) s rs name held;
              table =
                  ap (λ (z : List ℕ). take (3 * to.begun) z) u.row
                  ∙ row_put nodes c.begun (head_of (code_of k) 0 written) (3 * (to.begun - c.begun)) name room nodes₀ rs to.begun
                  (omega (arith, counted)) (omega (arith, same_nodes)) table
                  ∙ ap₂ (λ (h x : ℕ). take (3 * c.begun) nodes₀ ++ h ∷ x ∷ name ∷ rs)
                  (head_word_is (whole_of k s) (code_whole k s) (sym (bits_whole k s)) wrote)
                  (let e : 3 * (to.begun - c.begun) ≡ 3 * size (whole_of k s) = omega (arith, counted, size_whole k s) in e);
              counted = omega (arith, counted, size_whole k s);
              wrote =
                  ap (λ (w : ℕ). w / 256)
                  (row_first nodes c.begun (head_of (code_of k) 0 written) (3 * (to.begun - c.begun)) name room u.row)
                  ∙ omega (arith, wrote, code_small k);
              front = front;
              moves = moves;
            };
        nodes_kept =
            ap length u.row
            ∙ length_with_row nodes c.begun (head_of (code_of k) 0 written) (3 * (to.begun - c.begun)) name room
            ∙ same_nodes;
        pool_kept = same_pool;
      })

-- ---- behind an opening bracket

pub closing_byte : (k : Bracket) → closing_of k < 256
closing_byte Square = omega arith
closing_byte Curly = omega arith

none_marked : (k : Bracket) (seen : ℕ) → Marked k seen (no_parts k)
none_marked Square seen = tt
none_marked Curly seen = covers_none

module _
    {left values : ℕ} {doc : Bytes} {nodes pool : List ℕ} (c : Cursor) {at : ℕ} (p : TablePlaced doc nodes values c)
    (free : c.begun < values) (k : Bracket) (s : Skips doc c.at at) where
  pub first_part_stop
      : {name r : ℕ} {nodes' : List ℕ} → Token doc c.at (closing_of k) (at + 1)
      → Closes nodes nodes' c.begun k name (record { at = at + 1; begun = c.begun + 1; top = c.top }) 2 r
      → Reads (start_of k) (suc c.begun) (suc left) values doc nodes pool nodes' pool name c (answer_of r)
  first_part_stop t u =
      whole_read k (no_parts k) [] u (omega (arith, p.rows)) refl refl (no_rows k (take c.top pool))
      (ap (λ (i : ℕ). take (3 * i) nodes) (let e : c.begun + 1 ≡ suc c.begun = omega arith in e) ∙ sym (append-nil (take (3 * suc c.begun) nodes)))
      (omega (arith, count_none k))
      (length_none k)
      refl
      (record {
        ahead = t.ahead;
        within = t.within;
        limit = omega arith;
        grows = omega arith;
        room = omega (arith, t.ahead);
        short = omega (arith, t.ahead, length_none k);
      })
      (λ l o a kept.
      t.run l (suc c.begun) kept (start_of k o)
      ∙ closes_empty l (suc c.begun) kept o k (drop (at + 1) doc)
      ∙ ap (λ (i : ℕ). scan l i kept (gap (put (whole_of k (no_parts k)) o)) (drop (at + 1) doc))
      (let e : suc c.begun ≡ c.begun + 1 = omega arith in e))

  pub first_part_more
      : {seen : ℕ} → (get_or doc at 256 ≡ closing_of k → ⊥)
      → OpenParts k seen (next_of k) 1 left values doc nodes pool nodes pool c (record { at = at; begun = c.begun + 1; top = c.top }) 1
  first_part_more {seen} h =
      record {
        parts = no_parts k;
        run = λ l o a kept.
            s.run l (suc c.begun) kept (start_of k o)
            ∙ first_part l (suc c.begun) kept o k doc at s.stops h
            ∙ ap (λ (i : ℕ). scan l i kept (gap (next_of k (no_parts k) o)) (drop at doc))
            (let e : suc c.begun ≡ c.begun + 1 = omega arith in e);
        rows = [];
        held = no_rows k (take c.top pool);
        marked = none_marked k seen;
        table =
            ap (λ (i : ℕ). take (3 * i) nodes) (let e : c.begun + 1 ≡ suc c.begun = omega arith in e)
            ∙ sym (append-nil (take (3 * suc c.begun) nodes));
        counted = omega (arith, count_none k);
        wrote = omega (arith, parts_none k);
        front = refl;
        moves =
            record {
              ahead = s.from;
              within = s.within;
              limit = omega arith;
              grows = omega arith;
              room = omega (arith, s.from);
              short = omega (arith, s.from);
            };
        nodes_kept = refl;
        pool_kept = refl;
      }

-- ---- behind a part

module _
    {seen left values : ℕ} {doc : Bytes} {nodes₀ pool₀ nodes pool : List ℕ} {written : ℕ} (c to : Cursor)
    (b : BehindReady doc nodes c to written) (k : Bracket)
    (op : OpenParts k seen (behind_of k) 0 left values doc nodes₀ pool₀ nodes pool c to written) where
  pub next_part_more
      : {at : ℕ} → Token doc to.at 0x2C at
      → OpenParts k seen (next_of k) 1 left values doc nodes₀ pool₀ nodes pool c (record { at = at; begun = to.begun; top = to.top }) written
  next_part_more {at} t =
      record {
        parts = op.parts;
        run = λ l o a kept.
            op.run l o a kept
            ∙ t.run l to.begun kept (behind_of k op.parts o)
            ∙ comma l to.begun kept o k op.parts (drop at doc);
        rows = op.rows;
        held = op.held;
        marked = op.marked;
        table = op.table;
        counted = op.counted;
        wrote = op.wrote;
        front = op.front;
        moves =
            record {
              ahead = omega (arith, op.moves.ahead, t.ahead);
              within = t.within;
              limit = op.moves.limit;
              grows = op.moves.grows;
              room = omega (arith, op.moves.room, t.ahead);
              short = omega (arith, op.moves.short, t.ahead);
            };
        nodes_kept = op.nodes_kept;
        pool_kept = op.pool_kept;
      }

  pub next_part_stop
      : {at name r : ℕ} {nodes' : List ℕ} → Token doc to.at (closing_of k) at
      → Closes nodes nodes' c.begun k name (record { at = at; begun = to.begun; top = to.top }) written r
      → Reads (start_of k) (suc c.begun) (suc left) values doc nodes₀ pool₀ nodes' pool name c (answer_of r)
  next_part_stop {at} t u =
      let whole = op.wrote ∙ length_whole k op.parts (omega (arith, op.counted, b.more)) in
      whole_read k op.parts op.rows u (omega (arith, b.rows, b.more)) op.nodes_kept op.pool_kept op.held op.table
      op.counted
      whole
      op.front
      (record {
        ahead = omega (arith, op.moves.ahead, t.ahead);
        within = t.within;
        limit = op.moves.limit;
        grows = op.moves.grows;
        room = omega (arith, op.moves.room, t.ahead);
        short = omega (arith, op.moves.short, t.ahead, whole);
      })
      (λ l o a kept.
      op.run l o a kept
      ∙ t.run l to.begun kept (behind_of k op.parts o)
      ∙ closes l to.begun kept o k op.parts (drop at doc))

  pub next_part_broken
      : {place name : ℕ} → Neither doc to.at 0x2C (closing_of k) place
      → Reads (start_of k) (suc c.begun) (suc left) values doc nodes₀ pool₀ nodes pool name c (Err (record { cause = JsonSyntax; place = place }))
  next_part_broken {place} t =
      record {
        answer =
            record {
              run = λ l o a kept.
                  op.run l o a kept
                  ∙ t.skips.run l to.begun kept (behind_of k op.parts o)
                  ∙ scan_broken l to.begun kept doc place (behind_of k op.parts o) (behind_end k op.parts o) t.skips.stops
                  (behind_broken k op.parts o (get_or doc place 256) t.first t.second);
              within = t.skips.within;
            };
        nodes_kept = op.nodes_kept;
        pool_kept = op.pool_kept;
      }
