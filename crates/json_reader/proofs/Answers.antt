-- Answers of the value reader, from how reading goes and what the tables hold. Assumes nothing.
use Prim.Native.Nat.{ℕ, suc, ◌+◌, ◌*◌, ◌/◌, ◌≤◌}
use mathlib.Core.Path.{◌≡◌, sym, ap, ◌∙◌, subst}
use mathlib.Core.List.{List, [], ◌∷◌}
use native.Mathlib.Omega.{arith}
use lib.ListN.{length, take, drop, get_or}
use Rattle.std.specs.Prelude.{Result, Ok, Err}
use lib.Seq.{length-take-le, get_or_at}
use Rattle.definitions.specs.declared.Limits.{Limits}
use Rattle.definitions.specs.Bytes.{Bytes}
use Rattle.definitions.specs.Outcome.{refused}
use Rattle.definitions.specs.Value.{Value, size}
use Rattle.definitions.specs.Plain.{plain}
use Rattle.definitions.specs.Json.{Open, Gap, gap, put, scan}
use Rattle.nodes.specs.Nodes.{Rows}
use Rattle.reading.specs.declared.Cursor.{Cursor}
use Rattle.reading.specs.declared.Refusal.{Refusal}
use Rattle.reading.specs.Refusals.{number_of}
use Rattle.json_reader.specs.JsonParts.{OpenLimited, Moves, Reads}
use Rattle.nodes.specs.RowLaws.{with_row, length_with_row, row_alone}

-- an answer that is another: that of a word
pub as_word
    : {g : Open → Gap} {n left values : ℕ} {doc : Bytes} {nodes pool nodes' pool' : List ℕ} {name : ℕ} {c : Cursor} {r a : Result Cursor Refusal}
    → r ≡ a
    → Reads g n left values doc nodes pool nodes' pool' name c a
    → Reads g n left values doc nodes pool nodes' pool' name c r
as_word {g} {n} {left} {values} {doc} {nodes} {pool} {nodes'} {pool'} {name} {c} e d =
    subst (λ (z : Result Cursor Refusal). Reads g n left values doc nodes pool nodes' pool' name c z) (sym e) d

-- a refusal; the tables are as long as they were
pub refuses
    : {g : Open → Gap} {n left values : ℕ} {doc : Bytes} {nodes pool nodes' pool' : List ℕ} {name : ℕ} {c : Cursor} {r : Refusal}
    → length nodes' ≡ length nodes → length pool' ≡ length pool → r.place ≤ length doc
    → ((l : Limits) (o : Open) → OpenLimited l o values left → (kept : Bytes)
    → scan l n kept (gap (g o)) (drop c.at doc) ≡ refused (number_of r.cause) (drop r.place doc))
    → Reads g n left values doc nodes pool nodes' pool' name c (Err r)
refuses e f h r = record { answer = record { run = r; within = h }; nodes_kept = e; pool_kept = f }

-- the first word of the row that was put
pub row_first
    : (nodes : List ℕ) {nodes' : List ℕ} (b h x m : ℕ) → 3 * b + 3 ≤ length nodes → nodes' ≡ with_row nodes b h x m → get_or nodes' (3 * b) 0 ≡ h
row_first nodes b h x m room row =
    ap (λ (s : List ℕ). get_or s (3 * b) 0) row
    ∙ get_or_at (take (3 * b) nodes) h (x ∷ m ∷ drop (3 * b + 3) nodes) 0 (3 * b) (length-take-le (3 * b) nodes (omega arith))

-- a value that has one row
pub one_row
    : {left values : ℕ} {doc : Bytes} {nodes pool nodes' pool' : List ℕ} {name h x : ℕ} {c to : Cursor} (v : Value)
    → size v ≡ 1 → to.begun ≡ c.begun + 1
    → 3 * c.begun + 3 ≤ length nodes
    → nodes' ≡ with_row nodes c.begun h x name
    → Rows (take to.top pool') name v (h ∷ x ∷ name ∷ [])
    → length pool' ≡ length pool
    → take c.top pool' ≡ take c.top pool
    → h / 256 ≡ length (plain v)
    → Moves doc values c to (length (plain v))
    → ((l : Limits) (o : Open) → OpenLimited l o values left → (kept : Bytes)
    → scan l c.begun kept (gap (Gap.value o)) (drop c.at doc) ≡ scan l (suc c.begun) kept (gap (put v o)) (drop to.at doc))
    → Reads Gap.value c.begun left values doc nodes pool nodes' pool' name c (Ok to)
one_row {doc} {nodes} {nodes'} {name} {h} {x} {c} {to} v one next room row held kept front wrote moves run =
    record {
      answer =
          record {
            value = v;
            run = λ l o a k.
                run l o a k
                ∙ ap (λ (i : ℕ). scan l i k (gap (put v o)) (drop to.at doc))
                (let f : suc c.begun ≡ to.begun = omega (arith, next) in f);
            rows = h ∷ x ∷ name ∷ [];
            held = held;
            table =
                ap (λ (i : ℕ). take (3 * i) nodes') next
                ∙ ap (λ (s : List ℕ). take (3 * (c.begun + 1)) s) row
                ∙ row_alone nodes c.begun h x name room;
            counted = omega (arith, one, next);
            wrote = ap (λ (w : ℕ). w / 256) (row_first nodes c.begun h x name room row) ∙ wrote;
            front = front;
            moves = moves;
          };
      nodes_kept = ap length row ∙ length_with_row nodes c.begun h x name room;
      pool_kept = kept;
    }
