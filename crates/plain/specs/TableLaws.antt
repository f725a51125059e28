-- How a reader's tables are what a writer asks, and where a text of the pool stands. Assumes nothing.
use Rattle.std.specs.Prelude.{ℕ, ◌+◌, ◌/◌, ◌%◌, ◌≤◌, ◌<◌, ◌≡◌, List, length, take, drop}
use Rattle.std.proofs.Common.{arith, sym, ap, ◌∙◌, length-take, take-append-drop, length-take-le}
use Rattle.std.proofs.Math.Seq.{take-length}
use Rattle.definitions.specs.Bytes.{Bytes}
use Rattle.definitions.specs.Value.{Value}
use Rattle.definitions.specs.Plain.{plain}
use Rattle.pool.specs.Pool.{words, text_in}
use Rattle.pool.specs.PoolLaws.{text_in_front}
use Rattle.nodes.specs.Nodes.{Refers, refers, Rows}
use Rattle.nodes.specs.NodesLaws.{reference_word, reference_bytes}
use Rattle.plain.specs.Table.{BoundedNumbers, Used, Holds, Writable}

-- a value in the first n words of the table, its texts in the first words of the pool
pub holds_front
    : (nodes pool : List ℕ) (n top : ℕ) {m : ℕ} {v : Value} → Rows (take top pool) m v (take n nodes) → top ≤ length pool
    → top < 65536 → BoundedNumbers v → Holds nodes pool 0 v
holds_front nodes pool n top {m} r h s b =
    record {
      used = take top pool;
      stands = record {
        name = m;
        rows = take n nodes;
        rest = drop n nodes;
        encoded = r;
        placed = sym (take-append-drop n nodes);
      };
      pooled = record {
        front = ap (λ (k : ℕ). take k pool) (length-take-le top pool h);
        small = omega (arith, length-take-le top pool h);
      };
      bounded = b;
    }

-- and room for it at the front of the output
pub writable_front
    : {nodes pool : List ℕ} (out : Bytes) {v : Value} → Holds nodes pool 0 v → length (plain v) ≤ length out
    → Writable nodes pool 0 out 0
writable_front out {v} h r = record { value = v; holds = h; room = omega arith }

-- ---- a text of the pool

-- where a text stands, from its reference
pub record Found (pool : List ℕ) (t : Bytes) (k : ℕ) : Type 0 where
  pub within : k % 65536 + words (k / 65536) ≤ length pool
  pub text : text_in pool (k % 65536) (k / 65536) ≡ t

used_length : {pool p : List ℕ} → Used pool p → length p ≤ length pool
used_length {pool} {p} u = omega (arith, length-take (length p) pool, ap length u.front)

pub found : {pool p : List ℕ} {t : Bytes} {k : ℕ} → Used pool p → Refers p t k → Found pool t k
found {pool} {p} {t} u (refers w h e) =
    let g : w < 65536 = omega (arith, u.small) in
    record {
      within = rw (reference_word w (length t) g, reference_bytes w (length t) g) (omega (arith, used_length u));
      text = rw (reference_word w (length t) g, reference_bytes w (length t) g)
          (text_in_front p pool (length p) w (length t) (u.front ∙ sym (take-length p)) h ∙ e);
    }
