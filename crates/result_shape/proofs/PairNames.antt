-- Whether a pack has a result of a name. Assumes nothing.
use Prim.Native.Nat.{ℕ, ◌/◌, ◌%◌, ◌<◌}
use mathlib.Core.Path.{◌≡◌, ap, ap₂, ◌∙◌}
use mathlib.Core.Bool.{Bool}
use mathlib.Core.List.{List}
use lib.ListN.{length, take}
use Rattle.definitions.specs.Bytes.{Bytes}
use Rattle.definitions.specs.Reader.{Pairs, among_pairs}
use Rattle.pool.specs.Pool.{text_in}
use Rattle.nodes.specs.StandingLaws.{text_referred}
use Rattle.forms.specs.Forms.{PairsStand, PairsHeld}
use Rattle.nodes.specs.Nodes.{Refers}
use Rattle.plain.specs.Table.{Used}
use Rattle.growing.specs.Rows.{SomeNames}
use Rattle.result_shape.specs.Giving.{PairsThere}

pub names_held : {table pool : List ℕ} {at end : ℕ} → SomeNames (PairsThere table at end) pool → PairsHeld table pool at end
names_held w =
    record {
      used = w.part;
      bound = w.tells.bound;
      pairs = w.tells.pairs;
      front = w.pooled.front;
      small = w.pooled.small;
      stand = w.tells.stand;
    }

pub there_told
    : {table pool : List ℕ} {at end k v m : ℕ} {b : Bool} → v ≡ k % 65536 → m ≡ k / 65536
    → ((p : List ℕ) (d : ℕ) (ps : Pairs) → take (length p) pool ≡ p → length p < 65536 → PairsStand table p at end d ps
    → b ≡ among_pairs (text_in pool v m) ps)
    → {p : List ℕ} {n : Bytes} {there : Bytes → Bool} → Used pool p → Refers p n k → PairsThere table at end p there → b ≡ there n
there_told {pool = pool} e f told {p} {n} u r t =
    told p t.bound t.pairs u.front u.small t.stand
    ∙ ap (λ (x : Bytes). among_pairs x t.pairs) (ap₂ (text_in pool) e f ∙ text_referred pool u.front u.small r)
    ∙ t.tells n
