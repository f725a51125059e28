-- What holds at each turn of the loop over parts. Assumes nothing.
use Prim.Native.Nat.{ℕ, ◌+◌, ◌*◌, ◌≤◌, ◌<◌}
use native.Mathlib.Omega.{arith}
use mathlib.Core.Path.{◌≡◌, refl, ap, ◌∙◌}
use mathlib.Core.Bool.{Bool}
use mathlib.Core.List.{List, ◌++◌}
use lib.Dec.{ltb}
use lib.ListN.{length, length-append}
use Rattle.definitions.specs.Bytes.{Bytes}
use Rattle.definitions.specs.Value.{size}
use Rattle.definitions.specs.Plain.{plain}
use Rattle.nodes.specs.Nodes.{row_size}
use Rattle.nodes.specs.StandingLaws.{size_some}
use Rattle.plain.specs.Table.{Writable, WritesValue}
use Rattle.plain.specs.Parts.{Parts, comma, label, plain_parts, HoldsParts, WritableParts, WritableLabel, WritesLabel}
use Rattle.plain.proofs.Rows.{stands_size, stands_within}
use Rattle.plain.proofs.Parts.{First, first, length_part, Going, goes, goes_on}

pub record Loop (nodes pool : List ℕ) (named : Bool) (row end : ℕ) (out₀ : Bytes) (at : ℕ) (out : Bytes) (i j : ℕ) : Type 0 where
  pub same : length out ≡ length out₀
  pub ahead : row ≤ i
  pub going : (ps : Parts) → HoldsParts nodes pool named row end ps → Going nodes pool named row end out₀ at ps out i j

pub loop_begins : (nodes pool : List ℕ) (named : Bool) (row end : ℕ) (out : Bytes) (at : ℕ) → Loop nodes pool named row end out at out row at
loop_begins nodes pool named row end out at = record { same = refl; ahead = omega arith; going = λ ps h. goes out at h }

module _
    {nodes pool : List ℕ} {named : Bool} {row end : ℕ} {out₀ : Bytes} {at : ℕ} {out : Bytes} {i j : ℕ}
    (w : WritableParts nodes pool named row end out₀ at)
    (l : Loop nodes pool named row end out₀ at out i j)
    (more : i < end)
  where
    pub now_going : Going nodes pool named row end out₀ at w.parts out i j
    now_going = l.going w.parts w.holds

    -- the part at row i, of the parts that the caller has
    pub turn : First nodes pool named i end now_going.left
    turn = first now_going.holds more

    room : j + length (comma (ltb row i) ++ label turn.name) + length (plain turn.value) ≤ length out
    room =
        omega (
          arith,
          w.room,
          l.same,
          now_going.written.end,
          length_part turn (ltb row i),
          length-append now_going.done (plain_parts (ltb row i) now_going.left),
          ap length now_going.whole,
        )

    pub label_writable : WritableLabel nodes pool (ltb row i) named i out j
    label_writable = record { name = turn.name; holds = turn.labels; room = omega (arith, room) }

    pub value_writable
        : {o₁ : Bytes} {j₁ : ℕ} → length o₁ ≡ length out → WritesLabel nodes pool (ltb row i) named i out o₁ j j₁
        → Writable nodes pool i o₁ j₁
    value_writable e x =
        record { value = turn.value; holds = turn.holds; room = omega (arith, room, (x turn.name turn.labels).end) }

    pub turn_within : i + 3 * size turn.value ≤ length nodes
    turn_within = stands_within turn.holds.stands

    pub turn_some : 3 ≤ 3 * size turn.value
    turn_some = omega (arith, size_some turn.value)

    pub loop_on
        : {o₁ o₂ : Bytes} {j₁ j₂ n : ℕ}
        → length o₁ ≡ length out → length o₂ ≡ length o₁
        → WritesLabel nodes pool (ltb row i) named i out o₁ j j₁
        → WritesValue nodes pool i o₁ o₂ j₁ j₂
        → n ≡ row_size nodes i
        → Loop nodes pool named row end out₀ at o₂ (i + n) j₂
    loop_on {n = n} e f x y z =
        record {
          same = f ∙ e ∙ l.same;
          ahead = omega (arith, l.ahead);
          going = λ ps h.
              let g = l.going ps h in
              let t = first g.holds more in
              goes_on (omega (arith, w.room)) l.ahead g t (x t.name t.labels) (y t.value t.holds)
              (z ∙ stands_size t.holds.stands);
        }
