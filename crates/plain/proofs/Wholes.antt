-- A list or a record as its parts between brackets. Assumes nothing.
use Prim.Native.Nat.{ℕ, ◌+◌, ◌*◌, ◌%◌, ◌≤◌, ◌<◌}
use native.Mathlib.Omega.{arith}
use mathlib.Core.Path.{◌≡◌, sym, ap, ◌∙◌}
use mathlib.Core.Bool.{Bool, true, false}
use mathlib.Core.List.{List, [], ◌∷◌, ◌++◌}
use lib.ListN.{length, get_or, set, length-append}
use Rattle.definitions.specs.Bytes.{Bytes, bytes}
use Rattle.definitions.specs.Value.{Value, size}
use Rattle.definitions.specs.Plain.{plain}
use Rattle.text.specs.Writes.{Writes}
use Rattle.nodes.specs.Nodes.{kind_code}
use Rattle.plain.specs.Table.{Holds}
use Rattle.plain.specs.Parts.{Parts, plain_parts, HoldsParts}
use Rattle.plain.specs.HeadLaws.{kind_small}
use Rattle.plain.proofs.Rows.{stands_kind}
use Rattle.plain.proofs.Writing.{writes_byte, writes_then, writes_as}
use Rattle.plain.proofs.Parts.{of_items, of_members, plain_list, plain_rec, list_parts, rec_parts}

-- v takes n words from a row on, and is its parts between two brackets
pub record Encloses (nodes pool : List ℕ) (row n : ℕ) (named : Bool) (opening closing : ℕ) (v : Value) : Type 0 where
  pub parts : Parts
  pub holds : HoldsParts nodes pool named (row + 3) (row + n) parts
  pub same : (opening ∷ []) ++ plain_parts false parts ++ (closing ∷ []) ≡ plain v

-- what is no single value and no list is a record
pub kind_record
    : {nodes pool : List ℕ} {row kind : ℕ} {v : Value} → Holds nodes pool row v → kind ≡ get_or nodes row 0 % 8 → 5 ≤ kind
    → (kind ≡ 5 → ⊥) → kind_code v ≡ 6
kind_record {v = v} h e f g =
    omega (arith, kind_small v, stands_kind h.stands)

module _ {nodes pool : List ℕ} {row n : ℕ} where
  pub list_encloses
      : (v : Value) → Holds nodes pool row v → n ≡ 3 * size v → kind_code v ≡ 5 → Encloses nodes pool row n false 91 93 v
  unfolding kind_code bytes
  list_encloses Value.null h e k = absurd (let z : ⊥ = omega arith in z)
  list_encloses (Value.bool true) h e k = absurd (let z : ⊥ = omega arith in z)
  list_encloses (Value.bool false) h e k = absurd (let z : ⊥ = omega arith in z)
  list_encloses (Value.number x) h e k = absurd (let z : ⊥ = omega arith in z)
  list_encloses (Value.text t) h e k = absurd (let z : ⊥ = omega arith in z)
  list_encloses (Value.list vs) h e k = record { parts = of_items vs; holds = rw e (list_parts vs h); same = plain_list vs }
  list_encloses (Value.rec ms) h e k = absurd (let z : ⊥ = omega arith in z)

  pub rec_encloses
      : (v : Value) → Holds nodes pool row v → n ≡ 3 * size v → kind_code v ≡ 6 → Encloses nodes pool row n true 123 125 v
  unfolding kind_code bytes
  rec_encloses Value.null h e k = absurd (let z : ⊥ = omega arith in z)
  rec_encloses (Value.bool true) h e k = absurd (let z : ⊥ = omega arith in z)
  rec_encloses (Value.bool false) h e k = absurd (let z : ⊥ = omega arith in z)
  rec_encloses (Value.number x) h e k = absurd (let z : ⊥ = omega arith in z)
  rec_encloses (Value.text t) h e k = absurd (let z : ⊥ = omega arith in z)
  rec_encloses (Value.list vs) h e k = absurd (let z : ⊥ = omega arith in z)
  rec_encloses (Value.rec ms) h e k = record { parts = of_members ms; holds = rw e (rec_parts ms h); same = plain_rec ms }

module _ {nodes pool : List ℕ} {row n : ℕ} {named : Bool} {opening closing : ℕ} {v : Value} (w : Encloses nodes pool row n named opening closing v) where
  pub length_enclosed : length (plain v) ≡ 2 + length (plain_parts false w.parts)
  length_enclosed =
      ap length (sym w.same)
      ∙ length-append ((opening ∷ []) ++ plain_parts false w.parts) (closing ∷ [])
      ∙ omega arith

  pub writes_enclosed
      : {out o₂ : Bytes} {at j : ℕ} → at < length out → Writes (set out at opening) o₂ (at + 1) (plain_parts false w.parts) j
      → j < length o₂ → Writes out (set o₂ j closing) at (plain v) (j + 1)
  writes_enclosed {out} {o₂} {at} {j} h x g =
      writes_as w.same (writes_then before (writes_then before (writes_byte out at opening h) x) (writes_byte o₂ j closing g))
    where
      before : at ≤ length out
      before = omega arith
