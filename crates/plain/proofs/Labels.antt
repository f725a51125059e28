-- What stands before a member or an element: a comma, a name and a colon. Assumes nothing.
use Prim.Native.Nat.{ℕ, ◌+◌, ◌≤◌, ◌<◌}
use mathlib.Core.Path.{◌≡◌, refl, sym, ap, ◌∙◌}
use mathlib.Core.Bool.{Bool, true, false, true≢false}
use mathlib.Core.List.{List, [], ◌∷◌, ◌++◌, append_assoc}
use mathlib.Core.Option.{Option, some}
use lib.ListN.{length, get_or, set, length-append}
use Rattle.definitions.specs.Bytes.{Bytes, bytes}
use Rattle.definitions.specs.Plain.{plain_text}
use Rattle.text.specs.Writes.{Writes}
use Rattle.plain.specs.Parts.{comma, label, Labels, unlabeled, labeled, HoldsLabel, HoldsText}
use Rattle.plain.proofs.Writing.{writes_byte, writes_then, writes_as}

-- the name that the reference k is for
pub record Named (pool : List ℕ) (n : Option Bytes) (k : ℕ) : Type 0 where
  pub text : Bytes
  pub same : n ≡ some text
  pub holds : HoldsText pool k text

module _ {nodes pool : List ℕ} {named : Bool} {row : ℕ} {n : Option Bytes} (h : HoldsLabel nodes pool named row n) where
  pub label_named : {k : ℕ} → named ≡ true → k ≡ get_or nodes (row + 2) 0 → Named pool n k
  label_named {k} e f = go h.labels e (f ∙ h.placed)
    where
      go : {b : Bool} {m : Option Bytes} {j : ℕ} → Labels h.used b m j → b ≡ true → k ≡ j → Named pool m k
      go unlabeled e f = absurd (true≢false (sym e))
      go (labeled r) e f =
          record { text = _; same = refl; holds = record { used = h.used; refers = rw f r; pooled = h.pooled } }

  pub label_none : named ≡ false → [] ≡ label n
  unfolding label
  label_none e = go h.labels e
    where
      go : {b : Bool} {m : Option Bytes} {j : ℕ} → Labels h.used b m j → b ≡ false → [] ≡ label m
      go unlabeled e = refl
      go (labeled r) e = absurd (true≢false e)

module _ {pool : List ℕ} {n : Option Bytes} {k : ℕ} (later : Bool) (d : Named pool n k) where
  label_parts : comma later ++ plain_text d.text ++ (58 ∷ []) ≡ comma later ++ label n
  unfolding label bytes
  label_parts =
      append_assoc (comma later) (plain_text d.text) (58 ∷ [])
      ∙ ap (λ (m : Option Bytes). comma later ++ label m) (sym d.same)

  pub length_label : length (comma later ++ label n) ≡ length (comma later) + length (plain_text d.text) + 1
  length_label =
      ap length (sym label_parts)
      ∙ length-append (comma later ++ plain_text d.text) (58 ∷ [])
      ∙ ap (λ (m : ℕ). m + 1) (length-append (comma later) (plain_text d.text))

  pub WritesLabel
      : {out o₁ o₂ : Bytes} {at j e : ℕ} → at ≤ length out → Writes out o₁ at (comma later) j
      → Writes o₁ o₂ j (plain_text d.text) e → e < length o₂ → Writes out (set o₂ e 58) at (comma later ++ label n) (e + 1)
  WritesLabel {o₂ = o₂} {e = e} h w x g = writes_as label_parts (writes_then h (writes_then h w x) (writes_byte o₂ e 58 g))
