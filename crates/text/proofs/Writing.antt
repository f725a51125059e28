-- Bytes written into a slice one after the other, and a text between its quotes. Assumes nothing.
use Prim.Native.Nat.{ℕ, ◌+◌, ◌≤◌, ◌<◌}
use mathlib.Core.Path.{◌≡◌, refl, ap, ◌∙◌}
use mathlib.Core.List.{[], ◌∷◌}
use lib.ListN.{length, take, drop, set, length-set, length-append, take-append-drop}
use native.Mathlib.Omega.{arith}
use Rattle.definitions.specs.Bytes.{Bytes, bytes}
use Rattle.definitions.specs.Plain.{escaped_all, plain_text}
use Rattle.text.specs.Writes.{Writes}
pub use Rattle.text.specs.WritesLaws.{writes_none, writes_length, writes_then, writes_next, writes_same}
use Rattle.text.proofs.Escaped.{escaped_append, length_plain}

-- ---- the bytes of a text

pub escaped_part : (k : ℕ) (t : Bytes) → length (escaped_all (take k t)) ≤ length (escaped_all t)
escaped_part k t =
    omega (
      arith,
      ap (λ (x : Bytes). length (escaped_all x)) (take-append-drop k t),
      ap length (escaped_append (take k t) (drop k t)),
      length-append (escaped_all (take k t)) (escaped_all (drop k t)),
    )

-- a text between its quotes
module _ (t out : Bytes) (at : ℕ) {out' : Bytes} {j : ℕ} (room : at + length (plain_text t) ≤ length out)
    (h : Writes (set out at 0x22) out' (at + 1) (escaped_all t) j) where
  pub quoted_place : j < length out
  quoted_place = omega (arith, h.end, length_plain t)

  pub quoted_length : length out' ≡ length out
  quoted_length =
      let s = length-set out at 0x22 in
      writes_length (set out at 0x22) out' (at + 1) (escaped_all t) j (omega (arith, quoted_place)) h ∙ s

  pub quoted : Writes out (set out' j 0x22) at (plain_text t) (j + 1)
  unfolding plain_text bytes
  quoted =
      let s = length_plain t in
      let f = writes_next at 0x22 (writes_none out at) refl (omega arith) in
      writes_next j 0x22 (writes_then {s = 0x22 ∷ []} (omega arith) f h) refl quoted_place
