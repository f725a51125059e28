-- The bytes of a text one after the other, as plain JSON has them: counted and written so far. Assumes nothing.
use Prim.Native.Nat.{ℕ, ◌+◌, ◌≤◌, ◌<◌}
use mathlib.Core.Path.{◌≡◌, refl, sym, ap, ◌∙◌}
use mathlib.Core.List.{◌++◌}
use native.Mathlib.Numerals.{add-one}
use native.Mathlib.Omega.{arith}
use lib.ListN.{length, get_or, take, length-append}
use lib.Seq.{take-suc, take_all}
use Rattle.definitions.specs.Bytes.{Bytes}
use Rattle.definitions.specs.Plain.{escaped, escaped_all}
use Rattle.text.proofs.Escaped.{escaped_snoc}
use Rattle.text.specs.Writes.{Writes}
use Rattle.text.proofs.Writing.{escaped_part, writes_length, writes_then, writes_same}

-- one byte more
escaped_next
    : (s : Bytes) (i : ℕ) → i < length s → escaped_all (take (i + 1) s) ≡ escaped_all (take i s) ++ escaped (get_or s i 0)
escaped_next s i l =
    ap escaped_all (ap (λ (k : ℕ). take k s) (add-one i) ∙ take-suc s i 0 l) ∙ escaped_snoc (take i s) (get_or s i 0)

pub escaped_count
    : (s : Bytes) (i : ℕ) → i < length s
    → length (escaped_all (take (i + 1) s)) ≡ length (escaped_all (take i s)) + length (escaped (get_or s i 0))
escaped_count s i l = ap length (escaped_next s i l) ∙ length-append (escaped_all (take i s)) (escaped (get_or s i 0))

pub escaped_whole : (s : Bytes) (i : ℕ) → length s ≤ i → escaped_all (take i s) ≡ escaped_all s
escaped_whole s i l = ap escaped_all (take_all i s l)

-- the first i bytes stand from place at up to place j
module _ {out out' : Bytes} {at j : ℕ} (s : Bytes) (i : ℕ) (h : Writes out out' at (escaped_all (take i s)) j)
    (room : at + length (escaped_all s) ≤ length out) (l : i < length s) where
  same_length : length out' ≡ length out
  same_length = writes_length out out' at (escaped_all (take i s)) j (omega (arith, h.end, escaped_part i s)) h

  pub byte_room : j + length (escaped (get_or s i 0)) ≤ length out'
  byte_room = omega (arith, h.end, same_length, escaped_count s i l, escaped_part (i + 1) s)

  pub byte_written
      : {out'' : Bytes} {q : ℕ} → Writes out' out'' j (escaped (get_or s i 0)) q → Writes out out'' at (escaped_all (take (i + 1) s)) q
  byte_written {q = q} k =
      writes_same (escaped_all (take (i + 1) s)) q (writes_then (omega (arith, h.end, escaped_part i s)) h k) (sym (escaped_next s i l)) refl
