-- Laws of bytes written into a slice one behind the other. Assumes nothing.
use Rattle.std.specs.Prelude.{ℕ, ◌+◌, ◌≤◌, ◌<◌, ◌≡◌, refl, [], ◌∷◌, ◌++◌, length, take, drop, set}
use Rattle.std.proofs.Common.{add-zero, add-one, arith, sym, ap, ap₂, ◌∙◌, subst, subst₂, append_assoc, append-nil, length-append, length-drop}
use Rattle.std.proofs.Common.{take-append-drop, length-take-le, take_at, drop_at, take-take, drop-drop}
use Rattle.std.proofs.lemmas.List.{take-append-le, set_split}
use Rattle.std.proofs.Math.Seq.{append_snoc}
use Rattle.definitions.specs.Bytes.{Bytes}
use Rattle.text.specs.Writes.{Writes}

-- nothing
pub writes_none : (o : Bytes) (at : ℕ) → Writes o o at [] at
writes_none o at =
    record {
      bytes = sym (ap (λ (s : Bytes). s ++ drop at o) (append-nil (take at o)) ∙ take-append-drop at o);
      end = sym (add-zero at);
    }

-- one byte
pub writes_byte : (o : Bytes) (at b : ℕ) → at < length o → Writes o (set o at b) at (b ∷ []) (at + 1)
writes_byte o at b h =
    record {
      bytes = set_split o at b h
          ∙ ap (λ (n : ℕ). take at o ++ b ∷ drop n o) (sym (add-one at))
          ∙ sym (append_snoc (take at o) b (drop (at + 1) o));
      end = refl;
    }

-- and then more behind it
pub writes_then
    : {o o₁ o₂ : Bytes} {at j r : ℕ} {s t : Bytes} → at ≤ length o → Writes o o₁ at s j → Writes o₁ o₂ j t r
    → Writes o o₂ at (s ++ t) r
writes_then {o} {o₁} {o₂} {at} {j} {r} {s} {t} h w x =
    record {
      bytes = x.bytes
          ∙ ap₂ (λ (a b : Bytes). a ++ t ++ b) before behind
          ∙ ap (λ (a : Bytes). a ++ drop r o) (append_assoc (take at o) s t);
      end = x.end ∙ ap (λ (n : ℕ). n + length t) w.end ∙ omega (arith, length-append s t);
    }
  where
    size : length (take at o ++ s) ≡ j
    size = length-append (take at o) s ∙ ap (λ (n : ℕ). n + length s) (length-take-le at o h) ∙ sym w.end

    before : take j o₁ ≡ take at o ++ s
    before = ap (take j) w.bytes ∙ take_at (take at o ++ s) (drop j o) j size

    behind : drop r o₁ ≡ drop r o
    behind =
        ap (λ (n : ℕ). drop n o₁) x.end
        ∙ sym (drop-drop (length t) j o₁)
        ∙ ap (drop (length t)) (ap (drop j) w.bytes ∙ drop_at (take at o ++ s) (drop j o) j size)
        ∙ drop-drop (length t) j o
        ∙ ap (λ (n : ℕ). drop n o) (sym x.end)

-- and then more before it
pub writes_before
    : {o o₁ o₂ : Bytes} {at j r : ℕ} {s t : Bytes} → j ≤ length o → Writes o o₁ j t r → Writes o₁ o₂ at s j
    → Writes o o₂ at (s ++ t) r
writes_before {o} {o₁} {o₂} {at} {j} {r} {s} {t} h w x =
    record {
      bytes = x.bytes
          ∙ ap₂ (λ (a b : Bytes). a ++ s ++ b) before behind
          ∙ sym (append_assoc (take at o ++ s) t (drop r o))
          ∙ ap (λ (a : Bytes). a ++ drop r o) (append_assoc (take at o) s t);
      end = omega (arith, w.end, x.end, length-append s t);
    }
  where
    size : length (take j o) ≡ j
    size = length-take-le j o h

    parts : o₁ ≡ take j o ++ (t ++ drop r o)
    parts = w.bytes ∙ append_assoc (take j o) t (drop r o)

    before : take at o₁ ≡ take at o
    before =
        ap (take at) parts
        ∙ take-append-le at (take j o) (t ++ drop r o) (omega (arith, x.end, size))
        ∙ take-take at j o (omega (arith, x.end))

    behind : drop j o₁ ≡ t ++ drop r o
    behind = ap (drop j) parts ∙ drop_at (take j o) (t ++ drop r o) j size

-- the same bytes under another name
pub writes_as : {o o₁ : Bytes} {at r : ℕ} {s t : Bytes} → s ≡ t → Writes o o₁ at s r → Writes o o₁ at t r
writes_as {o} {o₁} {at} {r} e w =
    record {
      bytes = w.bytes ∙ ap (λ (s : Bytes). take at o ++ s ++ drop r o) e;
      end = w.end ∙ ap (λ (s : Bytes). at + length s) e;
    }

-- the same place under another name
pub writes_from : {o o₁ : Bytes} {at j r : ℕ} {s : Bytes} → at ≡ j → Writes o o₁ at s r → Writes o o₁ j s r
writes_from {o} {o₁} {r = r} {s} e w = subst (λ (k : ℕ). Writes o o₁ k s r) e w

-- the same bytes and the same end under other names
pub writes_same
    : {o o₁ : Bytes} {at r : ℕ} {s : Bytes} (t : Bytes) (q : ℕ) → Writes o o₁ at s r → s ≡ t → r ≡ q → Writes o o₁ at t q
writes_same {o} {o₁} {at} t q h e f = subst₂ (λ x y. Writes o o₁ at x y) e f h

-- the slice stays as long
pub writes_length : (out out' : Bytes) (at : ℕ) (s : Bytes) (r : ℕ) → r ≤ length out → Writes out out' at s r → length out' ≡ length out
writes_length out out' at s r l h =
    let e = h.end in
    ap length h.bytes
    ∙ length-append (take at out ++ s) (drop r out)
    ∙ omega (arith, length-append (take at out) s, length-drop r out, length-take-le at out (omega arith))

-- a byte behind what is written
pub writes_next
    : {out out' : Bytes} {at r : ℕ} {s : Bytes} (k b : ℕ) → Writes out out' at s r → k ≡ r → r < length out
    → Writes out (set out' k b) at (s ++ (b ∷ [])) (k + 1)
writes_next {out} {out'} {at} {r} {s} k b h e l =
    subst (λ (x : ℕ). Writes out (set out' x b) at (s ++ (b ∷ [])) (x + 1)) (sym e)
    (writes_then (omega (arith, h.end)) h
    (writes_byte out' r b (omega (arith, writes_length out out' at s r (omega arith) h))))

-- a byte before it
pub writes_first
    : {out out' : Bytes} {at r : ℕ} {s : Bytes} (k b : ℕ) → Writes out out' at s r → k + 1 ≡ at → r ≤ length out
    → Writes out (set out' k b) k (b ∷ s) r
writes_first {out} {out'} {at} {r} {s} k b h e l =
    writes_before (omega (arith, h.end)) h
    (writes_same (b ∷ []) at (writes_byte out' k b (omega (arith, h.end, writes_length out out' at s r l h))) refl e)
