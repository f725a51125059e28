-- How `text_run` goes at a place of a document, where 256 stands for its end. Assumes nothing.
use Prim.Native.Nat.{ℕ, zero, suc, ◌+◌, ◌-◌, ◌≤◌, ◌<◌}
use mathlib.Core.Path.{◌≡◌, refl, sym, ap, ◌∙◌}
use mathlib.Core.Logic.{◌⊎◌, inl, inr}
use mathlib.Core.List.{[], ◌∷◌, ◌++◌, reverse}
use lib.ListN.{length, take, drop, get_or, length-drop, drop_of_length-le, get_or-eq_default}
use lib.Seq.{take-suc, drop-cons, get_or-drop}
use native.Mathlib.Numerals.{add-one}
use native.Mathlib.Omega.{arith}
use Rattle.definitions.specs.Bytes.{Bytes}
use Rattle.definitions.specs.Text.{Inside, wrong, more, closed, text_step}
use Rattle.laws.specs.Ranges.{lt_or_le}
use Rattle.text.specs.TextRun.{ended, broke, text_run}
use Rattle.text.specs.TextLaws.{run_more, run_wrong, run_closed, run_end}

-- within a list the default doesn't matter
pub get_or_within : (s : Bytes) (k d e : ℕ) → k < length s → get_or s k d ≡ get_or s k e
get_or_within [] k d e h = absurd (let z : ⊥ = omega arith in z)
get_or_within (x ∷ s) zero d e h = refl
get_or_within (x ∷ s) (suc k) d e h = get_or_within s k d e (omega arith)

-- a byte stands within the document
pub byte_within : (s : Bytes) (k : ℕ) → get_or s k 256 < 256 → k < length s
byte_within s k h = go (lt_or_le k (length s))
  where
    go : (k < length s) ⊎ (length s ≤ k) → k < length s
    go (inl l) = l
    go (inr l) = absurd (let e : get_or s k 256 ≡ 256 = get_or-eq_default s 256 l in let z : ⊥ = omega arith in z)

at_place : (s : Bytes) (k : ℕ) → k < length s → drop k s ≡ get_or s k 256 ∷ drop (k + 1) s
at_place s k h = drop-cons s k 256 h ∙ ap (λ (n : ℕ). get_or s k 256 ∷ drop n s) (sym (add-one k))

-- the byte at place k goes on
pub more_at
    : (i : Inside) (acc s : Bytes) (k : ℕ) {j : Inside} {a : Bytes} → k < length s → text_step i acc (get_or s k 256) ≡ more j a
    → text_run i acc (drop k s) ≡ text_run j a (drop (k + 1) s)
more_at i acc s k h e =
    ap (text_run i acc) (at_place s k h) ∙ run_more i acc (get_or s k 256) (drop (k + 1) s) e

-- no text goes on so at place k, or the document ends there
pub wrong_at
    : (i : Inside) (acc s : Bytes) (k : ℕ) → text_step i acc (get_or s k 256) ≡ wrong
    → text_run i acc (drop k s) ≡ broke (drop k s)
wrong_at i acc s k e = go (lt_or_le k (length s))
  where
    go : (k < length s) ⊎ (length s ≤ k) → text_run i acc (drop k s) ≡ broke (drop k s)
    go (inl h) =
        ap (text_run i acc) (at_place s k h)
        ∙ run_wrong i acc (get_or s k 256) (drop (k + 1) s) e
        ∙ ap broke (sym (at_place s k h))
    go (inr h) = ap (text_run i acc) n ∙ run_end i acc ∙ ap broke (sym n)
      where
        n : drop k s ≡ []
        n = drop_of_length-le s h

pub end_at : (i : Inside) (acc s : Bytes) (k : ℕ) → length s ≤ k → text_run i acc (drop k s) ≡ broke (drop k s)
end_at i acc s k h = ap (text_run i acc) n ∙ run_end i acc ∙ ap broke (sym n)
  where
    n : drop k s ≡ []
    n = drop_of_length-le s h

-- the closing quote stands at place k
pub closed_at
    : (i : Inside) (acc s : Bytes) (k : ℕ) → k < length s → text_step i acc (get_or s k 256) ≡ closed
    → text_run i acc (drop k s) ≡ ended (reverse acc) (drop (k + 1) s)
closed_at i acc s k h e =
    ap (text_run i acc) (at_place s k h) ∙ run_closed i acc (get_or s k 256) (drop (k + 1) s) e

-- ---- a part of a document, a byte longer

pub part_snoc
    : (doc : Bytes) (at i : ℕ) → at ≤ i → i < length doc
    → take (i + 1 - at) (drop at doc) ≡ take (i - at) (drop at doc) ++ (get_or doc i 256 ∷ [])
part_snoc doc at i h l =
    ap (λ (k : ℕ). take k (drop at doc)) (let e : i + 1 - at ≡ suc (i - at) = omega arith in e)
    ∙ take-suc (drop at doc) (i - at) 256 (omega (arith, length-drop at doc))
    ∙ ap (λ (b : ℕ). take (i - at) (drop at doc) ++ (b ∷ []))
    (get_or-drop at doc (i - at) 256 ∙ ap (λ (k : ℕ). get_or doc k 256) (let e : at + (i - at) ≡ i = omega arith in e))

pub part_cons
    : (doc : Bytes) (at next : ℕ) → at < next → at < length doc
    → take (next - at) (drop at doc) ≡ get_or doc at 256 ∷ take (next - (at + 1)) (drop (at + 1) doc)
part_cons doc at next h l =
    ap (λ (k : ℕ). take k (drop at doc)) (let e : next - at ≡ suc (next - (at + 1)) = omega arith in e)
    ∙ ap (λ (s : Bytes). take (suc (next - (at + 1))) s)
    (drop-cons doc at 256 l ∙ ap (λ (k : ℕ). get_or doc at 256 ∷ drop k doc) (sym (add-one at)))

pub part_none : (doc : Bytes) (at : ℕ) → [] ≡ take (at - at) (drop at doc)
part_none doc at = ap (λ (k : ℕ). take k (drop at doc)) (let e : 0 ≡ at - at = omega arith in e)
