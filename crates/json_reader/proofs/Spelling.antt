-- Literal names, a byte at a time. Assumes nothing.
use Prim.Native.Nat.{ℕ, suc, ◌+◌, ◌≤◌, ◌<◌}
use mathlib.Core.Path.{◌≡◌, sym, ap, ap₂, ◌∙◌}
use native.Mathlib.Numerals.{add-one}
use native.Mathlib.Nat.{add-zero}
use native.Mathlib.Omega.{arith}
use lib.ListN.{length, drop, get_or}
use lib.Seq.{drop-cons}
use Rattle.definitions.specs.declared.Limits.{Limits}
use Rattle.definitions.specs.Bytes.{Bytes}
use Rattle.definitions.specs.Value.{Value}
use Rattle.definitions.specs.Json.{Open, spell, scan}
use Rattle.json_reader.specs.JsonParts.{Matches}
use Rattle.json_reader.proofs.Scan.{byte_inside, byte_here, spell_on}

pub record Matching (doc : Bytes) (at : ℕ) (name : Bytes) (i : ℕ) : Type 0 where
  pub most : i ≤ length name
  pub within : at + i ≤ length doc
  pub run
      : (l : Limits) (n : ℕ) (kept : Bytes) (v : Value) (o : Open)
      → scan l n kept (spell name v o) (drop at doc) ≡ scan l n kept (spell (drop i name) v o) (drop (at + i) doc)

pub matching : {doc name : Bytes} {at : ℕ} → at ≤ length doc → Matching doc at name 0
matching {doc} {name} {at} h =
    record {
      most = omega arith;
      within = omega arith;
      run = λ l n kept v o. ap (λ (k : ℕ). scan l n kept (spell name v o) (drop k doc)) (sym (add-zero at));
    }

pub matching_on
    : {doc name : Bytes} {at i : ℕ} → Matching doc at name i → i < length name → get_or doc (at + i) 256 ≡ get_or name i 256
    → get_or name i 256 < 256
    → Matching doc at name (i + 1)
matching_on {doc} {name} {at} {i} m h e b =
    let inside : at + i < length doc = byte_inside doc (at + i) e b in
    record {
      most = omega arith;
      within = omega arith;
      run = λ l n kept v o.
          m.run l n kept v o
          ∙ ap₂ (λ (cs s : Bytes). scan l n kept (spell cs v o) s) (drop-cons name i 256 h) (byte_here doc (at + i) e b)
          ∙ spell_on l n kept v o (get_or name i 256) (drop (suc i) name) (drop (at + i + 1) doc)
          ∙ ap₂ (λ (j k : ℕ). scan l n kept (spell (drop j name) v o) (drop k doc)) (sym (add-one i))
          (let f : at + i + 1 ≡ at + (i + 1) = omega arith in f);
    }

pub matched
    : {doc name : Bytes} {at i : ℕ} → Matching doc at name i → (i < length name → get_or doc (at + i) 256 ≡ get_or name i 256 → ⊥)
    → Matches doc at name i
matched m h = record { most = m.most; within = m.within; run = m.run; stops = h }
