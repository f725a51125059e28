-- Answers for a token of one sort that must come, and for the limits. Assumes nothing.
use Prim.Native.Nat.{ℕ, ◌<◌}
use mathlib.Core.Path.{◌≡◌, refl, sym, ap, ◌∙◌, subst}
use native.Mathlib.Decide.{dec_lt}
use native.Mathlib.Omega.{arith}
use lib.ListN.{length, get_or}
use Rattle.std.specs.Prelude.{Result, Ok, Err}
use Rattle.definitions.specs.Bytes.{Bytes}
use mathlib.Core.List.{◌∷◌}
use Rattle.definitions.specs.Tokens.{at_place}
use Rattle.reading.specs.declared.Cause.TheVariants.{FormSyntax}
use Rattle.reading.specs.declared.Refusal.{Refusal}
use Rattle.tokens.specs.TokenRead.{Skips}
use Rattle.tokens.specs.Expecting.{Sort, an_opening, a_closing, a_text, Lacks, another, none_left, Misses, MoreAt, StandsNext, ExpectsOpening, ExpectsClosing}
use Rattle.tokens.proofs.Lexing.{ByteOf, standing, found_end, found_opening, found_closing}

-- ---- what stands there

-- no token of this sort, where no byte stands that one begins with
pub lacks
    : {text : Bytes} {at r : ℕ} (k : Sort) → Skips text at r → (r < length text → ByteOf k (get_or text r 0) → ⊥) → Lacks k text at r
lacks {text} {at} {r} k s h = pick (dec_lt r (length text))
  where
    pick : Dec (r < length text) → Lacks k text at r
    pick (yes l) =
        let x = standing s l in
        another x.token x.others x.run (λ e. h l (subst (λ (j : Sort). ByteOf j (get_or text r 0)) e x.byte))
    pick (no l) = none_left (found_end s (omega arith)) (omega (arith, s.within))

-- the refusal there
pub misses_at
    : {k : Sort} {text : Bytes} {at place : ℕ} {r : Refusal} → Lacks k text at place → r.place ≡ place → r.cause ≡ FormSyntax → Misses k text at r
misses_at {k} {text} {at} l e f = record { lacks = subst (Lacks k text at) (sym e) l; cause = f }

pub misses
    : {text : Bytes} {at place : ℕ} {r : Refusal} (k : Sort) → Skips text at place
    → (place < length text → ByteOf k (get_or text place 0) → ⊥) → r.place ≡ place → r.cause ≡ FormSyntax → Misses k text at r
misses k s h = misses_at (lacks k s h)

-- the one byte that a token of a sort begins with
module _ {text : Bytes} {at : ℕ} where
  pub next_opening : (r : Result ℕ Refusal) → StandsNext text at 0x28 r → ExpectsOpening text at r
  next_opening (Ok place) s = let (k, l, e) = s.answer in record { answer = found_opening k l e }
  next_opening (Err r) s = let (k, n, e) = s.answer in record { answer = misses an_opening k n refl e }

  pub next_closing : (r : Result ℕ Refusal) → StandsNext text at 0x29 r → ExpectsClosing text at r
  next_closing (Ok place) s = let (k, l, e) = s.answer in record { answer = found_closing k l e }
  next_closing (Err r) s = let (k, n, e) = s.answer in record { answer = misses a_closing k n refl e }

  pub no_text_next : {r : Refusal} → StandsNext text at 0x22 (Err r) → Misses a_text text at r
  no_text_next s = let (k, n, e) = s.answer in misses a_text k n refl e

-- any token
pub more_at
    : {text : Bytes} {at place : ℕ} {r : Refusal} → Skips text at place → place < length text → r.place ≡ place → r.cause ≡ FormSyntax
    → MoreAt text at r
more_at {text} {at} s l e f =
    let x = standing s l in
    record { token = x.token; others = x.others; run = x.run ∙ ap (λ (p : ℕ). at_place p x.token ∷ x.others) (sym e); cause = f }
