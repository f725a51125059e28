-- Reading a shape text over the beginning of what is left of it, to another state and another rest: token by token, places
-- left open. Assumes nothing.
use Rattle.std.specs.Prelude.{ℕ, zero, suc, ◌≡◌, refl, true, false, List, ◌∷◌, ◌++◌, replicate}
use Rattle.std.proofs.Common.{sym, ◌∙◌, ap, subst}
use Rattle.definitions.specs.declared.Limits.{Limits}
use Rattle.definitions.specs.Bytes.{Bytes, bytes}
use Rattle.definitions.specs.Plain.{plain_text}
use Rattle.definitions.specs.Limits.{over}
use Rattle.definitions.specs.Tokens.{Token, opening, closing, quoted, word, Placed, at_place, no_word, outside, lex, Step, go, opens, judge_step, read_tokens}
use Rattle.definitions.specs.ShapeText.{State, step, finished, new_line}
use Rattle.laws.specs.Rfc3629.{UTF8Octets}
use Rattle.laws.proofs.LexLaws.{lex_text, is_word, Bordered, lex_word, lex_space, lex_line, lex_open, lex_close}

-- reading s in state q with n forms open or read comes to reading r in state q' with m of them
pub record Reads (l : Limits) (n : ℕ) (q : State) (s : Bytes) (m : ℕ) (q' : State) (r : Bytes) : Type 0 where
  pub reads
      : (p end : ℕ)
      → (p' : ℕ)
      × (read_tokens step finished l n end q (lex p (outside no_word) s)
      ≡ read_tokens step finished l m end q' (lex p' (outside no_word) r))

-- what the token does, wherever it stands
abbrev pub Steps : State → Token → Step State → Type 0
Steps q t s = (p : ℕ) → step q (at_place p t) ≡ s

pub reads_nothing : (l : Limits) (n : ℕ) (q : State) (s : Bytes) → Reads l n q s n q s
reads_nothing l n q s = record { reads = λ p end. (p, refl) }

pub reads_then
    : {l : Limits} {n m k : ℕ} {q q₁ q₂ : State} {s t r : Bytes} → Reads l n q s m q₁ t → Reads l m q₁ t k q₂ r
    → Reads l n q s k q₂ r
reads_then a b =
    record {
      reads = λ p end.
          let (p₁, e) = a.reads p end in
          let (p₂, f) = b.reads p₁ end in
          (p₂, e ∙ f);
    }

-- along an equation of what is left
pub reads_from
    : {l : Limits} {n m : ℕ} {q q₁ : State} {s t r : Bytes} → s ≡ t → Reads l n q t m q₁ r → Reads l n q s m q₁ r
reads_from {l} {n} {m} {q} {q₁} {s} {t} {r} e a = subst (λ u. Reads l n q u m q₁ r) (sym e) a

-- ---- white space

pub reads_space : (l : Limits) (n : ℕ) (q : State) (r : Bytes) → Reads l n q (0x20 ∷ r) n q r
reads_space l n q r = record { reads = λ p end. (suc p, ap (read_tokens step finished l n end q) (lex_space p r)) }

reads_spaces : (k : ℕ) (l : Limits) (n : ℕ) (q : State) (r : Bytes) → Reads l n q (replicate k 0x20 ++ r) n q r
reads_spaces zero l n q r = reads_nothing l n q r
reads_spaces (suc k) l n q r = reads_then (reads_space l n q (replicate k 0x20 ++ r)) (reads_spaces k l n q r)

pub reads_line : (l : Limits) (n : ℕ) (q : State) (r : Bytes) → Reads l n q (0x0A ∷ r) n q r
reads_line l n q r = record { reads = λ p end. (suc p, ap (read_tokens step finished l n end q) (lex_line p r)) }

pub reads_new_line : (k : ℕ) (l : Limits) (n : ℕ) (q : State) (r : Bytes) → Reads l n q (new_line k ++ r) n q r
unfolding new_line bytes
reads_new_line k l n q r = reads_then (reads_line l n q (replicate k 0x20 ++ r)) (reads_spaces k l n q r)

-- ---- tokens

-- a token that may stand here
reads_token
    : (l : Limits) (n end : ℕ) (q q' : State) (t : Placed) (ts : List Placed) → step q t ≡ go q'
    → read_tokens step finished l n end q (t ∷ ts) ≡ read_tokens step finished l n end q' ts
unfolding read_tokens judge_step
reads_token l n end q q' t ts h = ap (λ s. judge_step l n t.at s (λ n' q''. read_tokens step finished l n' end q'' ts)) h

-- the bracket of a form that counts
reads_form
    : (l : Limits) (n end depth : ℕ) (q q' : State) (t : Placed) (ts : List Placed) → step q t ≡ opens depth q'
    → over l (suc n) depth ≡ false
    → read_tokens step finished l n end q (t ∷ ts) ≡ read_tokens step finished l (suc n) end q' ts
unfolding read_tokens judge_step
reads_form l n end depth q q' t ts h k =
    ap (λ s. judge_step l n t.at s (λ n' q''. read_tokens step finished l n' end q'' ts)) h ∙ rw (k, judge_step) refl

pub reads_open
    : {q q' : State} (l : Limits) (n : ℕ) (r : Bytes) → Steps q opening (go q') → Reads l n q (0x28 ∷ r) n q' r
reads_open {q} {q'} l n r h =
    record {
      reads = λ p end. (
        suc p,
        ap (read_tokens step finished l n end q) (lex_open p r)
            ∙ reads_token l n end q q' (at_place p opening) (lex (suc p) (outside no_word) r) (h p),
      );
    }

pub reads_open_form
    : {q q' : State} {depth : ℕ} (l : Limits) (n : ℕ) (r : Bytes) → Steps q opening (opens depth q')
    → over l (suc n) depth ≡ false → Reads l n q (0x28 ∷ r) (suc n) q' r
reads_open_form {q} {q'} {depth} l n r h k =
    record {
      reads = λ p end. (
        suc p,
        ap (read_tokens step finished l n end q) (lex_open p r)
            ∙ reads_form l n end depth q q' (at_place p opening) (lex (suc p) (outside no_word) r) (h p) k,
      );
    }

pub reads_close
    : {q q' : State} (l : Limits) (n : ℕ) (r : Bytes) → Steps q closing (go q') → Reads l n q (0x29 ∷ r) n q' r
reads_close {q} {q'} l n r h =
    record {
      reads = λ p end. (
        suc p,
        ap (read_tokens step finished l n end q) (lex_close p r)
            ∙ reads_token l n end q q' (at_place p closing) (lex (suc p) (outside no_word) r) (h p),
      );
    }

pub reads_word
    : {q q' : State} (l : Limits) (n : ℕ) (w r : Bytes) → is_word w ≡ true → Bordered r → Steps q (word w) (go q')
    → Reads l n q (w ++ r) n q' r
reads_word {q} {q'} l n w r i k h =
    record {
      reads = λ p end.
          let (p', e) = lex_word w i p r k in (
            p',
            ap (read_tokens step finished l n end q) e
                ∙ reads_token l n end q q' (at_place p (word w)) (lex p' (outside no_word) r) (h p),
          );
    }

pub reads_text
    : {q q' : State} (l : Limits) (n : ℕ) (t r : Bytes) → UTF8Octets t → Steps q (quoted t) (go q')
    → Reads l n q (plain_text t ++ r) n q' r
reads_text {q} {q'} l n t r g h =
    record {
      reads = λ p end.
          let (p', e) = lex_text t g p r in (
            p',
            ap (read_tokens step finished l n end q) e
                ∙ reads_token l n end q q' (at_place p (quoted t)) (lex p' (outside no_word) r) (h p),
          );
    }
