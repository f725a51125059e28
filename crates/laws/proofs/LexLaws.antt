-- Lexing piece by piece: JSON texts, words, white space and brackets. Assumes nothing.
use Rattle.std.specs.Prelude.{ℕ, suc, ◌≡◌, refl, Bool, true, false}
use Rattle.std.proofs.Common.{◌∙◌, ap}
use Rattle.std.proofs.lemmas.Bool.{false≢true}
use mathlib.Core.List.{[], ◌∷◌, ◌++◌, reverse, reverse_aux, append_assoc, reverse-reverse}
use Rattle.std.proofs.Math.Option.{Option, none, some}
use Rattle.definitions.specs.Bytes.{Bytes, bytes, look, between, is}
use Rattle.definitions.specs.Text.{Inside, text_step, char_step}
use Rattle.definitions.specs.Plain.{escaped_all, plain_text}
use Rattle.definitions.specs.Tokens.{opening, closing, quoted, word, at_place, border_table, Border}
use Rattle.definitions.specs.Tokens.{Partial, no_word, word_from, outside, inside, ended, longer, lex}
use Rattle.laws.specs.Bools.{clash}
use Rattle.laws.specs.Rfc3629.{UTF8Octets}
use Rattle.laws.specs.Steps.{TextSteps, text_stay, text_then}
use Rattle.laws.proofs.StringTokens.{chars_steps}
use Rattle.laws.proofs.StringRound.{escaped_chars}

-- ---- texts

-- inside a JSON text the bytes of steps lead on, each to the next place
pub lex_steps
    : {i j : Inside} {a c xs : Bytes} → TextSteps i a xs j c → (p at : ℕ) (r : Bytes)
    → (p' : ℕ) × (lex p (inside at i a) (xs ++ r) ≡ lex p' (inside at j c) r)
unfolding lex
lex_steps text_stay p at r = (p, refl)
lex_steps (text_then e g) p at r =
    let (p', h) = lex_steps g (suc p) at r in
    (p', rw (e, lex) h)

-- a quote closes a JSON text
pub lex_closed
    : (p at : ℕ) (acc r : Bytes)
    → lex p (inside at Inside.chars acc) (0x22 ∷ r) ≡ at_place at (quoted (reverse acc)) ∷ lex (suc p) (outside no_word) r
unfolding lex text_step char_step is
lex_closed p at acc r = refl

-- a text between quotes is one token
pub lex_text
    : (t : Bytes) → UTF8Octets t → (p : ℕ) (r : Bytes)
    → (p' : ℕ) × (lex p (outside no_word) (plain_text t ++ r) ≡ at_place p (quoted t) ∷ lex p' (outside no_word) r)
unfolding lex look between border_table ended plain_text bytes
lex_text t g p r =
    let (xs, e, h) = chars_steps (escaped_chars t g r) in
    let (p', k) = lex_steps h (suc p) p (0x22 ∷ r) in (
      suc p',
      ap (λ s. lex (suc p) (inside p Inside.chars []) s) (append_assoc (escaped_all t) (0x22 ∷ []) r ∙ e)
          ∙ k
          ∙ lex_closed p' p (reverse t) r
          ∙ ap (λ u. at_place p (quoted u) ∷ lex (suc p') (outside no_word) r) (reverse-reverse t),
    )

-- ---- words

-- no byte of the word ends it
unfoldable pub inner : Bytes → Bool
inner [] = true
inner (b ∷ w) = elim (look border_table b) [ none ↦ inner w | some c ↦ false ]

-- a word ends where this text begins
abbrev pub Bordered : Bytes → Type 0
Bordered r =
    (p at : ℕ) (acc : Bytes)
    → lex p (outside (word_from at acc)) r ≡ at_place at (word (reverse acc)) ∷ lex p (outside no_word) r

pub bordered_space : (r : Bytes) → Bordered (0x20 ∷ r)
unfolding lex look between border_table ended
bordered_space r p at acc = refl

pub bordered_line : (r : Bytes) → Bordered (0x0A ∷ r)
unfolding lex look between border_table ended
bordered_line r p at acc = refl

pub bordered_close : (r : Bytes) → Bordered (0x29 ∷ r)
unfolding lex look between border_table ended
bordered_close r p at acc = refl

-- a byte that ends no word goes onto the word before it
pub lex_longer
    : (p : ℕ) (w : Partial) (b : ℕ) (r : Bytes) → look border_table b ≡ none
    → lex p (outside w) (b ∷ r) ≡ lex (suc p) (outside (longer w p b)) r
unfolding lex
lex_longer p w b r e = rw (e, lex) refl

inner_head : (b : ℕ) (w : Bytes) → inner (b ∷ w) ≡ true → look border_table b ≡ none
unfolding inner
inner_head b w h = told (look border_table b) refl
  where
    told : (c : Option Border) → look border_table b ≡ c → look border_table b ≡ none
    told none e = e
    told (some c) e = clash h (rw (e, inner) refl)

inner_tail : (b : ℕ) (w : Bytes) → inner (b ∷ w) ≡ true → inner w ≡ true
unfolding inner
inner_tail b w h = rw (inner_head b w h, inner) at h

-- the bytes of a word go onto the word before them
lex_inner
    : (w : Bytes) → inner w ≡ true → (p at : ℕ) (acc r : Bytes)
    → (p' : ℕ) × (lex p (outside (word_from at acc)) (w ++ r) ≡ lex p' (outside (word_from at (reverse_aux w acc))) r)
unfolding longer
lex_inner [] h p at acc r = (p, refl)
lex_inner (b ∷ w) h p at acc r =
    let (p', e) = lex_inner w (inner_tail b w h) (suc p) at (b ∷ acc) r in
    (p', lex_longer p (word_from at acc) b (w ++ r) (inner_head b w h) ∙ e)

-- a word has a byte
unfoldable pub is_word : Bytes → Bool
is_word [] = false
is_word (b ∷ w) = inner (b ∷ w)

-- a word that ends behind it is one token
pub lex_word
    : (w : Bytes) → is_word w ≡ true → (p : ℕ) (r : Bytes) → Bordered r
    → (p' : ℕ) × (lex p (outside no_word) (w ++ r) ≡ at_place p (word w) ∷ lex p' (outside no_word) r)
unfolding longer is_word
lex_word [] h p r k = absurd (false≢true h)
lex_word (b ∷ w) h p r k =
    let (p', e) = lex_inner w (inner_tail b w h) (suc p) p (b ∷ []) r in (
      p',
      lex_longer p no_word b (w ++ r) (inner_head b w h)
          ∙ e
          ∙ k p' p (reverse (b ∷ w))
          ∙ ap (λ u. at_place p (word u) ∷ lex p' (outside no_word) r) (reverse-reverse (b ∷ w)),
    )

-- ---- white space and brackets

pub lex_space : (p : ℕ) (r : Bytes) → lex p (outside no_word) (0x20 ∷ r) ≡ lex (suc p) (outside no_word) r
unfolding lex look between border_table ended
lex_space p r = refl

pub lex_line : (p : ℕ) (r : Bytes) → lex p (outside no_word) (0x0A ∷ r) ≡ lex (suc p) (outside no_word) r
unfolding lex look between border_table ended
lex_line p r = refl

pub lex_open
    : (p : ℕ) (r : Bytes) → lex p (outside no_word) (0x28 ∷ r) ≡ at_place p opening ∷ lex (suc p) (outside no_word) r
unfolding lex look between border_table ended
lex_open p r = refl

pub lex_close
    : (p : ℕ) (r : Bytes) → lex p (outside no_word) (0x29 ∷ r) ≡ at_place p closing ∷ lex (suc p) (outside no_word) r
unfolding lex look between border_table ended
lex_close p r = refl
