-- Lexing (definitions' Tokens) at places: the bytes that end a word, and words and JSON texts of the grammar (TokenGrammar)
-- as one token each. Assumes nothing.
use Rattle.std.specs.Prelude.{ℕ, suc, ◌+◌, ◌≡◌, refl, length}
use Rattle.std.proofs.Common.{sym, ap, ◌∙◌, subst, arith, length-append}
use mathlib.Core.List.{[], ◌∷◌, ◌++◌, reverse, reverse_aux, reverse-reverse, append_assoc}
use Rattle.std.proofs.Math.Option.{Option, none, some, none-ne-some}
use Rattle.definitions.specs.Bytes.{Bytes, look, between}
use Rattle.definitions.specs.Text.{Inside, TextMove, wrong, more, closed, text_step}
use Rattle.definitions.specs.Tokens.{quoted, word, broken, at_place, Border, space, bracket_open, bracket_close}
use Rattle.definitions.specs.Tokens.{quote, border_table, no_word, word_from, outside, inside, ended, longer, lex}
use Rattle.laws.specs.Ranges.{Hit, here, there, look_hit, in_one}
use Rattle.laws.specs.Rfc3629.{In}
use Rattle.laws.specs.Rfc8259 as Rfc
use Rattle.laws.specs.Steps.{TextSteps, text_stay, text_then, text_steps_append}
use Rattle.laws.proofs.StringTokens.{chars_sound, chars_steps}
use Rattle.laws.proofs.LexLaws.{lex_closed, lex_longer}
use Rattle.laws.specs.FormGrammar.{at}
use Rattle.laws.specs.TokenGrammar.{WordByte, WordBytes, no_bytes, next_byte, Word, a_word, WordEnd, at_the_end, at_a_border}

-- ---- the bytes that end a word

-- what each border is
pub data Bounds : ℕ → Border → Type 0 where
  bounds_space : {b : ℕ} → Rfc.ws_char b → Bounds b space
  bounds_open : Bounds 0x28 bracket_open
  bounds_close : Bounds 0x29 bracket_close
  bounds_quote : Bounds 0x22 quote

pub border_bounds : (b : ℕ) (c : Border) → look border_table b ≡ some c → Bounds b c
unfolding border_table
border_bounds b c e = of_hit (look_hit border_table b c e)
  where
    at_byte : {a : ℕ} {c : Border} → In a a b → Bounds a c → Bounds b c
    at_byte {c = d} i x = subst (λ y. Bounds y d) (sym (in_one i)) x

    of_hit : {c : Border} → Hit border_table b c → Bounds b c
    of_hit (here i) = at_byte i (bounds_space Rfc.ws_char.space)
    of_hit (there n (here i)) = at_byte i (bounds_space Rfc.ws_char.tab)
    of_hit (there n (there m (here i))) = at_byte i (bounds_space Rfc.ws_char.line_feed)
    of_hit (there n (there m (there k (here i)))) = at_byte i (bounds_space Rfc.ws_char.carriage_return)
    of_hit (there n (there m (there k (there l (here i))))) = at_byte i bounds_open
    of_hit (there n (there m (there k (there l (there o (here i)))))) = at_byte i bounds_close
    of_hit (there n (there m (there k (there l (there o (there q (here i))))))) = at_byte i bounds_quote
    of_hit (there n (there m (there k (there l (there o (there q (there _ x))))))) = elim x [ ]

bounds_border : {b : ℕ} {c : Border} → Bounds b c → look border_table b ≡ some c
unfolding look between border_table
bounds_border (bounds_space Rfc.ws_char.space) = refl
bounds_border (bounds_space Rfc.ws_char.tab) = refl
bounds_border (bounds_space Rfc.ws_char.line_feed) = refl
bounds_border (bounds_space Rfc.ws_char.carriage_return) = refl
bounds_border bounds_open = refl
bounds_border bounds_close = refl
bounds_border bounds_quote = refl

none_bounds : {b : ℕ} {c : Border} → look border_table b ≡ none → Bounds b c → ⊥
none_bounds {c} e x = none-ne-some c (sym e ∙ bounds_border x)

-- a byte that is in no row is a word's
pub none_word_byte : (b : ℕ) → look border_table b ≡ none → WordByte b
none_word_byte b e =
    record {
      no_white_space = λ w. none_bounds e (bounds_space w);
      no_opening = λ q. none_bounds e (subst (λ y. Bounds y bracket_open) (sym q) bounds_open);
      no_closing = λ q. none_bounds e (subst (λ y. Bounds y bracket_close) (sym q) bounds_close);
      no_quote = λ q. none_bounds e (subst (λ y. Bounds y quote) (sym q) bounds_quote);
    }

pub bounds_no_word : {b : ℕ} {c : Border} → Bounds b c → WordByte b → ⊥
bounds_no_word (bounds_space x) w = w.no_white_space x
bounds_no_word bounds_open w = w.no_opening refl
bounds_no_word bounds_close w = w.no_closing refl
bounds_no_word bounds_quote w = w.no_quote refl

word_byte_none : (b : ℕ) → WordByte b → look border_table b ≡ none
word_byte_none b w = told (look border_table b) refl
  where
    told : (o : Option Border) → look border_table b ≡ o → look border_table b ≡ none
    told none e = e
    told (some c) e = absurd (bounds_no_word (border_bounds b c e) w)

-- white space is skipped
pub lex_white : {b : ℕ} → Rfc.ws_char b → (p : ℕ) (r : Bytes) → lex p (outside no_word) (b ∷ r) ≡ lex (suc p) (outside no_word) r
unfolding lex ended
lex_white x p r = rw (bounds_border (bounds_space x), lex) refl

-- ---- words

-- a word ends at a border
pub lex_ended
    : (p a : ℕ) (acc : Bytes) (b : ℕ) (r : Bytes) (c : Border) → look border_table b ≡ some c
    → lex p (outside (word_from a acc)) (b ∷ r) ≡ at a (word (reverse acc)) ∷ lex p (outside no_word) (b ∷ r)
unfolding lex ended at_place
lex_ended p a acc b r c e = rw (e, lex) refl

-- and so at what ends it in the grammar
lex_end
    : {r : Bytes} → WordEnd r → (p a : ℕ) (acc : Bytes)
    → lex p (outside (word_from a acc)) r ≡ at a (word (reverse acc)) ∷ lex p (outside no_word) r
unfolding lex ended at_place
lex_end at_the_end p a acc = refl
lex_end (at_a_border {b} {r} n) p a acc = told (look border_table b) refl
  where
    told
        : (o : Option Border) → look border_table b ≡ o
        → lex p (outside (word_from a acc)) (b ∷ r) ≡ at a (word (reverse acc)) ∷ lex p (outside no_word) (b ∷ r)
    told none e = absurd (n (none_word_byte b e))
    told (some c) e = lex_ended p a acc b r c e

-- the bytes of a word go onto the word before them
lex_bytes
    : {w : Bytes} → WordBytes w → (p a : ℕ) (acc r : Bytes)
    → lex p (outside (word_from a acc)) (w ++ r) ≡ lex (p + length w) (outside (word_from a (reverse_aux w acc))) r
unfolding longer
lex_bytes no_bytes p a acc r = ap (λ y. lex y (outside (word_from a acc)) r) (omega arith)
lex_bytes (next_byte {b} {w} x g) p a acc r =
    lex_longer p (word_from a acc) b (w ++ r) (word_byte_none b x)
    ∙ lex_bytes g (suc p) a (b ∷ acc) r
    ∙ ap (λ y. lex y (outside (word_from a (reverse_aux w (b ∷ acc)))) r) (omega arith)

-- a word is one token
pub lex_word_at
    : {w r : Bytes} → Word w → WordEnd r → (p : ℕ)
    → lex p (outside no_word) (w ++ r) ≡ at p (word w) ∷ lex (p + length w) (outside no_word) r
unfolding longer
lex_word_at {r} (a_word {b} {w} (next_byte x g)) n p =
    lex_longer p no_word b (w ++ r) (word_byte_none b x)
    ∙ lex_bytes g (suc p) p (b ∷ []) r
    ∙ lex_end n (suc p + length w) p (reverse_aux w (b ∷ []))
    ∙ ap (λ y. at p (word y) ∷ lex (suc p + length w) (outside no_word) r) (reverse-reverse (b ∷ w))
    ∙ ap (λ y. at p (word (b ∷ w)) ∷ lex y (outside no_word) r) (omega arith)

-- ---- JSON texts

pub lex_quote : (p : ℕ) (r : Bytes) → lex p (outside no_word) (0x22 ∷ r) ≡ lex (suc p) (inside p Inside.chars []) r
unfolding lex look between border_table ended
lex_quote p r = refl

lex_through
    : {i j : Inside} {a c xs : Bytes} → TextSteps i a xs j c → (p b : ℕ) (r : Bytes)
    → lex p (inside b i a) (xs ++ r) ≡ lex (p + length xs) (inside b j c) r
unfolding lex
lex_through {i} {a} text_stay p b r = ap (λ y. lex y (inside b i a) r) (omega arith)
lex_through {j} {c} (text_then {xs} e g) p b r =
    rw (e, lex) (lex_through g (suc p) b r ∙ ap (λ y. lex y (inside b j c) r) (omega arith))

-- a JSON text is one token, and lexing goes on behind its bytes
pub lex_string
    : {s t r : Bytes} → Rfc.string s t r → (pre : Bytes) → s ≡ pre ++ r → (p : ℕ)
    → lex p (outside no_word) s ≡ at p (quoted t) ∷ lex (p + length pre) (outside no_word) r
unfolding at_place
lex_string {t} {r} (Rfc.quoted {s} h) pre e p =
    let (xs, f, g) = chars_steps h in
    let count : length pre ≡ suc (suc (length xs)) = counted xs f in
    lex_quote p s
    ∙ ap (λ y. lex (suc p) (inside p Inside.chars []) y) f
    ∙ lex_through g (suc p) p (0x22 ∷ r)
    ∙ lex_closed (suc p + length xs) p (reverse t) r
    ∙ ap (λ y. at p (quoted y) ∷ lex (suc (suc p + length xs)) (outside no_word) r) (reverse-reverse t)
    ∙ ap (λ y. at p (quoted t) ∷ lex y (outside no_word) r) (omega arith)
  where
    counted : (xs : Bytes) → s ≡ xs ++ 0x22 ∷ r → length pre ≡ suc (suc (length xs))
    counted xs f =
        let u : suc (length s) ≡ length pre + length r = ap length e ∙ length-append pre r in
        let v : length s ≡ length xs + suc (length r) = ap length f ∙ length-append xs (0x22 ∷ r) in
        omega arith

-- where no string goes on so, the token is broken
pub lex_broken
    : (s xs : Bytes) {i : Inside} {acc : Bytes} → TextSteps Inside.chars [] xs i acc
    → ((t r : Bytes) → Rfc.chars (xs ++ s) t (0x22 ∷ r) → ⊥) → (p a : ℕ) → lex p (inside a i acc) s ≡ at a broken ∷ []
unfolding lex at_place
lex_broken [] xs g n p a = refl
lex_broken (b ∷ s) xs {i} {acc} g n p a =
    told (text_step i acc b) refl (λ j c h. lex_broken s (xs ++ b ∷ []) {i = j} {acc = c} h)
  where
    told
        : (m : TextMove) → text_step i acc b ≡ m
        → ((j : Inside) (c : Bytes) → TextSteps Inside.chars [] (xs ++ b ∷ []) j c
        → ((t r : Bytes) → Rfc.chars (xs ++ b ∷ [] ++ s) t (0x22 ∷ r) → ⊥) → (p a : ℕ)
        → lex p (inside a j c) s ≡ at a broken ∷ [])
        → lex p (inside a i acc) (b ∷ s) ≡ at a broken ∷ []
    told wrong e f = rw (e, lex) refl
    told (more j c) e f =
        rw
        (e, lex)
        (f
        j
        c
        (text_steps_append g (text_then e text_stay))
        (λ t r h. n t r (subst (λ y. Rfc.chars y t (0x22 ∷ r)) (append_assoc xs (b ∷ []) s) h))
        (suc p)
        a)
    told closed e f =
        let (q, h) = chars_sound xs s acc i b g e in
        absurd (n (reverse acc) s (subst (λ y. Rfc.chars (xs ++ y ∷ s) (reverse acc) (0x22 ∷ s)) (sym q) h))
