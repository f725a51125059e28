-- The lexer (definitions' Tokens) gives the tokens of the grammar (TokenGrammar), and these alone. Assumes nothing.
use Rattle.std.specs.Prelude.{ℕ, suc, ◌+◌, ◌≡◌, refl, ◌↔◌, length}
use Rattle.std.proofs.Common.{sym, ap, ◌∙◌, subst, subst₂, arith, length-append}
use mathlib.Core.List.{List, [], ◌∷◌, ◌++◌, reverse, reverse-cons, append_assoc, append-nil, nil≢cons, head-eq_of_cons-eq, tail-eq_of_cons-eq}
use Rattle.std.proofs.Math.Option.{Option, none, some}
use Rattle.definitions.specs.Bytes.{Bytes, look}
use Rattle.definitions.specs.Text.{Inside, TextMove, wrong, more, closed, text_step}
use Rattle.definitions.specs.Tokens.{opening, closing, quoted, word, Placed, at_place, Border, border_table}
use Rattle.definitions.specs.Tokens.{no_word, word_from, Lexing, outside, inside, ended, longer, lex, tokens}
use Rattle.laws.specs.Rfc8259 as Rfc
use Rattle.laws.specs.Steps.{TextSteps, text_stay, text_then, text_steps_append}
use Rattle.laws.proofs.StringSteps.{quote_closes}
use Rattle.laws.proofs.StringTokens.{chars_sound, chars_steps, string_dead}
use Rattle.laws.proofs.LexLaws.{lex_open, lex_close, lex_longer}
use Rattle.laws.specs.FormGrammar.{at}
use Rattle.laws.proofs.TokenLexing.{Bounds, bounds_space, bounds_open, bounds_close, bounds_quote, border_bounds, none_word_byte}
use Rattle.laws.proofs.TokenLexing.{bounds_no_word, lex_white, lex_ended, lex_word_at, lex_quote, lex_string, lex_broken}
use Rattle.laws.specs.TokenGrammar.{WordByte, WordBytes, no_bytes, next_byte, Word, a_word, at_the_end, at_a_border, TokensOf}
use Rattle.laws.specs.TokenGrammar.{no_tokens, white_space, opening_bracket, closing_bracket, json_text, broken_text, a_word_token}

-- ---- the grammar's tokens are the lexer's

grammar_lex : {p : ℕ} {s : Bytes} {ts : List Placed} → TokensOf p s ts → lex p (outside no_word) s ≡ ts
unfolding lex ended at_place
grammar_lex no_tokens = refl
grammar_lex {p} (white_space {b} {s} x g) = lex_white x p s ∙ grammar_lex g
grammar_lex {p} (opening_bracket {s} g) = lex_open p s ∙ ap (λ y. at p opening ∷ y) (grammar_lex g)
grammar_lex {p} (closing_bracket {s} g) = lex_close p s ∙ ap (λ y. at p closing ∷ y) (grammar_lex g)
grammar_lex {p} (json_text {t} pre h e g) = lex_string h pre e p ∙ ap (λ y. at p (quoted t) ∷ y) (grammar_lex g)
grammar_lex {p} (broken_text {s} n) =
    lex_quote p s ∙ lex_broken s [] text_stay (λ t r h. n t r (Rfc.quoted h)) (suc p) p
grammar_lex {p} (a_word_token {w} x n e g) =
    ap (lex p (outside no_word)) e ∙ lex_word_at x n p ∙ ap (λ y. at p (word w) ∷ y) (grammar_lex g)

-- ---- the lexer's tokens are the grammar's

-- steps through a string do not go on behind its closing quote
cut
    : {i j k : Inside} {a c d xs zs : Bytes} → TextSteps i a xs j c → TextSteps i a zs k d → (r : Bytes)
    → text_step k d 0x22 ≡ closed → xs ≡ zs ++ 0x22 ∷ r → ⊥
cut text_stay text_stay r e h = nil≢cons h
cut text_stay (text_then m g) r e h = nil≢cons h
cut {i} {a} (text_then {b = y} m f) text_stay r e h =
    let x : text_step i a y ≡ text_step i a 0x22 = ap (text_step i a) (head-eq_of_cons-eq h) in
    let z : ◌≡◌ {A = ℕ} 0 1 = cc in
    omega arith
cut {i} {k} {a} {d} (text_then {j = x} {c = p} {b = m} n f) (text_then {j = y} {c = q} {xs} {b = o} n' g) r e h =
    let s : text_step i a m ≡ text_step i a o = ap (text_step i a) (head-eq_of_cons-eq h) in
    let u : x ≡ y = cc in
    let v : p ≡ q = cc in
    cut f (subst₂ (λ l t. TextSteps l t xs k d) (sym u) (sym v) g) r e (tail-eq_of_cons-eq h)

-- a string that the end of the text cuts is none
cut_no_string
    : {xs acc : Bytes} {i : Inside} → TextSteps Inside.chars [] xs i acc → (t r : Bytes) → Rfc.string (0x22 ∷ xs ++ []) t r → ⊥
cut_no_string {xs} f t r (Rfc.quoted h) =
    let (zs, e, g) = chars_steps h in
    cut f g r (quote_closes (reverse t)) (sym (append-nil xs) ∙ e)

-- nor is one with a wrong byte
wrong_no_string
    : {xs acc : Bytes} {i : Inside} → TextSteps Inside.chars [] xs i acc → (b : ℕ) → text_step i acc b ≡ wrong
    → (s t r : Bytes) → Rfc.string (0x22 ∷ xs ++ b ∷ s) t r → ⊥
wrong_no_string f b e s t r (Rfc.quoted h) = string_dead f b e s t r h

-- how lexing came to stand at p: the bytes pre of a token that begins at a have been read
data Begun : (p : ℕ) → Lexing → (a : ℕ) → (pre : Bytes) → Type 0 where
  begun : {p : ℕ} → Begun p (outside no_word) p []
  begun_word
      : {p a : ℕ} {w acc : Bytes} → Word w → reverse acc ≡ w → a + length w ≡ p → Begun p (outside (word_from a acc)) a w
  begun_text
      : {p a : ℕ} {i : Inside} {xs acc : Bytes} → TextSteps Inside.chars [] xs i acc → suc a + length xs ≡ p
      → Begun p (inside a i acc) a (0x22 ∷ xs)

-- from p on r is lexed as the grammar has it
abbrev Lexed : ℕ → Bytes → Type 0
Lexed p r = (x : Lexing) (a : ℕ) (pre : Bytes) → Begun p x a pre → TokensOf a (pre ++ r) (lex p x r)

pub word_bytes_more : {w : Bytes} {b : ℕ} → WordBytes w → WordByte b → WordBytes (w ++ b ∷ [])
word_bytes_more no_bytes x = next_byte x no_bytes
word_bytes_more (next_byte y g) x = next_byte y (word_bytes_more g x)

word_more : {w : Bytes} {b : ℕ} → Word w → WordByte b → Word (w ++ b ∷ [])
word_more (a_word g) x = a_word (word_bytes_more g x)

-- one byte more, one place on
place_more : {p : ℕ} (a : ℕ) (w : Bytes) (b : ℕ) → a + length w ≡ p → a + length (w ++ b ∷ []) ≡ suc p
place_more a w b q = omega (arith, length-append w (b ∷ []))

-- a border where no word is open
border_lexed
    : {b : ℕ} {c : Border} → Bounds b c → (p : ℕ) (r : Bytes) → Lexed (suc p) r
    → TokensOf p (b ∷ r) (lex p (outside no_word) (b ∷ r))
unfolding at_place
border_lexed {b} (bounds_space x) p r f =
    subst (TokensOf p (b ∷ r)) (sym (lex_white x p r)) (white_space x (f (outside no_word) (suc p) [] begun))
border_lexed bounds_open p r f =
    subst (TokensOf p (0x28 ∷ r)) (sym (lex_open p r)) (opening_bracket (f (outside no_word) (suc p) [] begun))
border_lexed bounds_close p r f =
    subst (TokensOf p (0x29 ∷ r)) (sym (lex_close p r)) (closing_bracket (f (outside no_word) (suc p) [] begun))
border_lexed bounds_quote p r f =
    subst
    (TokensOf p (0x22 ∷ r))
    (sym (lex_quote p r))
    (f (inside p Inside.chars []) p (0x22 ∷ []) (begun_text text_stay (omega arith)))

-- a byte where no word is open
none_lexed : (b p : ℕ) (r : Bytes) → Lexed (suc p) r → TokensOf p (b ∷ r) (lex p (outside no_word) (b ∷ r))
unfolding longer
none_lexed b p r f = told (look border_table b) refl
  where
    told : (o : Option Border) → look border_table b ≡ o → TokensOf p (b ∷ r) (lex p (outside no_word) (b ∷ r))
    told none e =
        subst
        (TokensOf p (b ∷ r))
        (sym (lex_longer p no_word b r e))
        (f
        (outside (word_from p (b ∷ [])))
        p
        (b ∷ [])
        (begun_word (a_word (next_byte (none_word_byte b e) no_bytes)) refl (omega arith)))
    told (some c) e = border_lexed (border_bounds b c e) p r f

-- a byte behind those of a word
word_lexed
    : (p a : ℕ) (w acc : Bytes) → Word w → reverse acc ≡ w → a + length w ≡ p → (b : ℕ) (r : Bytes) → Lexed (suc p) r
    → TokensOf a (w ++ b ∷ r) (lex p (outside (word_from a acc)) (b ∷ r))
unfolding longer
word_lexed p a w acc x h q b r f = told (look border_table b) refl
  where
    told : (o : Option Border) → look border_table b ≡ o → TokensOf a (w ++ b ∷ r) (lex p (outside (word_from a acc)) (b ∷ r))
    told none e =
        subst₂
        (λ y z. TokensOf a y z)
        (append_assoc w (b ∷ []) r)
        (sym (lex_longer p (word_from a acc) b r e))
        (f
        (outside (word_from a (b ∷ acc)))
        a
        (w ++ b ∷ [])
        (begun_word
        (word_more x (none_word_byte b e))
        (reverse-cons b acc ∙ ap (λ y. y ++ b ∷ []) h)
        (place_more a w b q)))
    told (some c) e =
        subst
        (TokensOf a (w ++ b ∷ r))
        (ap (λ y. at a (word y) ∷ lex p (outside no_word) (b ∷ r)) (sym h) ∙ sym (lex_ended p a acc b r c e))
        (a_word_token
        x
        (at_a_border (bounds_no_word (border_bounds b c e)))
        refl
        (subst
        (λ y. TokensOf y (b ∷ r) (lex p (outside no_word) (b ∷ r)))
        (sym q)
        (border_lexed (border_bounds b c e) p r f)))

-- a byte inside a JSON text
text_lexed
    : {p a : ℕ} {i : Inside} {xs acc : Bytes} → TextSteps Inside.chars [] xs i acc → suc a + length xs ≡ p → (b : ℕ)
    (r : Bytes) → Lexed (suc p) r → TokensOf a (0x22 ∷ xs ++ b ∷ r) (lex p (inside a i acc) (b ∷ r))
unfolding lex at_place
text_lexed {p} {a} {i} {xs} {acc} g q b r f = told (text_step i acc b) refl
  where
    told : (m : TextMove) → text_step i acc b ≡ m → TokensOf a (0x22 ∷ xs ++ b ∷ r) (lex p (inside a i acc) (b ∷ r))
    told wrong e = rw (e, lex) (broken_text (wrong_no_string g b e r))
    told (more j c) e =
        rw
        (e, lex)
        (subst
        (λ y. TokensOf a (0x22 ∷ y) (lex (suc p) (inside a j c) r))
        (append_assoc xs (b ∷ []) r)
        (f
        (inside a j c)
        a
        (0x22 ∷ (xs ++ b ∷ []))
        (begun_text (text_steps_append g (text_then e text_stay)) (place_more (suc a) xs b q))))
    told closed e =
        let (k, h) = chars_sound xs r acc i b g e in
        let whole : Rfc.string (0x22 ∷ (xs ++ b ∷ r)) (reverse acc) r =
        subst (λ y. Rfc.string (0x22 ∷ (xs ++ y ∷ r)) (reverse acc) r) (sym k) (Rfc.quoted h) in
        let past : suc p ≡ a + suc (length (xs ++ b ∷ [])) = omega (arith, place_more (suc a) xs b q) in
        rw
        (e, lex)
        (json_text
        (0x22 ∷ (xs ++ b ∷ []))
        whole
        (ap (λ y. 0x22 ∷ y) (sym (append_assoc xs (b ∷ []) r)))
        (subst
        (λ y. TokensOf y r (lex (suc p) (outside no_word) r))
        past
        (f (outside no_word) (suc p) [] begun)))

-- the end of the text
end_lexed : (p : ℕ) → Lexed p []
unfolding lex ended at_place
end_lexed p x a pre begun = no_tokens
end_lexed p x a pre (begun_word {w} y h q) =
    subst (λ u. TokensOf a (w ++ []) (at a (word u) ∷ [])) (sym h) (a_word_token y at_the_end refl no_tokens)
end_lexed p x a pre (begun_text g q) = broken_text (cut_no_string g)

-- from every place, by one byte at a time
lex_lexed : (s : Bytes) (p : ℕ) → Lexed p s
lex_lexed [] p x a pre h = end_lexed p x a pre h
lex_lexed (b ∷ r) p x a pre h = told (lex_lexed r (suc p)) h
  where
    told
        : (f : Lexed (suc p) r) {x : Lexing} {a : ℕ} {pre : Bytes} → Begun p x a pre
        → TokensOf a (pre ++ b ∷ r) (lex p x (b ∷ r))
    told f begun = none_lexed b p r f
    told f (begun_word {p = u} {a} {w} {acc} x h q) = word_lexed u a w acc x h q b r f
    told f (begun_text g q) = text_lexed g q b r f

-- ---- both

-- a text has just one list of tokens
pub tokens_of_one : {p : ℕ} {s : Bytes} {ts us : List Placed} → TokensOf p s ts → TokensOf p s us → ts ≡ us
tokens_of_one g h = sym (grammar_lex g) ∙ grammar_lex h

-- the lexer's tokens of a text are the grammar's
pub tokens_are_derived : (s : Bytes) (ts : List Placed) → (tokens s ≡ ts) ↔ TokensOf 0 s ts
unfolding tokens
tokens_are_derived s ts =
    (λ e. subst (TokensOf 0 s) e (lex_lexed s 0 (outside no_word) 0 [] begun), grammar_lex)
