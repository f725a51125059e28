-- Laws of bytes that stand at a place: parts of them, and the tokens that they are. Assumes nothing.
use Rattle.std.specs.Prelude.{ℕ, suc, ◌+◌, ◌<◌, ◌≡◌, refl, Bool, true, ◌&&◌, [], ◌∷◌, ◌++◌, ltb, drop, get_or}
use Rattle.std.proofs.Common.{sym, ◌∙◌, subst, append_assoc, add-one, length-append, drop-cons, drop-drop, drop_at}
use Rattle.std.proofs.Math.Path.{ap}
use native.Mathlib.Omega.{arith}
use Rattle.std.proofs.Math.ListN.{length}
use Rattle.definitions.specs.Bytes.{Bytes}
use Rattle.definitions.specs.Tokens.{Token, opening, closing, word, at_place, no_word, outside, lex}
use Rattle.laws.specs.Bools.{and_two}
use Rattle.laws.proofs.LexLaws.{lex_open, lex_close, lex_space}
use Rattle.laws.specs.Rfc8259.{ws_char}
use Rattle.laws.specs.Tests.{ltb_lt}
use Rattle.laws.specs.TokenGrammar.{WordByte, WordBytes, no_bytes, next_byte, Word, a_word, WordEnd, at_a_border}
use Rattle.laws.proofs.TokenLexing.{lex_word_at}
use Rattle.tokens.specs.TokenRead.{tokens_from, Skips, Found}
use Rattle.tokens.specs.Standing.{StandsAt}

-- ---- parts

module _ {text : Bytes} {at : ℕ} where
  -- one after the other
  pub stands_then : (u v : Bytes) → StandsAt text at u → StandsAt text (at + length u) v → StandsAt text at (u ++ v)
  stands_then u v s t =
      let e : at + length u + length v ≡ at + length (u ++ v) = omega (arith, length-append u v) in
      record {
        run =
            s.run
            ∙ ap (λ (x : Bytes). u ++ x) (t.run ∙ ap (λ (k : ℕ). v ++ drop k text) e)
            ∙ sym (append_assoc u v (drop (at + length (u ++ v)) text));
        within = omega (arith, t.within, e);
      }

  -- what stands behind the first
  pub stands_behind : (u v : Bytes) → StandsAt text at (u ++ v) → StandsAt text (at + length u) v
  stands_behind u v s =
      let e : at + length (u ++ v) ≡ at + length u + length v = omega (arith, length-append u v) in
      record {
        run =
            sym (drop-drop (length u) at text)
            ∙ ap (drop (length u))
            (s.run
            ∙ append_assoc u v (drop (at + length (u ++ v)) text))
            ∙ drop_at u (v ++ drop (at + length (u ++ v)) text) (length u) refl
            ∙ ap (λ (k : ℕ). v ++ drop k text) e;
        within = omega (arith, s.within, e);
      }

  -- the first
  pub stands_front : (u v : Bytes) → StandsAt text at (u ++ v) → StandsAt text at u
  stands_front u v s =
      record {
        run =
            s.run
            ∙ append_assoc u v (drop (at + length (u ++ v)) text)
            ∙ ap (λ (x : Bytes). u ++ x)
            (ap (λ (k : ℕ). v ++ drop k text) (let e : at + length (u ++ v) ≡ at + length u + length v = omega (arith, length-append u v) in e)
            ∙ sym (stands_behind u v s).run);
        within = omega (arith, s.within, length-append u v);
      }

  -- one byte
  pub stands_byte : {b : ℕ} → at < length text → get_or text at 0 ≡ b → StandsAt text at (b ∷ [])
  stands_byte {b} h e =
      record {
        run =
            drop-cons text at 0 h
            ∙ ap (λ (c : ℕ). c ∷ drop (suc at) text) e
            ∙ ap (λ (k : ℕ). b ∷ drop k text) (sym (add-one at));
        within = omega arith;
      }

-- ---- bytes that end no word

pub not_space : {b : ℕ} → (b ≡ 0x20 → ⊥) → (b ≡ 0x09 → ⊥) → (b ≡ 0x0A → ⊥) → (b ≡ 0x0D → ⊥) → ws_char b → ⊥
not_space h i j k ws_char.space = h refl
not_space h i j k ws_char.tab = i refl
not_space h i j k ws_char.line_feed = j refl
not_space h i j k ws_char.carriage_return = k refl

-- a byte above all of them
pub above_space : {b : ℕ} → 0x20 < b → ws_char b → ⊥
above_space h = not_space (λ e. omega (arith, e)) (λ e. omega (arith, e)) (λ e. omega (arith, e)) (λ e. omega (arith, e))

-- one above the brackets too is a word's
pub above_border : {b : ℕ} → 0x29 < b → WordByte b
above_border h =
    record {
      no_white_space = above_space (omega arith);
      no_opening = λ e. omega (arith, e);
      no_closing = λ e. omega (arith, e);
      no_quote = λ e. omega (arith, e);
    }

-- ---- words

-- every byte stands above those that end a word
unfoldable pub high : Bytes → Bool
high [] = true
high (b ∷ w) = ltb 0x29 b && high w

high_bytes : (w : Bytes) → high w ≡ true → WordBytes w
unfolding high
high_bytes [] e = no_bytes
high_bytes (b ∷ w) e = let (h, i) = and_two _ _ e in next_byte (above_border (ltb_lt 0x29 b h)) (high_bytes w i)

pub high_word : (b : ℕ) (w : Bytes) → high (b ∷ w) ≡ true → Word (b ∷ w)
high_word b w e = a_word (high_bytes (b ∷ w) e)

pub space_border : WordByte 0x20 → ⊥
space_border x = x.no_white_space ws_char.space

pub closing_border : WordByte 0x29 → ⊥
closing_border x = x.no_closing refl

-- ---- tokens

module _ {text : Bytes} {at : ℕ} where
  pub opening_stands : StandsAt text at (0x28 ∷ []) → Found text at opening at (at + 1)
  unfolding tokens_from
  opening_stands s =
      record {
        run =
            ap (λ (x : Bytes). lex at (outside no_word) x) s.run
            ∙ lex_open at (drop (at + 1) text)
            ∙ ap (λ (k : ℕ). at_place at opening ∷ lex k (outside no_word) (drop (at + 1) text)) (sym (add-one at));
        from = omega arith;
        ahead = omega arith;
        within = s.within;
      }

  pub closing_stands : StandsAt text at (0x29 ∷ []) → Found text at closing at (at + 1)
  unfolding tokens_from
  closing_stands s =
      record {
        run =
            ap (λ (x : Bytes). lex at (outside no_word) x) s.run
            ∙ lex_close at (drop (at + 1) text)
            ∙ ap (λ (k : ℕ). at_place at closing ∷ lex k (outside no_word) (drop (at + 1) text)) (sym (add-one at));
        from = omega arith;
        ahead = omega arith;
        within = s.within;
      }

  -- a word, and a byte that ends it
  pub word_stands
      : {w : Bytes} {b : ℕ} → Word w → (WordByte b → ⊥) → StandsAt text at w → StandsAt text (at + length w) (b ∷ [])
      → Found text at (word w) at (at + length w)
  unfolding tokens_from at_place
  word_stands {w} x n s t =
      record {
        run =
            ap (λ (y : Bytes). lex at (outside no_word) y) s.run
            ∙ lex_word_at x (subst WordEnd (sym t.run) (at_a_border n)) at;
        from = omega arith;
        ahead = further x;
        within = s.within;
      }
    where
      further : {v : Bytes} → Word v → at < at + length v
      further (a_word y) = omega arith

  -- white space before a token
  pub behind_space : {t : Token} {place end : ℕ} → StandsAt text at (0x20 ∷ []) → Found text (at + 1) t place end → Found text at t place end
  unfolding tokens_from
  behind_space s f =
      record {
        run =
            ap (λ (x : Bytes). lex at (outside no_word) x) s.run
            ∙ lex_space at (drop (at + 1) text)
            ∙ ap (λ (k : ℕ). lex k (outside no_word) (drop (at + 1) text)) (sym (add-one at))
            ∙ f.run;
        from = omega (arith, f.from);
        ahead = f.ahead;
        within = f.within;
      }

-- white space that was passed
pub behind_skipped : {text : Bytes} {at r : ℕ} {t : Token} {place end : ℕ} → Skips text at r → Found text r t place end → Found text at t place end
behind_skipped s f = record { run = s.run ∙ f.run; from = omega (arith, s.from, f.from); ahead = f.ahead; within = f.within }
