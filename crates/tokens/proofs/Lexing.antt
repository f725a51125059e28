-- The token behind white space. Assumes nothing.
use Prim.Native.Nat.{ℕ, suc, ◌+◌, ◌-◌, ◌≤◌, ◌<◌}
use mathlib.Core.Path.{◌≡◌, refl, sym, ap, ◌∙◌, subst}
use mathlib.Core.List.{List, [], ◌∷◌, ◌++◌, reverse}
use mathlib.Core.Option.{Option, none, some}
use native.Mathlib.Numerals.{add-one}
use native.Mathlib.Decide.{dec_lt}
use native.Mathlib.Omega.{arith}
use lib.ListN.{length, take, drop, get_or, length-drop, take-append-drop, drop_of_length-le}
use lib.Seq.{drop-drop, length-take-le}
use Rattle.definitions.specs.Bytes.{Bytes, look, between}
use Rattle.definitions.specs.Text.{Inside, TextMove, wrong, more, closed, text_step}
use Rattle.definitions.specs.Tokens.{Token, opening, closing, quoted, word, broken, Placed, at_place, Border, border_table}
use Rattle.definitions.specs.Tokens.{no_word, word_from, outside, inside, ended, longer, lex}
use Rattle.laws.specs.FormGrammar.{at}
use Rattle.laws.proofs.LexLaws.{lex_open, lex_close, lex_longer}
use Rattle.laws.specs.Rfc8259.{ws_char}
use Rattle.laws.specs.TokenGrammar.{WordByte, WordBytes, next_byte, Word, a_word, WordEnd, at_the_end, at_a_border}
use Rattle.laws.proofs.TokenLexing.{Bounds, bounds_space, bounds_open, bounds_close, bounds_quote, border_bounds, none_word_byte}
use Rattle.laws.proofs.TokenLexing.{lex_ended, lex_quote, lex_word_at}
use Rattle.pool.specs.Pool.{words, text_in}
use Rattle.pool.specs.PoolLaws.{words_mono}
use Rattle.text.specs.TextRead.{TextClosed, TextBroken}
use Rattle.text.specs.TextLaws.{lex_broke, lex_ended_at}
use Rattle.tokens.specs.TokenRead.{tokens_from, Skips, Runs, Found, FoundText, word_in}
use Rattle.tokens.specs.Expecting.{Sort, an_opening, a_closing, a_text, a_word, a_break, sort, Lacks, another}
use Rattle.tokens.proofs.Borders.{byte_here}

-- ---- what a byte begins

-- the byte that a token of a sort begins with
abbrev pub ByteOf : Sort → ℕ → Type 0
ByteOf an_opening b = b ≡ 0x28
ByteOf a_closing b = b ≡ 0x29
ByteOf a_text b = b ≡ 0x22
ByteOf a_word b = WordByte b
ByteOf a_break b = b ≡ 0x22

-- the first of the tokens stands at p and begins with the byte b
pub record Stands (ts : List Placed) (p b : ℕ) : Type 0 where
  pub token : Token
  pub others : List Placed
  pub run : ts ≡ at_place p token ∷ others
  pub byte : ByteOf (sort token) b

stands : {ts us : List Placed} {p b : ℕ} → ts ≡ us → Stands us p b → Stands ts p b
stands e s = record { token = s.token; others = s.others; run = e ∙ s.run; byte = s.byte }

word_stands : {b : ℕ} → WordByte b → (r : Bytes) (p q : ℕ) (acc : Bytes) → Stands (lex q (outside (word_from p acc)) r) p b
unfolding lex ended sort longer at_place
word_stands x [] p q acc = record { token = word (reverse acc); others = []; run = refl; byte = x }
word_stands {b} x (c ∷ r) p q acc = told (look border_table c) refl (word_stands x r p (suc q) (c ∷ acc))
  where
    told
        : (o : Option Border) → look border_table c ≡ o → Stands (lex (suc q) (outside (word_from p (c ∷ acc))) r) p b
        → Stands (lex q (outside (word_from p acc)) (c ∷ r)) p b
    told none e f = stands (lex_longer q (word_from p acc) c r e) f
    told (some d) e f =
        record { token = word (reverse acc); others = lex q (outside no_word) (c ∷ r); run = lex_ended q p acc c r d e; byte = x }

text_stands : (r : Bytes) (p q : ℕ) (i : Inside) (acc : Bytes) → Stands (lex q (inside p i acc) r) p 0x22
unfolding lex sort
text_stands [] p q i acc = record { token = broken; others = []; run = refl; byte = refl }
text_stands (c ∷ r) p q i acc = told (text_step i acc c) refl (λ j d. text_stands r p (suc q) j d)
  where
    told
        : (m : TextMove) → text_step i acc c ≡ m → ((j : Inside) (d : Bytes) → Stands (lex (suc q) (inside p j d) r) p 0x22)
        → Stands (lex q (inside p i acc) (c ∷ r)) p 0x22
    told wrong e f = record { token = broken; others = []; run = rw (e, lex) refl; byte = refl }
    told (more j d) e f = stands (rw (e, lex) refl) (f j d)
    told closed e f =
        record { token = quoted (reverse acc); others = lex (suc q) (outside no_word) r; run = rw (e, lex) refl; byte = refl }

byte_stands : (b : ℕ) (r : Bytes) (p : ℕ) → (ws_char b → ⊥) → Stands (lex p (outside no_word) (b ∷ r)) p b
unfolding sort longer at_place
byte_stands b r p h = told (look border_table b) refl
  where
    bounds : {c : ℕ} {d : Border} → Bounds c d → (ws_char c → ⊥) → Stands (lex p (outside no_word) (c ∷ r)) p c
    bounds (bounds_space w) i = absurd (i w)
    bounds bounds_open i = record { token = opening; others = lex (suc p) (outside no_word) r; run = lex_open p r; byte = refl }
    bounds bounds_close i = record { token = closing; others = lex (suc p) (outside no_word) r; run = lex_close p r; byte = refl }
    bounds bounds_quote i = stands (lex_quote p r) (text_stands r p (suc p) Inside.chars [])

    told : (o : Option Border) → look border_table b ≡ o → Stands (lex p (outside no_word) (b ∷ r)) p b
    told none e = stands (lex_longer p no_word b r e) (word_stands (none_word_byte b e) r p (suc p) (b ∷ []))
    told (some d) e = bounds (border_bounds b d e) h

-- ---- behind white space

module _ {text : Bytes} {start r : ℕ} (s : Skips text start r) where
  -- nothing stands there
  pub found_end : length text ≤ r → tokens_from text start ≡ []
  unfolding tokens_from lex ended
  found_end h = s.run ∙ ap (λ (t : Bytes). lex r (outside no_word) t) (drop_of_length-le text h)

  module _ (inside_text : r < length text) where
    -- the byte there
    begins : {b : ℕ} → get_or text r 0 ≡ b → tokens_from text start ≡ lex r (outside no_word) (b ∷ drop (r + 1) text)
    unfolding tokens_from
    begins e =
        s.run
        ∙ ap (λ (t : Bytes). lex r (outside no_word) t)
        (byte_here text r inside_text ∙ ap (λ (b : ℕ). b ∷ drop (r + 1) text) e)

    pub standing : Stands (tokens_from text start) r (get_or text r 0)
    standing = stands (begins refl) (byte_stands (get_or text r 0) (drop (r + 1) text) r (s.stops inside_text))

    pub found_opening : get_or text r 0 ≡ 0x28 → Found text start opening r (r + 1)
    unfolding tokens_from lex look between border_table ended
    found_opening e =
        record {
          run =
              begins e
              ∙ ap (λ (k : ℕ). at_place r opening ∷ lex k (outside no_word) (drop (r + 1) text)) (sym (add-one r));
          from = s.from;
          ahead = omega arith;
          within = omega arith;
        }

    pub found_closing : get_or text r 0 ≡ 0x29 → Found text start closing r (r + 1)
    unfolding tokens_from lex look between border_table ended
    found_closing e =
        record {
          run =
              begins e
              ∙ ap (λ (k : ℕ). at_place r closing ∷ lex k (outside no_word) (drop (r + 1) text)) (sym (add-one r));
          from = s.from;
          ahead = omega arith;
          within = omega arith;
        }

    quote_begins : get_or text r 0 ≡ 0x22 → tokens_from text start ≡ lex (r + 1) (inside r Inside.chars []) (drop (r + 1) text)
    quote_begins e =
        begins e
        ∙ lex_quote r (drop (r + 1) text)
        ∙ ap (λ (k : ℕ). lex k (inside r Inside.chars []) (drop (r + 1) text)) (sym (add-one r))

    pub found_text
        : {p : List ℕ} {w end n m : ℕ} → get_or text r 0 ≡ 0x22 → TextClosed text (r + 1) p w end n m
        → FoundText text start p w r end n
    unfolding tokens_from
    found_text {p} {w} {end} {n} e t =
        record {
          found =
              record {
                run =
                    quote_begins e
                    ∙ lex_ended_at r Inside.chars [] text (text_in p w n) (r + 1) end (omega arith) t.within t.run;
                from = s.from;
                ahead = omega (arith, t.shorter);
                within = t.within;
              };
          size = t.size;
          room = t.room;
          shorter = omega (arith, t.shorter);
        }

    found_broken : {place : ℕ} → get_or text r 0 ≡ 0x22 → TextBroken text (r + 1) place → tokens_from text start ≡ at_place r broken ∷ []
    found_broken {place} e t = quote_begins e ∙ lex_broke (r + 1) r Inside.chars [] (drop (r + 1) text) (drop place text) t.run

    pub lacks_broken : {place : ℕ} → get_or text r 0 ≡ 0x22 → TextBroken text (r + 1) place → Lacks a_text text start r
    unfolding sort
    lacks_broken e t = another broken [] (found_broken e t) (λ i. let z : ◌≡◌ {A = ℕ} 0 1 = ap is_break i in omega arith)
      where
        is_break : Sort → ℕ
        is_break an_opening = 1
        is_break a_closing = 1
        is_break a_text = 1
        is_break a_word = 1
        is_break a_break = 0

    -- the pool has room for a text
    pub text_room : (w l : ℕ) → w + words (length text - start - 1) ≤ l → (r + 1 ≤ length text) × (w + words (length text - (r + 1)) ≤ l)
    text_room w l h = (
      omega arith,
      omega (arith, h, words_mono {m = length text - (r + 1)} {n = length text - start - 1} (omega (arith, s.from))),
    )

    pub found_word : {end : ℕ} → r < end → Runs text r end → Found text start (word (word_in text r end)) r end
    unfolding tokens_from word_in at_place
    found_word {end} further g =
        let sized : length (take (end - r) (drop r text)) ≡ end - r = length-take-le (end - r) (drop r text) (omega (arith, g.within, length-drop r text)) in
        record {
          run =
              s.run
              ∙ ap (λ (t : Bytes). lex r (outside no_word) t)
              (sym (take-append-drop (end - r) (drop r text))
              ∙ ap (λ (t : Bytes). take (end - r) (drop r text) ++ t)
              (drop-drop (end - r) r text ∙ ap (λ (k : ℕ). drop k text) (let e : r + (end - r) ≡ end = omega arith in e)))
              ∙ lex_word_at (a_word_of g.bytes (omega (arith, sized))) (stops (dec_lt end (length text))) r
              ∙ ap (λ (k : ℕ). at r (word (take (end - r) (drop r text))) ∷ lex k (outside no_word) (drop end text))
              (let e : r + length (take (end - r) (drop r text)) ≡ end = omega (arith, sized) in e);
          from = s.from;
          ahead = further;
          within = g.within;
        }
      where
        a_word_of : {w : Bytes} → WordBytes w → 0 < length w → Word w
        a_word_of (next_byte x k) l = a_word (next_byte x k)
        a_word_of Rattle.laws.specs.TokenGrammar.no_bytes l = elim l [ ]

        stops : Dec (end < length text) → WordEnd (drop end text)
        stops (yes l) = subst WordEnd (sym (byte_here text end l)) (at_a_border (g.stops l))
        stops (no l) = subst WordEnd (sym (drop_of_length-le text {i = end} (omega arith))) at_the_end

-- none where the run of a word's bytes is empty
pub no_word_there : {text : Bytes} {r end : ℕ} → Runs text r end → end ≤ r → r < length text → WordByte (get_or text r 0) → ⊥
no_word_there {text} {r} {end} g h l x =
    let e : r ≡ end = omega (arith, g.from) in
    g.stops (omega (arith, e)) (subst (λ (k : ℕ). WordByte (get_or text k 0)) e x)
