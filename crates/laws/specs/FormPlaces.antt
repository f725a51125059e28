-- The places of a text's tokens ascend and stand before its end. Assumes nothing.
use Rattle.std.specs.Prelude.{ℕ, suc, ◌+◌, ◌≤◌, ◌<◌, ◌≡◌, List, [], ◌∷◌, ◌++◌, reverse, length}
use Rattle.std.proofs.Math.Option.{Option, none, some}
use Rattle.std.proofs.Common.{arith}
use Rattle.definitions.specs.Bytes.{Bytes, look}
use Rattle.definitions.specs.Text.{chars, TextMove, wrong, more, closed, text_step}
use Rattle.definitions.specs.Tokens.{Token, opening, closing, quoted, word, broken, Placed, at_place, Border, space, bracket_open, bracket_close}
use Rattle.definitions.specs.Tokens.{quote, border_table, Partial, no_word, word_from, Lexing, outside, inside, ended, longer, lex, tokens}

-- places ascend, none before lo, all before end
pub data Ascends (end : ℕ) : ℕ → List Placed → Type 0 where
  ascends_end : {lo : ℕ} → Ascends end lo []
  ascends_more
      : {lo : ℕ} {t : Placed} {ts : List Placed} → lo ≤ t.at → t.at < end → Ascends end (suc t.at) ts → Ascends end lo (t ∷ ts)

ascends_lower : {end lo lo' : ℕ} {ts : List Placed} → lo' ≤ lo → Ascends end lo ts → Ascends end lo' ts
ascends_lower h ascends_end = ascends_end
ascends_lower {lo' = lo'} h (ascends_more {t = t} a b c) = ascends_more (let z : lo' ≤ t.at = omega arith in z) b c

-- where the token that is being read began
abbrev begun_at : ℕ → Lexing → ℕ
begun_at p (outside no_word) = p
begun_at p (outside (word_from at acc)) = at
begun_at p (inside at i acc) = at

-- it began before p
abbrev Begun : ℕ → Lexing → Type 0
Begun p (outside no_word) = Unit {0}
Begun p (outside (word_from at acc)) = at < p
Begun p (inside at i acc) = at < p

-- one token more before
token_before
    : {end lo : ℕ} (p : ℕ) (k : Token) {ts : List Placed} → lo ≤ p → p < end → Ascends end (suc p) ts
    → Ascends end lo (at_place p k ∷ ts)
unfolding at_place
token_before p k a b c = ascends_more {t = at_place p k} a b c

ended_ascends
    : {end : ℕ} (p : ℕ) (w : Partial) → Begun p (outside w) → p ≤ end → (ts : List Placed) → Ascends end p ts
    → Ascends end (begun_at p (outside w)) (ended w ts)
unfolding ended
ended_ascends p no_word b h ts a = a
ended_ascends p (word_from at acc) b h ts a = token_before at (word (reverse acc)) (omega arith) (omega arith) (ascends_lower b a)

longer_begun : (p : ℕ) (w : Partial) (b : ℕ) → Begun p (outside w) → Begun (suc p) (outside (longer w p b))
unfolding longer
longer_begun p no_word b h = omega arith
longer_begun p (word_from at acc) b h = omega arith

longer_ascends
    : {end : ℕ} (p : ℕ) (w : Partial) (b : ℕ) {ts : List Placed} → Ascends end (begun_at (suc p) (outside (longer w p b))) ts
    → Ascends end (begun_at p (outside w)) ts
unfolding longer
longer_ascends p no_word b a = a
longer_ascends p (word_from at acc) b a = a

-- the tokens of r from the place behind p on
abbrev Later : ℕ → ℕ → Bytes → Type 0
Later end p r = (x : Lexing) → Begun (suc p) x → Ascends end (begun_at (suc p) x) (lex (suc p) x r)

lex_ascends
    : (r : Bytes) (p : ℕ) (x : Lexing) → Begun p x → (end : ℕ) → p + length r ≡ end → Ascends end (begun_at p x) (lex p x r)
unfolding lex
lex_ascends [] p (outside w) b end e = ended_ascends p w b (omega arith) [] ascends_end
lex_ascends [] p (inside at i acc) b end e = token_before at broken (omega arith) (omega arith) ascends_end
lex_ascends (c ∷ r) p (outside w) b end e = by_border (look border_table c) (λ x b. lex_ascends r (suc p) x b end (omega arith))
  where
    by_class
        : (k : Border) → Later end p r
        → Ascends
        end
        p
        (elim k [
          | space ↦ lex (suc p) (outside no_word) r
          | bracket_open ↦ at_place p opening ∷ lex (suc p) (outside no_word) r
          | bracket_close ↦ at_place p closing ∷ lex (suc p) (outside no_word) r
          | quote ↦ lex (suc p) (inside p chars []) r
        ])
    by_class space ih = ascends_lower (let z : p ≤ suc p = omega arith in z) (ih (outside no_word) tt)
    by_class bracket_open ih = token_before p opening (omega arith) (omega arith) (ih (outside no_word) tt)
    by_class bracket_close ih = token_before p closing (omega arith) (omega arith) (ih (outside no_word) tt)
    by_class quote ih = ih (inside p chars []) (omega arith)

    by_border
        : (o : Option Border) → Later end p r
        → Ascends
        end
        (begun_at p (outside w))
        (elim o [
          | none ↦ lex (suc p) (outside (longer w p c)) r
          | some k ↦
              ended
              w
              (elim k [
                | space ↦ lex (suc p) (outside no_word) r
                | bracket_open ↦ at_place p opening ∷ lex (suc p) (outside no_word) r
                | bracket_close ↦ at_place p closing ∷ lex (suc p) (outside no_word) r
                | quote ↦ lex (suc p) (inside p chars []) r
              ])
        ])
    by_border none ih = longer_ascends p w c (ih (outside (longer w p c)) (longer_begun p w c b))
    by_border (some k) ih = ended_ascends p w b (omega arith) _ (by_class k ih)
lex_ascends (c ∷ r) p (inside at i acc) b end e = by_move (text_step i acc c) (λ x b. lex_ascends r (suc p) x b end (omega arith))
  where
    by_move
        : (m : TextMove) → Later end p r
        → Ascends
        end
        at
        (elim m [
          | wrong ↦ at_place at broken ∷ []
          | more i' acc' ↦ lex (suc p) (inside at i' acc') r
          | closed ↦ at_place at (quoted (reverse acc)) ∷ lex (suc p) (outside no_word) r
        ])
    by_move wrong ih = token_before at broken (omega arith) (omega arith) ascends_end
    by_move (more i' acc') ih = ih (inside at i' acc') (omega arith)
    by_move closed ih =
        token_before at (quoted (reverse acc)) (omega arith) (omega arith) (ascends_lower (let z : suc at ≤ suc p = omega arith in z) (ih (outside no_word) tt))

pub tokens_ascend : (s : Bytes) → Ascends (length s) 0 (tokens s)
unfolding tokens
tokens_ascend s = lex_ascends s 0 (outside no_word) tt (length s) (omega arith)

-- ---- two tokens of a text

-- a token stands before the end, and what comes behind it behind its place
pub ascends_split
    : {end lo : ℕ} (pre : List Placed) (t : Placed) {post : List Placed} → Ascends end lo (pre ++ t ∷ post)
    → (lo ≤ t.at) × (t.at < end) × Ascends end (suc t.at) post
ascends_split [] t (ascends_more a b c) = (a, b, c)
ascends_split (u ∷ pre) t (ascends_more a b c) = let h = ascends_split pre t c in (let z = h.0 in omega arith, h.1, h.2)
