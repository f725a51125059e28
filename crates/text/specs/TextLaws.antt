-- How reading a document (definitions' Json) and cutting a text into tokens (definitions' Tokens) go over a JSON text, by `text_run`;
-- and how `text_run` goes, byte by byte. Assumes nothing.
use Rattle.std.specs.Prelude.{ℕ, suc, ◌+◌, ◌-◌, ◌≤◌, ◌≡◌, refl, List, [], ◌∷◌, reverse, length, drop}
use Rattle.std.proofs.Common.{ap, ◌∙◌, length-drop, arith}
use Rattle.definitions.specs.declared.Limits.{Limits}
use Rattle.definitions.specs.Bytes.{Bytes}
use Rattle.definitions.specs.Outcome.{Outcome, refused}
use Rattle.definitions.specs.Value.{Value}
use Rattle.definitions.specs.Text.{Inside, TextMove, wrong, more, closed, text_step}
use Rattle.definitions.specs.Json.{Role, as_value, as_name, State, in_text, text_move, close_move, move, end_move, judge, scan}
use Rattle.definitions.specs.Tokens.{Placed, at_place, quoted, outside, inside, no_word, lex}
use Rattle.definitions.specs.Tokens as Tokens
use Rattle.text.specs.TextRun.{TextEnd, ended, broke, text_run}

-- ---- one byte

pub run_more
    : (i : Inside) (acc : Bytes) (b : ℕ) (r : Bytes) {j : Inside} {a : Bytes} → text_step i acc b ≡ more j a
    → text_run i acc (b ∷ r) ≡ text_run j a r
unfolding text_run
run_more i acc b r e = rw (e, text_run)

pub run_wrong
    : (i : Inside) (acc : Bytes) (b : ℕ) (r : Bytes) → text_step i acc b ≡ wrong → text_run i acc (b ∷ r) ≡ broke (b ∷ r)
unfolding text_run
run_wrong i acc b r e = rw (e, text_run)

pub run_closed
    : (i : Inside) (acc : Bytes) (b : ℕ) (r : Bytes) → text_step i acc b ≡ closed → text_run i acc (b ∷ r) ≡ ended (reverse acc) r
unfolding text_run
run_closed i acc b r e = rw (e, text_run)

pub run_end : (i : Inside) (acc : Bytes) → text_run i acc [] ≡ broke []
unfolding text_run
run_end i acc = refl

-- ---- scan

-- what reading a document comes to where a text in it ends so
unfoldable scan_end : Limits → (n : ℕ) (kept : Bytes) → Role → TextEnd → Outcome Bytes Value
scan_end l n kept role (ended t r) = judge l n kept (0x22 ∷ r) (close_move role t) (λ n' kept' q'. scan l n' kept' q' r)
scan_end l n kept role (broke r) = refused 3 r

-- the byte of the closing quote is judged by nothing
close_any
    : (l : Limits) (n : ℕ) (kept s s' t : Bytes) (role : Role) (on : ℕ → Bytes → State → Outcome Bytes Value)
    → judge l n kept s (close_move role t) on ≡ judge l n kept s' (close_move role t) on
unfolding judge close_move
close_any l n kept s s' t (as_value o) on = refl
close_any l n kept s s' t (as_name ms o) on = refl

scan_run
    : (l : Limits) (n : ℕ) (kept : Bytes) (role : Role) (s : Bytes) (i : Inside) (acc : Bytes)
    → scan l n kept (in_text role i acc) s ≡ scan_end l n kept role (text_run i acc s)
unfolding scan scan_end text_run end_move judge move text_move
scan_run l n kept role [] i acc = refl
scan_run l n kept role (b ∷ r) i acc = go (text_step i acc b) (scan_run l n kept role r)
  where
    go
        : (m : TextMove)
        → ((j : Inside) (a : Bytes) → scan l n kept (in_text role j a) r ≡ scan_end l n kept role (text_run j a r))
        → judge l n kept (b ∷ r) (text_move role acc m) (λ n' kept' q'. scan l n' kept' q' r)
        ≡ scan_end l n kept role
        (elim m [ wrong ↦ broke (b ∷ r) | more j a ↦ text_run j a r | closed ↦ ended (reverse acc) r ])
    go wrong f = refl
    go (more j a) f = f j a
    go closed f = close_any l n kept (b ∷ r) (0x22 ∷ r) (reverse acc) role (λ n' kept' q'. scan l n' kept' q' r)

-- a text that breaks off is refusal 3 where it does
pub scan_broke
    : (l : Limits) (n : ℕ) (kept : Bytes) (role : Role) (i : Inside) (acc s r : Bytes)
    → text_run i acc s ≡ broke r
    → scan l n kept (in_text role i acc) s ≡ refused 3 r
unfolding scan_end
scan_broke l n kept role i acc s r e = scan_run l n kept role s i acc ∙ ap (scan_end l n kept role) e

-- behind a text that ends, reading goes on as its closing quote says
pub scan_ended
    : (l : Limits) (n : ℕ) (kept : Bytes) (role : Role) (i : Inside) (acc s t r : Bytes)
    → text_run i acc s ≡ ended t r
    → scan l n kept (in_text role i acc) s
    ≡ judge l n kept (0x22 ∷ r) (close_move role t) (λ n' kept' q'. scan l n' kept' q' r)
unfolding scan_end
scan_ended l n kept role i acc s t r e = scan_run l n kept role s i acc ∙ ap (scan_end l n kept role) e

-- ---- lex

-- the tokens from a text on that began at a place and ends so, where all ends at place e
unfoldable lex_end : (at e : ℕ) → TextEnd → List Placed
lex_end at e (ended t r) = at_place at (quoted t) ∷ lex (e - length r) (outside no_word) r
lex_end at e (broke r) = at_place at Tokens.broken ∷ []

lex_run
    : (at : ℕ) (s : Bytes) (p : ℕ) (i : Inside) (acc : Bytes)
    → lex p (inside at i acc) s ≡ lex_end at (p + length s) (text_run i acc s)
unfolding lex lex_end text_run
lex_run at [] p i acc = refl
lex_run at (b ∷ r) p i acc = go (text_step i acc b) (lex_run at r (suc p))
  where
    go
        : (m : TextMove)
        → ((j : Inside) (a : Bytes) → lex (suc p) (inside at j a) r ≡ lex_end at (suc p + length r) (text_run j a r))
        → elim m [
          | wrong ↦ at_place at Tokens.broken ∷ []
          | more j a ↦ lex (suc p) (inside at j a) r
          | closed ↦ at_place at (quoted (reverse acc)) ∷ lex (suc p) (outside no_word) r
        ]
        ≡ lex_end at (p + suc (length r))
        (elim m [ wrong ↦ broke (b ∷ r) | more j a ↦ text_run j a r | closed ↦ ended (reverse acc) r ])
    go wrong f = refl
    go (more j a) f =
        f j a ∙ ap (λ (e : ℕ). lex_end at e (text_run j a r)) (let q : suc p + length r ≡ p + suc (length r) = omega arith in q)
    go closed f =
        ap (λ (e : ℕ). at_place at (quoted (reverse acc)) ∷ lex e (outside no_word) r)
        (let q : suc p ≡ p + suc (length r) - length r = omega arith in q)

-- a text that breaks off is the last token
pub lex_broke
    : (p at : ℕ) (i : Inside) (acc s r : Bytes) → text_run i acc s ≡ broke r
    → lex p (inside at i acc) s ≡ at_place at Tokens.broken ∷ []
unfolding lex_end
lex_broke p at i acc s r e = lex_run at s p i acc ∙ ap (lex_end at (p + length s)) e

-- behind a text that ends there are more tokens
pub lex_ended
    : (p at : ℕ) (i : Inside) (acc s t r : Bytes) → text_run i acc s ≡ ended t r
    → lex p (inside at i acc) s ≡ at_place at (quoted t) ∷ lex (p + length s - length r) (outside no_word) r
unfolding lex_end
lex_ended p at i acc s t r e = lex_run at s p i acc ∙ ap (lex_end at (p + length s)) e

-- the same by places p and q of one text
pub lex_ended_at
    : (at : ℕ) (i : Inside) (acc s t : Bytes) (p q : ℕ) → p ≤ length s → q ≤ length s
    → text_run i acc (drop p s) ≡ ended t (drop q s)
    → lex p (inside at i acc) (drop p s) ≡ at_place at (quoted t) ∷ lex q (outside no_word) (drop q s)
lex_ended_at at i acc s t p q hp hq e =
    lex_ended p at i acc (drop p s) t (drop q s) e
    ∙ ap (λ (k : ℕ). at_place at (quoted t) ∷ lex k (outside no_word) (drop q s))
    (let f : p + length (drop p s) - length (drop q s) ≡ q = omega (arith, length-drop p s, length-drop q s) in f)
