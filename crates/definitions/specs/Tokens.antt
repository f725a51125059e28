-- Tokens of shape texts and readers, and reading a text of forms one step a token. Assumes nothing.
use Rattle.std.specs.Prelude.{ℕ, suc, Bool, true, false, List, [], ◌∷◌, reverse}
use Rattle.std.proofs.Math.Option.{Option, none, some}
use Rattle.definitions.specs.declared.Limits.{Limits}
use Rattle.definitions.specs.Limits.{over}
use Rattle.definitions.specs.Bytes.{Bytes, Row, one, look, same}
use Rattle.definitions.specs.Outcome.{Outcome, ok, refused}
use Rattle.definitions.specs.Text.{Inside, chars, wrong, more, closed, text_step}

-- ---- tokens

-- "Tokens are brackets, JSON texts, and words or numbers"
pub data Token : Type 0 where
  opening closing : Token
  -- a JSON text, decoded
  quoted : Bytes → Token
  -- a word or number, as written
  word : Bytes → Token
  -- a JSON text that breaks off or is cut
  broken : Token

-- a token and the place of its first byte
pub record Placed : Type 0 where
  pub token : Token
  pub at : ℕ

-- a token that stands at p
unfoldable pub at_place : ℕ → Token → Placed
at_place p t = record { token = t; at = p }

-- the bytes that end a word
pub data Border : Type 0 where
  space bracket_open bracket_close quote : Border

-- "which run to the next white space, bracket or quote"
unfoldable pub border_table : List (Row Border)
border_table =
    one " " space
    ∷ one "\t" space
    ∷ one "\n" space
    ∷ one "\r" space
    ∷ one "(" bracket_open
    ∷ one ")" bracket_close
    ∷ one "\"" quote
    ∷ []

-- a word that is being read: where it began, and its bytes so far, latest first
pub data Partial : Type 0 where
  no_word : Partial
  word_from : ℕ → Bytes → Partial

-- what a byte stands in: a JSON text that began at a place, or not
pub data Lexing : Type 0 where
  outside : Partial → Lexing
  inside : ℕ → Inside → Bytes → Lexing

-- the word that ends here, if there is one, before the tokens behind it
unfoldable pub ended : Partial → List Placed → List Placed
ended no_word ts = ts
ended (word_from at acc) ts = at_place at (word (reverse acc)) ∷ ts

-- the word with one byte more, which stands at p
unfoldable pub longer : Partial → (p b : ℕ) → Partial
longer no_word p b = word_from p (b ∷ [])
longer (word_from at acc) p b = word_from at (b ∷ acc)

-- the tokens of a text from place p on; a broken one is the last
unfoldable pub lex : ℕ → Lexing → Bytes → List Placed
lex p (outside w) [] = ended w []
lex p (inside at i acc) [] = at_place at broken ∷ []
lex p (outside w) (b ∷ r) =
    elim (look border_table b) [
      | none ↦ lex (suc p) (outside (longer w p b)) r
      | some c ↦
          ended
          w
          (elim c [
            | space ↦ lex (suc p) (outside no_word) r
            | bracket_open ↦ at_place p opening ∷ lex (suc p) (outside no_word) r
            | bracket_close ↦ at_place p closing ∷ lex (suc p) (outside no_word) r
            | quote ↦ lex (suc p) (inside p chars []) r
          ])
    ]
lex p (inside at i acc) (b ∷ r) =
    elim (text_step i acc b) [
      | wrong ↦ at_place at broken ∷ []
      | more i' acc' ↦ lex (suc p) (inside at i' acc') r
      | closed ↦ at_place at (quoted (reverse acc)) ∷ lex (suc p) (outside no_word) r
    ]

-- the tokens of a text; "JSON white space may stand between tokens"
unfoldable pub tokens : Bytes → List Placed
tokens s = lex 0 (outside no_word) s

-- ---- what a token does in a text of forms

-- no right text has it there; it may stand there; it is the bracket of a form that counts, at this nesting
pub data Step (Q : Type 0) : Type 0 where
  misplaced : Step Q
  go : Q → Step Q
  opens : ℕ → Q → Step Q

-- only an opening bracket may stand here
unfoldable pub want_open : {Q : Type 0} → Token → Step Q → Step Q
want_open opening s = s
want_open closing s = misplaced
want_open (quoted t) s = misplaced
want_open (word w) s = misplaced
want_open broken s = misplaced

-- only a closing bracket may stand here
unfoldable pub want_close : {Q : Type 0} → Token → Step Q → Step Q
want_close opening s = misplaced
want_close closing s = s
want_close (quoted t) s = misplaced
want_close (word w) s = misplaced
want_close broken s = misplaced

-- only a JSON text may stand here
unfoldable pub want_text : {Q : Type 0} → Token → (Bytes → Step Q) → Step Q
want_text opening f = misplaced
want_text closing f = misplaced
want_text (quoted t) f = f t
want_text (word w) f = misplaced
want_text broken f = misplaced

-- only a word or number may stand here
unfoldable pub want_word : {Q : Type 0} → Token → (Bytes → Step Q) → Step Q
want_word opening f = misplaced
want_word closing f = misplaced
want_word (quoted t) f = misplaced
want_word (word w) f = f w
want_word broken f = misplaced

-- the step where the test holds
unfoldable pub where_true : {Q : Type 0} → Bool → Step Q → Step Q
where_true true s = s
where_true false s = misplaced

-- the step that is there, if there is one
unfoldable pub where_some : {A Q : Type 0} → Option A → (A → Step Q) → Step Q
where_some none f = misplaced
where_some (some a) f = f a

-- a word and what it stands for
pub data Named (A : Type 0) : Type 0 where
  named : Bytes → A → Named A

-- what the word stands for in a table
unfoldable pub look_word : {A : Type 0} → List (Named A) → Bytes → Option A
look_word [] w = none
look_word (named n a ∷ rows) w = elim (same w n) [ true ↦ some a | false ↦ look_word rows w ]

-- a word of the table
unfoldable pub want_named : {A Q : Type 0} → List (Named A) → Token → (A → Step Q) → Step Q
want_named rows t f = want_word t (λ w. where_some (look_word rows w) f)

-- ---- reading: refusals 7 and 8

-- refusal 7 for a step at a place, where n forms that count have begun, or 8, where the next one is one too many or too deep;
-- otherwise reading goes on
unfoldable pub judge_step : {Q A : Type 0} → Limits → (n at : ℕ) → Step Q → (ℕ → Q → Outcome ℕ A) → Outcome ℕ A
judge_step l n at misplaced on = refused 7 at
judge_step l n at (go q) on = on n q
judge_step l n at (opens depth q) on = elim (over l (suc n) depth) [ true ↦ refused 8 at | false ↦ on (suc n) q ]

-- 7 at the end of the text, unless what was read is whole
unfoldable pub or_end : {A : Type 0} → ℕ → Option A → Outcome ℕ A
or_end end none = refused 7 end
or_end end (some a) = ok a

-- reading tokens from a state on, by a grammar's steps; `whole` is what has been read where the text may end
unfoldable pub read_tokens
    : {Q A : Type 0} → (Q → Placed → Step Q) → (Q → Option A) → Limits → (n end : ℕ) → Q → List Placed → Outcome ℕ A
read_tokens step whole l n end q [] = or_end end (whole q)
read_tokens step whole l n end q (t ∷ ts) =
    judge_step l n t.at (step q t) (λ n' q'. read_tokens step whole l n' end q' ts)
