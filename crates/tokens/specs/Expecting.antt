-- What the functions answer that expect a token of one sort. Assumes nothing.
use Rattle.std.specs.Prelude.{ℕ, suc, ◌+◌, ◌*◌, ◌≤◌, ◌<◌, ◌≡◌, Bool, false, Result, Ok, Err, List, [], ◌∷◌, length, take, get_or}
use Rattle.definitions.specs.declared.Limits.{Limits}
use Rattle.definitions.specs.Limits.{over}
use Rattle.definitions.specs.Bytes.{Bytes}
use Rattle.definitions.specs.Tokens.{Token, opening, closing, quoted, word, broken, at_place, Placed}
use Rattle.tokens.specs.TokenRead.{tokens_from, Skips, Found, FoundText, word_in}
use Rattle.reading.specs.declared.Cause.TheVariants.{FormSyntax}
use Rattle.reading.specs.declared.Refusal.{Refusal}
use Rattle.tokens.specs.declared.expect.Bracket.{Bracket}
use Rattle.tokens.specs.declared.expect.Bracket.TheVariants as BracketIs
use Rattle.tokens.specs.declared.expect.Span.{Span}
use Rattle.tokens.specs.declared.expect.Quoted.{Quoted}

-- ---- what stands there

-- the sorts of tokens
pub data Sort : Type 0 where
  an_opening a_closing a_text a_word a_break : Sort

unfoldable pub sort : Token → Sort
sort opening = an_opening
sort closing = a_closing
sort (quoted t) = a_text
sort (word w) = a_word
sort broken = a_break

-- no token of this sort comes: another stands at a place, or the text ends there
pub data Lacks (k : Sort) (text : Bytes) (at place : ℕ) : Type 0 where
  another
      : (t : Token) (ts : List Placed) → tokens_from text at ≡ at_place place t ∷ ts → (sort t ≡ k → ⊥) → Lacks k text at place
  none_left : tokens_from text at ≡ [] → place ≡ length text → Lacks k text at place

-- the pool p' that was p: what stands before word w is kept
pub record Kept (p p' : List ℕ) (w : ℕ) : Type 0 where
  pub size : length p' ≡ length p
  pub front : take w p' ≡ take w p

-- where reading may go on: the pool has room for every text that may come
pub record TextPlaced (text : Bytes) (pool : List ℕ) (at top : ℕ) : Type 0 where
  pub short : length text ≤ 65536
  pub within : at ≤ length text
  pub texts : 8 * top + length text ≤ 8 * length pool + at + 1
  pub small : 8 * top + length text < 524288 + at

-- ---- bytes

-- a byte behind white space, or the place where white space ends before another or before the end
abbrev pub NextAnswer : Bytes → (at b : ℕ) → Result ℕ Refusal → Type 0
NextAnswer text at b (Ok place) = Skips text at place × (place < length text) × (get_or text place 0 ≡ b)
NextAnswer text at b (Err r) = Skips text at r.place × (r.place < length text → get_or text r.place 0 ≡ b → ⊥) × (r.cause ≡ FormSyntax)

pub record StandsNext (text : Bytes) (at b : ℕ) (r : Result ℕ Refusal) : Type 0 where
  pub answer : NextAnswer text at b r

-- ---- brackets

-- no token of this sort comes, which refuses the form at the place of what stands there instead
pub record Misses (k : Sort) (text : Bytes) (at : ℕ) (r : Refusal) : Type 0 where
  pub lacks : Lacks k text at r.place
  pub cause : r.cause ≡ FormSyntax

abbrev pub BracketAnswer : Sort → Token → Bytes → ℕ → Result ℕ Refusal → Type 0
BracketAnswer k t text at (Ok place) = Found text at t place (place + 1)
BracketAnswer k t text at (Err r) = Misses k text at r

pub record ExpectsOpening (text : Bytes) (at : ℕ) (r : Result ℕ Refusal) : Type 0 where
  pub answer : BracketAnswer an_opening opening text at r

pub record ExpectsClosing (text : Bytes) (at : ℕ) (r : Result ℕ Refusal) : Type 0 where
  pub answer : BracketAnswer a_closing closing text at r

abbrev pub BracketsAnswer : Bytes → ℕ → Result Bracket Refusal → Type 0
BracketsAnswer text at (Ok (BracketIs.Opening place)) = Found text at opening place (place + 1)
BracketsAnswer text at (Ok (BracketIs.Closing place)) = Found text at closing place (place + 1)
BracketsAnswer text at (Err r) = Misses an_opening text at r × Misses a_closing text at r

-- a bracket of either sort
pub record ExpectsBracket (text : Bytes) (at : ℕ) (r : Result Bracket Refusal) : Type 0 where
  pub answer : BracketsAnswer text at r

-- ---- words and texts

abbrev pub WordAnswer : Bytes → ℕ → Result Span Refusal → Type 0
WordAnswer text at (Ok s) = Found text at (word (word_in text s.place s.end)) s.place s.end
WordAnswer text at (Err r) = Misses a_word text at r

pub record ExpectsWord (text : Bytes) (at : ℕ) (r : Result Span Refusal) : Type 0 where
  pub answer : WordAnswer text at r

abbrev pub QuotedAnswer : Bytes → ℕ → List ℕ → ℕ → Result Quoted Refusal → Type 0
QuotedAnswer text at p w (Ok q) = FoundText text at p w q.place q.end q.bytes
QuotedAnswer text at p w (Err r) = Misses a_text text at r

pub record ExpectsText (text : Bytes) (at : ℕ) (p p' : List ℕ) (w : ℕ) (r : Result Quoted Refusal) : Type 0 where
  pub answer : QuotedAnswer text at p' w r
  pub kept : Kept p p' w

-- ---- the end

-- a token comes at a place, which refuses the form
pub record MoreAt (text : Bytes) (at : ℕ) (r : Refusal) : Type 0 where
  pub token : Token
  pub others : List Placed
  pub run : tokens_from text at ≡ at_place r.place token ∷ others
  pub cause : r.cause ≡ FormSyntax

abbrev pub EndAnswer : Bytes → ℕ → Result (Unit {0}) Refusal → Type 0
EndAnswer text at (Ok u) = tokens_from text at ≡ []
EndAnswer text at (Err r) = MoreAt text at r

pub record ExpectsEnd (text : Bytes) (at : ℕ) (r : Result (Unit {0}) Refusal) : Type 0 where
  pub answer : EndAnswer text at r

-- ---- limits

-- whether a form that begins now is one too many or, with d forms around it, too deep
pub record JudgesFull (values left begun : ℕ) (r : Bool) : Type 0 where
  pub judged : (l : Limits) (d : ℕ) → l.values ≡ values → d + left ≡ l.nesting → r ≡ over l (suc begun) (suc d)
  pub within : r ≡ false → (begun < values) × (0 < left)
