-- What the functions over tokens answer: how `lex` (definitions' Tokens) goes from a place between tokens. Assumes nothing.
use Rattle.std.specs.Prelude.{ℕ, ◌+◌, ◌-◌, ◌≤◌, ◌<◌, ◌≡◌, Bool, true, false, List, ◌∷◌, length, take, drop, get_or}
use Rattle.definitions.specs.Bytes.{Bytes}
use Rattle.definitions.specs.Tokens.{quoted, at_place, Placed, no_word, outside, lex}
use Rattle.definitions.specs.Tokens as Tokens
use Rattle.laws.specs.Rfc8259.{ws_char}
use Rattle.laws.specs.TokenGrammar.{WordByte, WordBytes}
use Rattle.pool.specs.Pool.{words, text_in}

-- ---- bytes

-- JSON white space
abbrev pub SpaceAnswer : ℕ → Bool → Type 0
SpaceAnswer b true = ws_char b
SpaceAnswer b false = ws_char b → ⊥

-- a byte that ends a word
abbrev pub BorderAnswer : ℕ → Bool → Type 0
BorderAnswer b true = WordByte b → ⊥
BorderAnswer b false = WordByte b

-- the tokens from a place on that stands between tokens
unfoldable pub tokens_from : Bytes → ℕ → List Placed
tokens_from text at = lex at (outside no_word) (drop at text)

-- only white space stands from one place to another
pub record Skips (text : Bytes) (at r : ℕ) : Type 0 where
  pub run : tokens_from text at ≡ tokens_from text r
  pub from : at ≤ r
  pub within : r ≤ length text
  pub stops : r < length text → ws_char (get_or text r 0) → ⊥

-- the bytes of a word from one place to another, which runs on no further
pub record Runs (text : Bytes) (at r : ℕ) : Type 0 where
  pub bytes : WordBytes (take (r - at) (drop at text))
  pub from : at ≤ r
  pub within : r ≤ length text
  pub stops : r < length text → WordByte (get_or text r 0) → ⊥

-- ---- tokens

-- the next token is t, from its place up to an end
pub record Found (text : Bytes) (at : ℕ) (t : Tokens.Token) (place end : ℕ) : Type 0 where
  pub run : tokens_from text at ≡ at_place place t ∷ tokens_from text end
  pub from : at ≤ place
  pub ahead : place < end
  pub within : end ≤ length text

-- the bytes of a word
unfoldable pub word_in : Bytes → (at end : ℕ) → Bytes
word_in text at end = take (end - at) (drop at text)

-- the next token is a text, of n bytes in the pool from word w on
pub record FoundText (text : Bytes) (at : ℕ) (p : List ℕ) (w place end n : ℕ) : Type 0 where
  pub found : Found text at (quoted (text_in p w n)) place end
  pub size : length (text_in p w n) ≡ n
  pub room : w + words n ≤ length p
  pub shorter : place + n + 2 ≤ end
