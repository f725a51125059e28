-- Bytes that stand at a place of a text, and the number of the next eight, by which they are told. Assumes nothing.
use Rattle.std.specs.Prelude.{ℕ, ◌+◌, ◌*◌, ◌%◌, ◌^◌, ◌≤◌, ◌<◌, ◌≡◌, Bool, true, [], ◌∷◌, ◌++◌, length, drop}
use Rattle.definitions.specs.Bytes.{Bytes}
use Rattle.definitions.specs.Tokens as Tokens
use Rattle.laws.specs.TokenGrammar.{Word}
use Rattle.tokens.specs.TokenRead.{Found}
use Rattle.tokens.specs.WordValues.{fits}

-- the bytes w stand at a place
pub record StandsAt (text : Bytes) (at : ℕ) (w : Bytes) : Type 0 where
  pub run : drop at text ≡ w ++ drop (at + length w) text
  pub within : at + length w ≤ length text

-- the number whose digits to the base 256 are these, the lowest first
unfoldable pub low_value : Bytes → ℕ
low_value [] = 0
low_value (b ∷ w) = low_value w * 256 + b

-- r tells of at most eight bytes that they stand at a place
pub record EightTold (text : Bytes) (at r : ℕ) : Type 0 where
  pub is : (w : Bytes) → fits 8 w ≡ true → r % 2 ^ (8 * length w) ≡ low_value w → StandsAt text at w
  pub small : r < 2 ^ 64

-- r tells of a word of at most seven bytes, by its number, that it is the token at a place
pub record WordStands (text : Bytes) (at value size n : ℕ) (r : Bool) : Type 0 where
  pub found
      : (w : Bytes) → fits 8 w ≡ true → Word w → n ≡ length w → size ≡ 2 ^ (8 * length w) → value ≡ low_value w → r ≡ true
      → Found text at (Tokens.word w) at (at + n)
