-- Words as numbers, by which they are compared. Assumes nothing.
use Rattle.std.specs.Prelude.{ℕ, zero, suc, ◌+◌, ◌*◌, ◌≡◌, Bool, true, false, ◌&&◌, [], ◌∷◌, ltb, length}
use Rattle.definitions.specs.Bytes.{Bytes, same}

-- the number whose digits to the base 256 are those of x and these behind them
unfoldable pub joined : ℕ → Bytes → ℕ
joined x [] = x
joined x (b ∷ w) = joined (x * 256 + b) w

-- the bytes of a word, and how many they are in the last place
unfoldable pub word_value : Bytes → ℕ
word_value w = joined 0 w * 256 + length w

-- at most so many numbers, and each a byte
unfoldable pub fits : ℕ → Bytes → Bool
fits n [] = true
fits zero (b ∷ w) = false
fits (suc n) (b ∷ w) = ltb b 256 && fits n w

-- r tells the word w from each of at most seven bytes
pub record WordTold (w : Bytes) (r : ℕ) : Type 0 where
  pub is : (v : Bytes) → fits 7 v ≡ true → r ≡ word_value v → w ≡ v
  pub other : (v : Bytes) → fits 7 v ≡ true → (r ≡ word_value v → ⊥) → same w v ≡ false
