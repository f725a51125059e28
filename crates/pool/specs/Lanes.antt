-- A word of 64 bits seen as eight bytes, its lanes, the highest first; and tests of them all at once. Assumes nothing.
use Rattle.std.specs.Prelude.{ℕ, zero, suc, ◌-◌, ◌*◌, ◌/◌, ◌%◌, ◌^◌, ◌<◌, ◌≡◌, Bool, true, false, ◌&&◌, eqb}

-- byte j of a word
unfoldable pub lane : ℕ → ℕ → ℕ
lane x j = x / 2 ^ (56 - 8 * j) % 256

-- the first k bytes of a word, as a number
abbrev pub top : ℕ → ℕ → ℕ
top x k = x / 2 ^ (64 - 8 * k)

-- the word whose bytes are all b: written out, 0x80.. is `every 0x80`
abbrev pub every : ℕ → ℕ
every b = 0x0101010101010101 * b

-- the highest bit of a byte where a test fails
unfoldable pub mark : Bool → ℕ
mark true = 0
mark false = 128

-- y marks the bytes of x that fail t
pub record Marks (t : ℕ → Bool) (x y : ℕ) : Type 0 where
  pub each : (j : ℕ) → j < 8 → lane y j ≡ mark (t (lane x j))

-- byte i of x is the first that fails t
pub record FirstFails (t : ℕ → Bool) (x i : ℕ) : Type 0 where
  pub within : i < 8
  pub fails : t (lane x i) ≡ false
  pub before : (j : ℕ) → j < i → t (lane x j) ≡ true

-- two functions agree on the numbers below n, computed
unfoldable pub agree : (f g : ℕ → ℕ) → ℕ → Bool
agree f g zero = true
agree f g (suc n) = eqb (f n) (g n) && agree f g n
