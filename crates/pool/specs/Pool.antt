-- Texts in a pool of 64-bit words: eight bytes to a word, the first in the highest place; each text begins at a word border and its last word
-- is zero padded. A text is its first word and its length in bytes. Assumes nothing.
use Prim.Native.Nat.{ℕ, ◌+◌, ◌-◌, ◌*◌, ◌/◌, ◌%◌, ◌^◌, Ordering}
use Rattle.std.specs.declared.cmp.Ordering as cmp
use Rattle.std.specs.declared.cmp.Ordering.TheVariants.{Less, Equal, Greater}
use Rattle.std.specs.Prelude.{◌≡◌, List, [], ◌∷◌, ◌++◌, length, take, drop, replicate}
use Rattle.definitions.specs.Bytes.{Bytes}

-- ---- what the words hold

-- the eight bytes of a word, the highest first
unfoldable pub unpacked : ℕ → Bytes
unpacked x =
    x / 2 ^ 56 % 256
    ∷ x / 2 ^ 48 % 256
    ∷ x / 2 ^ 40 % 256
    ∷ x / 2 ^ 32 % 256
    ∷ x / 2 ^ 24 % 256
    ∷ x / 2 ^ 16 % 256
    ∷ x / 2 ^ 8 % 256
    ∷ x % 256
    ∷ []

-- the bytes of the words, one word after the other
unfoldable pub pool_bytes : List ℕ → Bytes
pool_bytes [] = []
pool_bytes (x ∷ p) = unpacked x ++ pool_bytes p

-- how many words n bytes take
unfoldable pub words : ℕ → ℕ
words n = (n + 7) / 8

-- the text of n bytes that begins at word w
unfoldable pub text_in : List ℕ → ℕ → ℕ → Bytes
text_in p w n = take n (drop (8 * w) (pool_bytes p))

-- ---- one byte put

-- byte b at place k, the rest of its word zero
unfoldable pub put_at : Bytes → ℕ → ℕ → Bytes
put_at s k b = take k s ++ (b ∷ replicate (7 - k % 8) 0) ++ drop (8 * (k / 8 + 1)) s

-- what a pool is after byte b was put at place k: only the word of that place differs
pub record Put (p p' : List ℕ) (k b : ℕ) : Type 0 where
  pub bytes : pool_bytes p' ≡ put_at (pool_bytes p) k b
  pub kept : length p' ≡ length p
  pub front : take (k / 8) p' ≡ take (k / 8) p
  pub back : drop (k / 8 + 1) p' ≡ drop (k / 8 + 1) p

-- ---- comparing

-- the order that a comparison tells
unfoldable pub ordering_of : cmp.Ordering → Ordering
ordering_of Less = Ordering.lt
ordering_of Equal = Ordering.eq
ordering_of Greater = Ordering.gt
