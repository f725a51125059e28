-- An answer buffer read by the host: five 8-byte little-endian words. Assumes nothing.
use Rattle.std.specs.Prelude.{ℕ, ◌+◌, ◌*◌, ◌<◌, ◌≡◌, [], ◌∷◌, take, drop}
use Rattle.definitions.specs.declared.Answer.{Answer}
use Rattle.definitions.specs.Bytes.{Bytes}
use Rattle.definitions.specs.Calls.{as_word}

-- the number whose lowest byte comes first
unfoldable pub from_little_endian : Bytes → ℕ
from_little_endian [] = 0
from_little_endian (b ∷ bs) = b + 256 * from_little_endian bs

-- the k-th word of a buffer, the first being 0: "text, place, length, steps and yes"
unfoldable pub word_at : (k : ℕ) → Bytes → ℕ
word_at k buffer = from_little_endian (take 8 (drop (8 * k) buffer))

-- a number that a word can hold
abbrev pub InWord : ℕ → Type 0
InWord n = n < 18446744073709551616

-- the words of a buffer are the fields of an answer
pub record WordsOf (buffer : Bytes) (a : Answer) : Type 0 where
  pub text_word : word_at 0 buffer ≡ a.text
  pub place_word : word_at 1 buffer ≡ a.place
  pub length_word : word_at 2 buffer ≡ a.length
  pub steps_word : word_at 3 buffer ≡ a.steps
  pub yes_word : word_at 4 buffer ≡ as_word a.yes
