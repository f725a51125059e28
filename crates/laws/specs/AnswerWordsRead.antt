-- What a call put into its answer buffer is read from it. Assumes nothing.
use Rattle.std.specs.Prelude.{ℕ, zero, suc, ◌*◌, ◌/◌, ◌<◌, ◌≤◌, ◌≡◌, Bool, true, false, ◌++◌, ltb, length, drop}
use Rattle.std.proofs.Common.{arith, ap, ◌∙◌, lit<}
use Rattle.std.proofs.Math.Path.{refl}
use Rattle.definitions.specs.declared.Answer.{Answer}
use Rattle.definitions.specs.Bytes.{Bytes}
use Rattle.definitions.specs.Calls.{little_endian, as_word, answer_words, answered}
use Rattle.laws.specs.Tests.{le-ltb}
use Rattle.laws.specs.AnswerWords.{from_little_endian, word_at, InWord, WordsOf}

-- so many numbers have so many bytes
unfoldable bound : ℕ → ℕ
bound zero = 1
bound (suc k) = 256 * bound k

bytes_back : (k n : ℕ) → n < bound k → from_little_endian (little_endian k n) ≡ n
unfolding bound from_little_endian little_endian
bytes_back zero n h = omega arith
bytes_back (suc k) n h =
    let e : from_little_endian (little_endian k (n / 256)) ≡ n / 256 = bytes_back k (n / 256) (omega arith) in
    omega arith

word_back : (n : ℕ) → InWord n → from_little_endian (little_endian 8 n) ≡ n
unfolding bound
word_back n h = bytes_back 8 n h

-- the buffer afterwards, if it is long enough
pub answered_long : (buffer : Bytes) (a : Answer) → 40 ≤ length buffer → answered buffer a ≡ answer_words a ++ drop 40 buffer
unfolding answered
answered_long buffer a h = rw (le-ltb (length buffer) 40 h, answered) refl

pub answered_short : (buffer : Bytes) (a : Answer) → ltb (length buffer) 40 ≡ true → answered buffer a ≡ buffer
unfolding answered
answered_short buffer a h = rw (h, answered) refl

module _ (a : Answer) (rest : Bytes) where
  word_0 : word_at 0 (answer_words a ++ rest) ≡ from_little_endian (little_endian 8 a.text)
  unfolding word_at answer_words little_endian
  word_0 = refl

  word_1 : word_at 1 (answer_words a ++ rest) ≡ from_little_endian (little_endian 8 a.place)
  unfolding word_at answer_words little_endian
  word_1 = refl

  word_2 : word_at 2 (answer_words a ++ rest) ≡ from_little_endian (little_endian 8 a.length)
  unfolding word_at answer_words little_endian
  word_2 = refl

  word_3 : word_at 3 (answer_words a ++ rest) ≡ from_little_endian (little_endian 8 a.steps)
  unfolding word_at answer_words little_endian
  word_3 = refl

  word_4 : word_at 4 (answer_words a ++ rest) ≡ from_little_endian (little_endian 8 (as_word a.yes))
  unfolding word_at answer_words little_endian
  word_4 = refl

-- the length needs no other field
pub length_back : (buffer : Bytes) (a : Answer) → 40 ≤ length buffer → InWord a.length → word_at 2 (answered buffer a) ≡ a.length
length_back buffer a h k = ap (word_at 2) (answered_long buffer a h) ∙ word_2 a (drop 40 buffer) ∙ word_back a.length k

yes_small : (b : Bool) → InWord (as_word b)
unfolding as_word
yes_small true = lit< tt
yes_small false = lit< tt

pub words_read_back
    : (buffer : Bytes) (a : Answer) → 40 ≤ length buffer → InWord a.text → InWord a.place → InWord a.length → InWord a.steps
    → WordsOf (answered buffer a) a
words_read_back buffer a h t p k s =
    let e = answered_long buffer a h in
    let at : (i : ℕ) → word_at i (answered buffer a) ≡ word_at i (answer_words a ++ drop 40 buffer) = λ i. ap (word_at i) e in
    let rest = drop 40 buffer in
    record {
      text_word = at 0 ∙ word_0 a rest ∙ word_back a.text t;
      place_word = at 1 ∙ word_1 a rest ∙ word_back a.place p;
      length_word = length_back buffer a h k;
      steps_word = at 3 ∙ word_3 a rest ∙ word_back a.steps s;
      yes_word = at 4 ∙ word_4 a rest ∙ word_back (as_word a.yes) (yes_small a.yes);
    }
