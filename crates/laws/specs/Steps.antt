-- The steps of reading inside a JSON string and inside a number, several bytes at a time: what connects the grammar's
-- tokens with a scan that goes byte by byte. Assumes nothing.
use Rattle.std.specs.Prelude.{ℕ, ◌≡◌, [], ◌∷◌, ◌++◌}
use Rattle.std.proofs.Math.Option.{some}
use Rattle.definitions.specs.Bytes.{Bytes, look}
use Rattle.definitions.specs.Text.{Inside, more, text_step}
use Rattle.definitions.specs.Number.{Numeral, Phase, next, extend}

-- inside a string, the bytes xs lead from one place and its bytes so far to another
pub data TextSteps : Inside → Bytes → Bytes → Inside → Bytes → Type 0 where
  text_stay : {i : Inside} {acc : Bytes} → TextSteps i acc [] i acc
  text_then
      : {i j k : Inside} {a c d xs : Bytes} {b : ℕ} → text_step i a b ≡ more j c → TextSteps j c xs k d
      → TextSteps i a (b ∷ xs) k d

pub text_steps_append
    : {i j k : Inside} {a c d xs ys : Bytes} → TextSteps i a xs j c → TextSteps j c ys k d → TextSteps i a (xs ++ ys) k d
text_steps_append text_stay g = g
text_steps_append (text_then e f) g = text_then e (text_steps_append f g)

-- inside a number, the bytes xs lead from one phase and its digits to another
pub data NumberSteps : Phase → Numeral → Bytes → Phase → Numeral → Type 0 where
  number_stay : {p : Phase} {d : Numeral} → NumberSteps p d [] p d
  number_then
      : {p q u : Phase} {d f : Numeral} {xs : Bytes} {b : ℕ} → look (next p) b ≡ some q → NumberSteps q (extend q d b) xs u f
      → NumberSteps p d (b ∷ xs) u f

pub number_steps_append
    : {p q u : Phase} {d f g : Numeral} {xs ys : Bytes} → NumberSteps p d xs q f → NumberSteps q f ys u g
    → NumberSteps p d (xs ++ ys) u g
number_steps_append number_stay k = k
number_steps_append (number_then e h) k = number_then e (number_steps_append h k)
