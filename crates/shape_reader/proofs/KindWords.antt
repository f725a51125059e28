-- The word of a kind, looked up. Assumes nothing.
use Prim.Native.Nat.{ℕ}
use mathlib.Core.Path.{◌≡◌, refl, sym, ap, ◌∙◌}
use mathlib.Core.Bool.{true, false}
use mathlib.Core.List.{List, [], ◌∷◌}
use Rattle.definitions.specs.Bytes.{Bytes, same}
use Rattle.definitions.specs.Shape.{Kind}
use Rattle.definitions.specs.ShapeText.{kind_words}
use Rattle.definitions.specs.Tokens.{Named, named, look_word}
use Rattle.tokens.specs.WordValues.{word_value, fits, WordTold}
use Rattle.shape_reader.specs.ShapeParts.{kind_code}

-- the code of a word that the number tells
pub kind_told
    : {w : Bytes} {r x : ℕ} → WordTold w r → (v : Bytes) → fits 7 v ≡ true → r ≡ word_value v → x ≡ kind_code (look_word kind_words v)
    → x ≡ kind_code (look_word kind_words w)
kind_told t v f e h = h ∙ ap (λ (u : Bytes). kind_code (look_word kind_words u)) (sym (t.is v f e))

-- w is none of these words
pub data Misses (w : Bytes) : List (Named Kind) → Type 0 where
  misses_none : Misses w []
  misses_one : {n : Bytes} {k : Kind} {rows : List (Named Kind)} → same w n ≡ false → Misses w rows → Misses w (named n k ∷ rows)

pub kind_missed : {w : Bytes} {rows : List (Named Kind)} → Misses w rows → 0 ≡ kind_code (look_word rows w)
unfolding look_word kind_code
kind_missed misses_none = refl
kind_missed (misses_one e s) = rw (e, look_word) (kind_missed s)
