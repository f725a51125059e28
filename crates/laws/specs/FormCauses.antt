-- The causes of refusals 7 and 8 in a text of forms that may break later, said by the grammar and the brackets alone: what
-- stands before a place is the beginning of some right text. No limit plays a part in "right". Assumes nothing.
use Rattle.std.specs.Prelude.{ℕ, suc, pred, ◌+◌, ◌<◌, ◌≡◌, ◌⊎◌, Bool, true, false, List, [], ◌∷◌, ◌++◌, length}
use Rattle.definitions.specs.declared.Limits.{Limits}
use Rattle.definitions.specs.Bytes.{Bytes, bytes, same}
use Rattle.definitions.specs.Tokens.{Token, opening, closing, quoted, word, broken, Placed, tokens}
use Rattle.laws.specs.FormGrammar.{at, ShapeText, ReaderText, PlaceText}

-- ---- brackets

-- the word that stands only behind the bracket of a shape form
unfoldable pub is_shape : Bytes → Bool
is_shape w = same w (bytes "shape")

-- the innermost form that is open is a shape form
unfoldable pub shape_named : List Bool → List Bool
shape_named [] = []
shape_named (f ∷ fs) = true ∷ fs

-- the innermost form that is open ends
unfoldable pub last_closed : List Bool → List Bool
last_closed [] = []
last_closed (f ∷ fs) = fs

-- the forms that are open behind a token, each with whether it is a shape form, innermost first: a bracket opens one, and
-- the word `shape` makes it a shape form
unfoldable pub open_after : Token → List Bool → List Bool
open_after opening fs = false ∷ fs
open_after closing fs = last_closed fs
open_after (quoted t) fs = fs
open_after (word w) fs = elim (is_shape w) [ true ↦ shape_named fs | false ↦ fs ]
open_after broken fs = fs

-- the forms that are open behind tokens, where fs were open before
unfoldable pub open_behind : List Bool → List Placed → List Bool
open_behind fs [] = fs
open_behind fs (t ∷ ts) = open_behind (open_after t.token fs) ts

-- how many shape forms there are among those open
unfoldable pub shapes_among : List Bool → ℕ
shapes_among [] = 0
shapes_among (true ∷ fs) = suc (shapes_among fs)
shapes_among (false ∷ fs) = shapes_among fs

-- how many shape forms begin with a token
unfoldable pub shape_begun : Token → ℕ
shape_begun opening = 0
shape_begun closing = 0
shape_begun (quoted t) = 0
shape_begun (word w) = elim (is_shape w) [ true ↦ 1 | false ↦ 0 ]
shape_begun broken = 0

-- in these tokens
unfoldable pub shapes_begun : List Placed → ℕ
shapes_begun [] = 0
shapes_begun (t ∷ ts) = shape_begun t.token + shapes_begun ts

-- in a reader every bracket begins a form
unfoldable pub form_begun : Token → ℕ
form_begun opening = 1
form_begun closing = 0
form_begun (quoted t) = 0
form_begun (word w) = 0
form_begun broken = 0

-- how many forms begin in these tokens
unfoldable pub forms_begun : List Placed → ℕ
forms_begun [] = 0
forms_begun (t ∷ ts) = form_begun t.token + forms_begun ts

-- how many forms are open behind a token, where n were open before
unfoldable pub forms_after : Token → ℕ → ℕ
forms_after opening n = suc n
forms_after closing n = pred n
forms_after (quoted t) n = n
forms_after (word w) n = n
forms_after broken n = n

-- the same behind tokens
unfoldable pub forms_open : ℕ → List Placed → ℕ
forms_open n [] = n
forms_open n (t ∷ ts) = forms_open (forms_after t.token n) ts

-- ---- the causes

-- some right text begins with these tokens; places play no part in what is right (FormTokens)
pub record Begins (Right : List Placed → Type 0) (pre : List Placed) : Type 0 where
  pub rest : List Placed
  pub right : Right (pre ++ rest)

-- t, behind the tokens pre, is the bracket of a shape form: the n-th, and the d-th of those open
pub data ShapeBracket (pre : List Placed) (t : Placed) : (n d : ℕ) → Type 0 where
  shape_bracket
      : t.token ≡ opening → Begins ShapeText (pre ++ t ∷ at 0 (word (bytes "shape")) ∷ [])
      → ShapeBracket pre t (suc (shapes_begun pre)) (suc (shapes_among (open_behind [] pre)))

-- the same of a form of a text in which every form counts
pub data FormBracket (Right : List Placed → Type 0) (pre : List Placed) (t : Placed) : (n d : ℕ) → Type 0 where
  form_bracket
      : t.token ≡ opening → Begins Right (pre ++ t ∷ [])
      → FormBracket Right pre t (suc (forms_begun pre)) (suc (forms_open 0 pre))

-- the cause of a refusal of text s, by number and place
pub data Cause
    (Right : List Placed → Type 0) (Bracket : List Placed → Placed → ℕ → ℕ → Type 0) (l : Limits) (s : Bytes)
    : ℕ → ℕ → Type 0 where
  -- 7: "first token no right text has there, or the end"
  misplaced_token
      : (pre : List Placed) (t : Placed) (post : List Placed) → tokens s ≡ pre ++ t ∷ post → Begins Right pre
      → (Begins Right (pre ++ t ∷ []) → ⊥) → Cause Right Bracket l s 7 t.at
  missing_token : Begins Right (tokens s) → (Right (tokens s) → ⊥) → Cause Right Bracket l s 7 (length s)
  -- 8: "a 513th form or nesting 33 ..: its bracket"
  full_bracket
      : (pre : List Placed) (t : Placed) (post : List Placed) (n d : ℕ) → tokens s ≡ pre ++ t ∷ post → Bracket pre t n d
      → (l.values < n) ⊎ (l.nesting < d) → Cause Right Bracket l s 8 t.at

-- "in a shape only shape forms count, for both"
abbrev pub ShapeCause : Limits → Bytes → ℕ → ℕ → Type 0
ShapeCause = Cause ShapeText ShapeBracket

-- in a reader every form counts; a text with no token is right, and has no cause
abbrev pub ReaderCause : Limits → Bytes → ℕ → ℕ → Type 0
ReaderCause = Cause ReaderText (FormBracket ReaderText)

abbrev pub PlaceCause : Limits → Bytes → ℕ → ℕ → Type 0
PlaceCause = Cause PlaceText (FormBracket PlaceText)
