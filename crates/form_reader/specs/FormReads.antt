-- What `read_reader` and `read_place` answer: what the definitions come to, with the forms in a forms table. Assumes nothing.
use Rattle.std.specs.Prelude.{ℕ, ◌+◌, ◌*◌, ◌≤◌, ◌<◌, ◌≡◌, List, [], ◌∷◌, length, take}
use Rattle.std.specs.Prelude as std
use Rattle.std.specs.Prelude.{Ok, Err}
use Rattle.definitions.specs.declared.Limits.{Limits}
use Rattle.definitions.specs.Bytes.{Bytes}
use Rattle.definitions.specs.Outcome.{ok}
use Rattle.definitions.specs.Tokens.{Placed, tokens}
use Rattle.definitions.specs.Reader.{Place, Result, read_reader, read_place}
use Rattle.laws.specs.FormGrammar.{place_forms, result_forms}
use Rattle.forms.specs.Forms.{PlaceRows, FormRows}
use Rattle.tokens.specs.TokenRead.{tokens_from}
use Rattle.tokens.specs.Expecting.{MoreAt}
use Rattle.reading.specs.declared.Refusal.{Refusal}
use Rattle.reading.specs.declared.Cursor.{Cursor}
use Rattle.reading.specs.declared.Extent.{Extent}
use Rattle.reading.specs.Refusals.{refused_as}

-- the tables have room for a text of so many forms, and their words for what is said of it
pub record Tables (text : Bytes) (forms pool : List ℕ) (top values : ℕ) : Type 0 where
  -- three words a form
  pub rows : 3 * values ≤ length forms
  -- the names and texts behind word `top`: a word border may cost seven bytes a text, of which its quotes pay two and its form
  -- five. A text of 511 pairs of a name and a `str`, each of 8 k + 1 bytes, comes within two words of it. What is decoded
  -- before it is refused has room too; the quote itself takes none
  pub texts : 8 * top + length text + 5 * values ≤ 8 * length pool + 1
  pub short : length text ≤ 65536
  pub few : values ≤ 32768
  -- a reference has 16 bits for a text's first word
  pub small : 8 * top + length text + 5 * values < 524288

-- the text has a token
pub record HasToken (text : Bytes) : Type 0 where
  pub first : Placed
  pub others : List Placed
  pub run : tokens text ≡ first ∷ others

-- the pool p' that was p has names and texts between words `top` and `top'`
pub record PoolUsed (text : Bytes) (p p' : List ℕ) (top words top' : ℕ) : Type 0 where
  pub grows : top ≤ top'
  -- so that another text has room behind them
  pub bounded : 24 * top' ≤ 24 * top + 3 * length text + 5 * words
  pub within : top' ≤ length p'
  pub small : top' < 65536
  -- the texts before are kept
  pub front : take top p' ≡ take top p

-- the text is a reader, which the first words of the table hold; the document is the one binding
pub record ReaderHeld (l : Limits) (text : Bytes) (forms p p' : List ℕ) (top words top' : ℕ) : Type 0 where
  pub form : Result
  pub read : read_reader l text ≡ ok form
  pub held : FormRows (take top' p') 1 0 form (take words forms)
  pub counted : words ≡ 3 * result_forms form
  pub used : PoolUsed text p p' top words top'

-- the text is a place alone
pub record PlaceHeld (l : Limits) (text : Bytes) (forms p p' : List ℕ) (top words top' : ℕ) : Type 0 where
  pub form : Place
  pub read : read_place l text ≡ ok form
  pub held : PlaceRows (take top' p') 1 form (take words forms)
  pub counted : words ≡ 3 * place_forms form
  pub used : PoolUsed text p p' top words top'

abbrev pub ReaderAnswer : Limits → Bytes → (forms p p' : List ℕ) → ℕ → std.Result Extent Refusal → Type 0
ReaderAnswer l text forms p p' top (Ok x) = ReaderHeld l text forms p p' top x.words x.top
ReaderAnswer l text forms p p' top (Err e) = read_reader l text ≡ refused_as e

abbrev pub LoneAnswer : Limits → Bytes → (forms p p' : List ℕ) → ℕ → std.Result Extent Refusal → Type 0
LoneAnswer l text forms p p' top (Ok x) = PlaceHeld l text forms p p' top x.words x.top
LoneAnswer l text forms p p' top (Err e) = read_place l text ≡ refused_as e

-- the answer r, and the tables that were forms and pool
pub record ReadsReader
    (l : Limits) (text : Bytes) (forms pool forms' pool' : List ℕ) (top : ℕ) (r : std.Result Extent Refusal) : Type 0 where
  pub answer : ReaderAnswer l text forms' pool pool' top r
  pub forms_kept : length forms' ≡ length forms
  pub pool_kept : length pool' ≡ length pool

pub record ReadsLonePlace
    (l : Limits) (text : Bytes) (forms pool forms' pool' : List ℕ) (top : ℕ) (r : std.Result Extent Refusal) : Type 0 where
  pub answer : LoneAnswer l text forms' pool pool' top r
  pub forms_kept : length forms' ≡ length forms
  pub pool_kept : length pool' ≡ length pool

-- ---- the end

-- the forms that reach up to a cursor end their text
pub record WholeText (text : Bytes) (to : Cursor) (x : Extent) : Type 0 where
  pub over : tokens_from text to.at ≡ []
  pub words : x.words ≡ 3 * to.begun
  pub top : x.top ≡ to.top

abbrev pub FormsEnd : Bytes → Cursor → std.Result Extent Refusal → Type 0
FormsEnd text to (Ok x) = WholeText text to x
FormsEnd text to (Err e) = MoreAt text to.at e

pub record EndsForms (text : Bytes) (to : Cursor) (r : std.Result Extent Refusal) : Type 0 where
  pub answer : FormsEnd text to r
