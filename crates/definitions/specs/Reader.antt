-- Readers: "A reader is one result form.", or a text with no token. Their forms, and reading them token by token. Assumes nothing.
use Rattle.std.specs.Prelude.{ℕ, suc, Bool, true, false, not, ◌&&◌, ◌||◌, List, [], ◌∷◌, ltb, eqb, length}
use Rattle.std.proofs.Math.Option.{Option, none, some}
use Rattle.definitions.specs.declared.Limits.{Limits}
use Rattle.definitions.specs.Bytes.{Bytes, bytes, same}
use Rattle.definitions.specs.Outcome.{Outcome, ok}
use Rattle.definitions.specs.Number.{Numeral, no_digits, beyond, number_of, begin, spelled}
use Rattle.definitions.specs.Value.{Value}
use Rattle.definitions.specs.Tokens.{Token, opening, closing, quoted, word, broken, Placed, tokens, Step, misplaced, go, opens, want_open}
use Rattle.definitions.specs.Tokens.{want_close, want_text, want_word, where_true, where_some, Named, named, want_named, read_tokens}

-- ---- forms; each keeps the place of its bracket

-- "Places: `(it N)`, the N-th binding outward, 0 innermost, the document outermost; `(field "name" P)`."
pub data Place : Type 0 where
  it : (at n : ℕ) → Place
  field : (at : ℕ) (name : Bytes) → Place → Place

-- `(int P)`, `(dec P)`, `(bool P)`, `(text P)`
pub data Conversion : Type 0 where
  to_int to_dec to_bool to_text : Conversion

-- "K is null, bool, int, num, text, list or rec."
pub data Test : Type 0 where
  null bool int num text list rec : Test

mutual
  pub data Result : Type 0 where
    convert : (at : ℕ) → Conversion → Place → Result
    keep : (at : ℕ) → Place → Result
    count : (at : ℕ) → Place → Result
    each : (at : ℕ) → Place → Result → Result
    when : (at : ℕ) → Test → Place → Result → Result → Result
    choose : (at : ℕ) → Result → Result → Result → Result
    -- `(num N)`, `(str "t")`, `(yes)`, `(no)`, `(none)`
    literal : (at : ℕ) → Value → Result
    pack : (at : ℕ) → Pairs → Result

  -- the names and results of a pack
  pub data Pairs : Type 0 where
    no_pairs : Pairs
    pair : Bytes → Result → Pairs → Pairs

-- ---- where in a reader a token stands

-- a form that is open around a result, with the parts before that result
pub data Frame : Type 0 where
  each_body : Place → Frame
  when_first : Test → Place → Frame
  when_second : Test → Place → Result → Frame
  if_first : Frame
  if_second : Result → Frame
  if_third : Result → Result → Frame
  -- the pairs before, latest first, and the name of this one
  pack_part : Pairs → Bytes → Frame

-- what is open around a result, each form with the place of its bracket
pub data Around : Type 0 where
  text_end : Around
  in_form : (at : ℕ) → Frame → Around → Around

-- a result form that is open around a place
pub data PlaceUse : Type 0 where
  converts : Conversion → PlaceUse
  keeps counts maps : PlaceUse
  tests : Test → PlaceUse

-- what is open around a place
pub data PlaceAround : Type 0 where
  -- a place read alone
  place_end : PlaceAround
  in_field : (at : ℕ) (name : Bytes) → PlaceAround → PlaceAround
  in_result : (at : ℕ) → PlaceUse → Around → PlaceAround

-- what must come
pub data Want : Type 0 where
  -- the bracket of a place, then its word
  place_open : PlaceAround → Want
  place_word : (at : ℕ) → PlaceAround → Want
  -- N of `it`, the name of `field`
  it_index : (at : ℕ) → PlaceAround → Want
  field_name : (at : ℕ) → PlaceAround → Want
  place_close : Place → PlaceAround → Want
  -- the bracket of a result, then its word
  result_open : Around → Want
  result_word : (at : ℕ) → Around → Want
  -- K of `when`, N of `num`, the text of `str`
  when_test : (at : ℕ) → Around → Want
  num_number : (at : ℕ) → Around → Want
  str_text : (at : ℕ) → Around → Want
  -- a name, or the bracket that ends the pack
  pack_name : (at : ℕ) → Pairs → Around → Want
  result_close : Result → Around → Want

-- something must come, or the text is whole
pub data State : Type 0 where
  want : Want → State
  whole_place : Place → State
  whole_result : Result → State

-- what comes behind the place of a result form
unfoldable pub use_place : (at : ℕ) → PlaceUse → Place → Around → Want
use_place at (converts c) p o = result_close (Result.convert at c p) o
use_place at keeps p o = result_close (Result.keep at p) o
use_place at counts p o = result_close (Result.count at p) o
use_place at maps p o = result_open (in_form at (each_body p) o)
use_place at (tests k) p o = result_open (in_form at (when_first k p) o)

-- what comes behind a place
unfoldable pub put_place : Place → PlaceAround → State
put_place p place_end = whole_place p
put_place p (in_field at n o) = want (place_close (Place.field at n p) o)
put_place p (in_result at u o) = want (use_place at u p o)

-- what comes behind a result that is a part of a form
unfoldable pub use_result : (at : ℕ) → Frame → Result → Around → Want
use_result at (each_body p) r o = result_close (Result.each at p r) o
use_result at (when_first k p) r o = result_open (in_form at (when_second k p r) o)
use_result at (when_second k p r₁) r o = result_close (Result.when at k p r₁ r) o
use_result at if_first r o = result_open (in_form at (if_second r) o)
use_result at (if_second r₁) r o = result_open (in_form at (if_third r₁ r) o)
use_result at (if_third r₁ r₂) r o = result_close (Result.choose at r₁ r₂ r) o
use_result at (pack_part ps n) r o = pack_name at (pair n r ps) o

-- what comes behind a result
unfoldable pub put_result : Result → Around → State
put_result r text_end = whole_result r
put_result r (in_form at f o) = want (use_result at f r o)

-- how many forms are open
unfoldable pub depth : Around → ℕ
depth text_end = 0
depth (in_form at f o) = suc (depth o)

-- how many forms are open around a place
unfoldable pub place_depth : PlaceAround → ℕ
place_depth place_end = 0
place_depth (in_field at n o) = suc (place_depth o)
place_depth (in_result at u o) = suc (depth o)

-- "`each` binds the element in its R; `when` binds P's value in both its R": the part has a binding of its own
unfoldable pub binds : Frame → Bool
binds (each_body p) = true
binds (when_first k p) = true
binds (when_second k p r) = true
binds if_first = false
binds (if_second r) = false
binds (if_third r₁ r₂) = false
binds (pack_part ps n) = false

-- how many bindings there are, the document's among them
unfoldable pub bindings : Around → ℕ
bindings text_end = 1
bindings (in_form at f o) = elim (binds f) [ true ↦ suc (bindings o) | false ↦ bindings o ]

-- how many bindings a place may reach: "P" of `each` and `when` stands outside the new one
unfoldable pub place_bindings : PlaceAround → ℕ
place_bindings place_end = 1
place_bindings (in_field at n o) = place_bindings o
place_bindings (in_result at u o) = bindings o

-- ---- the grammar

-- the numeral that a word spells, unless it is none or "too large .. (refusal 4's limits)"
unfoldable pub word_number : Bytes → Option Numeral
word_number w = elim (spelled begin no_digits w) [ none ↦ none | some d ↦ elim (beyond d) [ true ↦ none | false ↦ some d ] ]

-- "N of `it` has no minus and no fraction", and does not reach past the document
unfoldable pub index_fits : ℕ → Numeral → Bool
index_fits bound d = not d.negative && eqb d.scale 0 && ltb d.coefficient bound

-- one of these pairs has the name
unfoldable pub among_pairs : Bytes → Pairs → Bool
among_pairs n no_pairs = false
among_pairs n (pair m r ps) = same n m || among_pairs n ps

-- the pairs of the first, last one first, before those of the second
unfoldable pub pairs_onto : Pairs → Pairs → Pairs
pairs_onto no_pairs qs = qs
pairs_onto (pair n r ps) qs = pairs_onto ps (pair n r qs)

-- the words of K
unfoldable pub test_words : List (Named Test)
test_words =
    named (bytes "null") Test.null
    ∷ named (bytes "bool") Test.bool
    ∷ named (bytes "int") Test.int
    ∷ named (bytes "num") Test.num
    ∷ named (bytes "text") Test.text
    ∷ named (bytes "list") Test.list
    ∷ named (bytes "rec") Test.rec
    ∷ []

-- what comes behind the word of a place whose bracket stands at a place
unfoldable pub place_words : List (Named (ℕ → PlaceAround → Want))
place_words = named (bytes "it") (λ at o. it_index at o) ∷ named (bytes "field") (λ at o. field_name at o) ∷ []

-- what comes behind the word of a result whose bracket stands at a place
unfoldable pub result_words : List (Named (ℕ → Around → Want))
result_words =
    named (bytes "int") (λ at o. place_open (in_result at (converts to_int) o))
    ∷ named (bytes "dec") (λ at o. place_open (in_result at (converts to_dec) o))
    ∷ named (bytes "bool") (λ at o. place_open (in_result at (converts to_bool) o))
    ∷ named (bytes "text") (λ at o. place_open (in_result at (converts to_text) o))
    ∷ named (bytes "keep") (λ at o. place_open (in_result at keeps o))
    ∷ named (bytes "count") (λ at o. place_open (in_result at counts o))
    ∷ named (bytes "each") (λ at o. place_open (in_result at maps o))
    ∷ named (bytes "when") (λ at o. when_test at o)
    ∷ named (bytes "if") (λ at o. result_open (in_form at if_first o))
    ∷ named (bytes "num") (λ at o. num_number at o)
    ∷ named (bytes "str") (λ at o. str_text at o)
    ∷ named (bytes "yes") (λ at o. result_close (Result.literal at (Value.bool true)) o)
    ∷ named (bytes "no") (λ at o. result_close (Result.literal at (Value.bool false)) o)
    ∷ named (bytes "none") (λ at o. result_close (Result.literal at Value.null) o)
    ∷ named (bytes "pack") (λ at o. pack_name at no_pairs o)
    ∷ []

-- N of `it`
unfoldable pub index_step : (at : ℕ) → PlaceAround → Numeral → Step State
index_step at o d =
    where_true (index_fits (place_bindings o) d) (go (want (place_close (Place.it at d.coefficient) o)))

-- the part of a literal
unfoldable pub literal_step : (at : ℕ) → Around → Value → Step State
literal_step at o v = go (want (result_close (Result.literal at v) o))

-- behind the pairs of a pack: "zero or more pairs and distinct names"
unfoldable pub pack_step : (at : ℕ) → Pairs → Around → Token → Step State
pack_step at ps o opening = misplaced
pack_step at ps o closing = go (put_result (Result.pack at (pairs_onto ps no_pairs)) o)
pack_step at ps o (quoted n) = where_true (not (among_pairs n ps)) (go (want (result_open (in_form at (pack_part ps n) o))))
pack_step at ps o (word w) = misplaced
pack_step at ps o broken = misplaced

-- what a token does where something must come
unfoldable pub want_step : Want → Placed → Step State
want_step (place_open o) t = want_open t.token (opens (suc (place_depth o)) (want (place_word t.at o)))
want_step (place_word at o) t = want_named place_words t.token (λ f. go (want (f at o)))
want_step (it_index at o) t = want_word t.token (λ w. where_some (word_number w) (λ d. index_step at o d))
want_step (field_name at o) t = want_text t.token (λ n. go (want (place_open (in_field at n o))))
want_step (place_close p o) t = want_close t.token (go (put_place p o))
want_step (result_open o) t = want_open t.token (opens (suc (depth o)) (want (result_word t.at o)))
want_step (result_word at o) t = want_named result_words t.token (λ f. go (want (f at o)))
want_step (when_test at o) t = want_named test_words t.token (λ k. go (want (place_open (in_result at (tests k) o))))
want_step (num_number at o) t =
    want_word t.token (λ w. where_some (word_number w) (λ d. literal_step at o (Value.number (number_of d))))
want_step (str_text at o) t = want_text t.token (λ s. literal_step at o (Value.text s))
want_step (pack_name at ps o) t = pack_step at ps o t.token
want_step (result_close r o) t = want_close t.token (go (put_result r o))

-- what a token does; none may stand behind the whole text
unfoldable pub step : State → Placed → Step State
step (want w) t = want_step w t
step (whole_place p) t = misplaced
step (whole_result r) t = misplaced

-- the reader of a text that may end here
unfoldable pub finished_result : State → Option Result
finished_result (want w) = none
finished_result (whole_place p) = none
finished_result (whole_result r) = some r

-- the place of a text that may end here: of request Q-8, as `read_place` below
unfoldable pub finished_place : State → Option Place
finished_place (want w) = none
finished_place (whole_place p) = some p
finished_place (whole_result r) = none

-- ---- reading

-- what a text with no token means as a reader (request Q-7): `(none)`, "and its place is 0"
unfoldable pub empty_reader : Result
empty_reader = Result.literal 0 Value.null

-- a reader from its tokens, where the text ends at a place
unfoldable pub read_result : Limits → (end : ℕ) → List Placed → Outcome ℕ Result
read_result l end [] = ok empty_reader
read_result l end (t ∷ ts) = read_tokens step finished_result l 0 end (want (result_open text_end)) (t ∷ ts)

-- what reading a reader comes to, with refusals 7 and 8 at their places
unfoldable pub read_reader : Limits → Bytes → Outcome ℕ Result
read_reader l s = read_result l (length s) (tokens s)

-- the same of a place that stands alone, as request Q-8 reads one; no operation of the paper does
unfoldable pub read_place : Limits → Bytes → Outcome ℕ Place
read_place l s = read_tokens step finished_place l 0 (length s) (want (place_open place_end)) (tokens s)
