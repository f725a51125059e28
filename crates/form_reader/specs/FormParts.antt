-- What the parts of reading a reader answer: each says how `read_tokens` goes from where it starts to where it ends, for every
-- stack of what is open around it, and what it put into the tables. Assumes nothing.
use Rattle.std.specs.Prelude.{ℕ, suc, ◌+◌, ◌-◌, ◌*◌, ◌≤◌, ◌<◌, ◌≡◌, ◌⊎◌, true, false, List, ◌++◌, length, take}
use Rattle.std.proofs.Math.Option.{Option, none, some}
use Rattle.std.specs.Prelude as std
use Rattle.std.specs.Prelude.{Some, None, Ok, Err}
use Rattle.definitions.specs.declared.Limits.{Limits}
use Rattle.definitions.specs.Bytes.{Bytes}
use Rattle.definitions.specs.Outcome.{Outcome}
use Rattle.definitions.specs.Tokens.{closing, word, opens, want_open, want_text, want_word, read_tokens}
use Rattle.definitions.specs.Tokens as Tokens
use Rattle.definitions.specs.Reader.{Place, Result, Pairs, no_pairs, pair, Frame, Around, in_form, PlaceAround, Want, place_open, it_index}
use Rattle.definitions.specs.Reader.{field_name, result_open, State, want, put_place, use_result, put_result, depth, place_depth, bindings}
use Rattle.definitions.specs.Reader.{place_bindings, word_number, index_fits, want_step, step, finished_result, finished_place}
use Rattle.reading.specs.declared.Cursor.{Cursor}
use Rattle.reading.specs.declared.Refusal.{Refusal}
use Rattle.reading.specs.Refusals.{refused_as}
use Rattle.nodes.specs.Nodes.{Refers}
use Rattle.forms.specs.Forms.{slot, PlaceRows, FormRows}
use Rattle.tokens.specs.Expecting.{TextPlaced}
use Rattle.tokens.specs.TokenRead.{tokens_from, word_in, Found}
use Rattle.tokens.specs.Expecting.{a_closing, a_text, Kept, Misses}
use Rattle.form_reader.specs.FormWords.{Started}
use Rattle.form_reader.specs.FormLeads.{Lead, lead_code, named, inner_bound, next, Filled, whole, LeadHeld, NameWord, PartsBefore, Half}
use Rattle.form_reader.specs.FormLeads.{after, HalfHeld}
use Rattle.form_reader.specs.declared.opening.Begun.{Begun}
use Rattle.form_reader.specs.declared.operands.Payload.{Payload}
use Rattle.form_reader.specs.declared.operands.Operand.{Operand}
use Rattle.form_reader.specs.declared.heads.Worded.{Worded}
use Rattle.forms.specs.declared.Row.{Row}
use Rattle.form_reader.specs.declared.heads.Headed.{Headed}
use Rattle.form_reader.specs.declared.parts.Turn.{Turn}
use Rattle.form_reader.specs.declared.parts.Turn.TheVariants.{More, End}

-- ---- reading

-- a reader is read, or a place alone
pub data Aim : Type 0 where
  a_reader a_place : Aim

abbrev pub Meaning : Aim → Type 0
Meaning a_reader = Result
Meaning a_place = Place

unfoldable pub finished : (a : Aim) → State → Option (Meaning a)
finished a_reader q = finished_result q
finished a_place q = finished_place q

-- what is read, and under which limits
pub record Job : Type 0 where
  pub aim : Aim
  pub limits : Limits

-- what reading comes to from a place on that stands between tokens, where n forms are begun
unfoldable pub reading : (x : Job) (n : ℕ) → Bytes → State → ℕ → Outcome ℕ (Meaning x.aim)
reading x n text q at = read_tokens step (finished x.aim) x.limits n (length text) q (tokens_from text at)

-- so many forms may begin, and so much nesting is left inside d forms
pub record Limited (x : Job) (d values left : ℕ) : Type 0 where
  pub most : x.limits.values ≡ values
  pub nests : d + left ≡ x.limits.nesting

-- the same inside o, where there are so many bindings
pub record Within (x : Job) (o : Around) (values left bound : ℕ) : Type 0 where
  pub limited : Limited x (depth o) values left
  pub bindings : bindings o ≡ bound

pub record PlaceWithin (x : Job) (o : PlaceAround) (values left bound : ℕ) : Type 0 where
  pub limited : Limited x (place_depth o) values left
  pub bindings : place_bindings o ≡ bound

-- ---- where reading may go on

-- the tables have room for the forms that may come. A text takes up to 7 bytes more in the pool than it has, of which its
-- quotes pay 2 and its form 5: those of `str` and of a name are the dearest
pub record Ready (text : Bytes) (forms pool : List ℕ) (values bound : ℕ) (c : Cursor) : Type 0 where
  pub short : length text ≤ 65536
  pub within : c.at ≤ length text
  pub rows : 3 * values ≤ length forms
  pub few : values ≤ 32768
  pub limit : c.begun ≤ values
  pub shallow : bound ≤ c.begun + 1
  pub texts : 8 * c.top + length text + 5 * values ≤ 8 * length pool + c.at + 5 * c.begun + 1
  pub small : 8 * c.top + length text + 5 * values < 524288 + c.at + 5 * c.begun

-- rows follow those before row `first`, up to where reading has come
pub record Goes (values : ℕ) (forms pool forms' pool' : List ℕ) (first : ℕ) (from to : Cursor) (rows : List ℕ) : Type 0 where
  pub table : take (3 * to.begun) forms' ≡ take (3 * first) forms ++ rows
  pub counted : 3 * to.begun ≡ 3 * first + length rows
  pub limit : to.begun ≤ values
  pub kept : Kept pool pool' from.top

-- the tables are as long as they were
pub record Sized (forms pool forms' pool' : List ℕ) : Type 0 where
  pub forms_kept : length forms' ≡ length forms
  pub pool_kept : length pool' ≡ length pool

-- ---- brackets

-- a form may begin here, inside d others; f says what comes behind its bracket
pub record OpensAt (w : Want) (d : ℕ) (f : ℕ → Want) : Type 0 where
  pub does : (t : Tokens.Placed) → want_step w t ≡ want_open t.token (opens (suc d) (want (f t.at)))

-- the bracket of a form stands at a place
pub record BracketRead (text : Bytes) (values left : ℕ) (c : Cursor) (place : ℕ) : Type 0 where
  pub run
      : (x : Job) (w : Want) (d : ℕ) (f : ℕ → Want) → OpensAt w d f → Limited x d values left
      → reading x c.begun text (want w) c.at ≡ reading x (suc c.begun) text (want (f place)) (place + 1)
  pub ahead : c.at ≤ place
  pub within : place < length text
  pub begun : c.begun < values
  pub nested : 0 < left

abbrev pub OpenedAnswer : Bytes → (values left : ℕ) → Cursor → std.Result ℕ Refusal → Type 0
OpenedAnswer text values left c (Ok place) = BracketRead text values left c place
OpenedAnswer text values left c (Err e) =
    (x : Job) (w : Want) (d : ℕ) (f : ℕ → Want) → OpensAt w d f → Limited x d values left
    → reading x c.begun text (want w) c.at ≡ refused_as e

pub record OpensForm (text : Bytes) (values left : ℕ) (c : Cursor) (r : std.Result ℕ Refusal) : Type 0 where
  pub answer : OpenedAnswer text values left c r

-- a word must come here, which g judges
pub record WantsWord (w : Want) (g : Bytes → Tokens.Step State) : Type 0 where
  pub does : (t : Tokens.Placed) → want_step w t ≡ want_word t.token g

-- a text
pub record WantsText (w : Want) (g : Bytes → Tokens.Step State) : Type 0 where
  pub does : (t : Tokens.Placed) → want_step w t ≡ want_text t.token g

-- the bracket stands at a place, and a word behind it
pub record WordWasRead (text : Bytes) (values left : ℕ) (c : Cursor) (b : Begun) : Type 0 where
  pub bracket : BracketRead text values left c b.place
  pub found : Found text (b.place + 1) (word (word_in text b.word.place b.word.end)) b.word.place b.word.end

abbrev pub BegunAnswer : Bytes → (values left : ℕ) → Cursor → std.Result Begun Refusal → Type 0
BegunAnswer text values left c (Ok b) = WordWasRead text values left c b
BegunAnswer text values left c (Err e) =
    (x : Job) (w : Want) (d : ℕ) (f : ℕ → Want) (g : ℕ → Bytes → Tokens.Step State) → OpensAt w d f
    → ((p : ℕ) → WantsWord (f p) (g p)) → Limited x d values left
    → reading x c.begun text (want w) c.at ≡ refused_as e

pub record BeginsForm (text : Bytes) (values left : ℕ) (c : Cursor) (r : std.Result Begun Refusal) : Type 0 where
  pub answer : BegunAnswer text values left c r

-- the bracket that ends a form stands up to a place
pub record Closed (text : Bytes) (c to : Cursor) : Type 0 where
  pub place : ℕ
  pub found : Found text c.at closing place to.at
  pub begun : to.begun ≡ c.begun
  pub top : to.top ≡ c.top
  pub further : c.at < to.at
  pub within : to.at ≤ length text

abbrev pub CloseAnswer : Bytes → Cursor → std.Result Cursor Refusal → Type 0
CloseAnswer text c (Ok to) = Closed text c to
CloseAnswer text c (Err e) = Misses a_closing text c.at e

pub record ClosesForm (text : Bytes) (c : Cursor) (r : std.Result Cursor Refusal) : Type 0 where
  pub answer : CloseAnswer text c r

-- ---- N of `it`

-- the index that a word spells, where there are so many bindings
unfoldable pub index_of : (bound : ℕ) → Bytes → Option ℕ
index_of bound w =
    elim (word_number w) [
      | none ↦ none
      | some d ↦ elim (index_fits bound d) [ true ↦ some d.coefficient | false ↦ none ]
    ]

pub record SlotFound (bound : ℕ) (w : Bytes) (s : ℕ) : Type 0 where
  pub index : ℕ
  pub spelled : index_of bound w ≡ some index
  pub slotted : s ≡ slot bound index
  pub bounded : index < bound

abbrev pub SlotAnswer : (bound : ℕ) → Bytes → std.Option ℕ → Type 0
SlotAnswer bound w (Some s) = SlotFound bound w s
SlotAnswer bound w None = index_of bound w ≡ none

pub record IndexRead (text : Bytes) (bound : ℕ) (c : Cursor) (s : ℕ) (to : Cursor) : Type 0 where
  pub index : ℕ
  pub run
      : (x : Job) (n at : ℕ) (o : PlaceAround) → place_bindings o ≡ bound
      → reading x n text (want (it_index at o)) c.at ≡ reading x n text (want (Want.place_close (Place.it at index) o)) to.at
  pub slotted : s ≡ slot bound index
  pub bounded : index < bound
  pub begun : to.begun ≡ c.begun
  pub top : to.top ≡ c.top
  pub ahead : c.at ≤ to.at
  pub within : to.at ≤ length text

abbrev pub IndexAnswer : Bytes → (bound : ℕ) → Cursor → std.Result Payload Refusal → Type 0
IndexAnswer text bound c (Ok s) = IndexRead text bound c s.value s.to
IndexAnswer text bound c (Err e) =
    (x : Job) (n at : ℕ) (o : PlaceAround) → place_bindings o ≡ bound
    → reading x n text (want (it_index at o)) c.at ≡ refused_as e

pub record ReadsIndex (text : Bytes) (bound : ℕ) (c : Cursor) (r : std.Result Payload Refusal) : Type 0 where
  pub answer : IndexAnswer text bound c r

-- ---- texts

-- a text stands there, and in the pool p at a reference
pub record TextRead (text : Bytes) (p : List ℕ) (c : Cursor) (k : ℕ) (to : Cursor) : Type 0 where
  pub bytes : Bytes
  pub place : ℕ
  pub found : Found text c.at (Tokens.quoted bytes) place to.at
  pub refers : Refers (take to.top p) bytes k
  pub begun : to.begun ≡ c.begun
  pub grows : c.top ≤ to.top
  pub room : 8 * to.top + c.at ≤ to.at + 8 * c.top + 5

abbrev pub TextAnswer : Bytes → List ℕ → Cursor → std.Result Payload Refusal → Type 0
TextAnswer text p c (Ok t) = TextRead text p c t.value t.to
TextAnswer text p c (Err e) = Misses a_text text c.at e

pub record ReadsText (text : Bytes) (p p' : List ℕ) (c : Cursor) (r : std.Result Payload Refusal) : Type 0 where
  pub answer : TextAnswer text p' c r
  pub kept : Kept p p' c.top

-- ---- what stands behind the word of a result

-- behind the word, where f says what comes, a result is read up to its place or its results
pub record OperandRead
    (f : ℕ → Around → Want) (code : ℕ) (text : Bytes) (p : List ℕ) (c : Cursor) (operand payload : ℕ) (to : Cursor) : Type 0 where
  pub half : Half
  pub run
      : (x : Job) (n at : ℕ) (o : Around) → reading x n text (want (f at o)) c.at ≡ reading x n text (want (after half at o)) to.at
  pub held : HalfHeld (take to.top p) half code operand payload
  pub begun : to.begun ≡ c.begun
  pub ahead : c.at ≤ to.at
  pub within : to.at ≤ length text
  pub grows : c.top ≤ to.top
  pub room : 8 * to.top + c.at ≤ to.at + 8 * c.top + 5
  pub bare : (to.top ≡ c.top) ⊎ (code ≡ 13)

abbrev pub OperandAnswer : (ℕ → Around → Want) → (code : ℕ) → Bytes → List ℕ → Cursor → std.Result Operand Refusal → Type 0
OperandAnswer f code text p c (Ok n) = OperandRead f code text p c n.operand n.payload n.to
OperandAnswer f code text p c (Err e) =
    (x : Job) (n at : ℕ) (o : Around) → reading x n text (want (f at o)) c.at ≡ refused_as e

pub record ReadsTest (text : Bytes) (c : Cursor) (r : std.Result Operand Refusal) : Type 0 where
  pub answer : (p : List ℕ) → OperandAnswer (λ at o. Want.when_test at o) 10 text p c r

pub record ReadsNumber (text : Bytes) (c : Cursor) (r : std.Result Operand Refusal) : Type 0 where
  pub answer : (p : List ℕ) → OperandAnswer (λ at o. Want.num_number at o) 12 text p c r

pub record ReadsOperand (text : Bytes) (p p' : List ℕ) (code : ℕ) (c : Cursor) (r : std.Result Operand Refusal) : Type 0 where
  pub answer : (f : ℕ → Around → Want) → Started code f → OperandAnswer f code text p' c r
  pub kept : Kept p p' c.top

-- ---- places

-- where reading stands behind the word of a place whose bracket stands at a place; its row is the one before
pub record BehindBracket (text : Bytes) (forms pool : List ℕ) (values bound place : ℕ) (c : Cursor) : Type 0 where
  pub ready : Ready text forms pool values bound c
  pub begun : 0 < c.begun
  pub near : place < 65536
  -- what its bracket, its word and its own count give
  pub spare : 8 * c.top + length text + 5 * values + 7 ≤ 8 * length pool + c.at + 5 * c.begun + 1
  pub spare_small : 8 * c.top + length text + 5 * values + 7 < 524288 + c.at + 5 * c.begun

-- a place has been read from a state on, and its rows follow those before row `first`
pub record PlaceDone
    (w : PlaceAround → Want) (left values bound : ℕ) (text : Bytes) (forms pool forms' pool' : List ℕ) (first : ℕ) (c to : Cursor)
    : Type 0 where
  pub place : Place
  pub run
      : (x : Job) (o : PlaceAround) → PlaceWithin x o values left bound
      → reading x c.begun text (want (w o)) c.at ≡ reading x to.begun text (put_place place o) to.at
  pub rows : List ℕ
  pub held : PlaceRows (take to.top pool') bound place rows
  pub goes : Goes values forms pool forms' pool' first c to rows
  pub ahead : c.at < to.at
  pub within : to.at ≤ length text
  pub grows : c.top ≤ to.top
  pub room : 8 * to.top + c.at + 5 * c.begun ≤ to.at + 5 * to.begun + 8 * c.top + 7 * (c.begun - first)

abbrev pub PlaceAnswer
    : (w : PlaceAround → Want) (left values bound : ℕ) (text : Bytes) (forms pool forms' pool' : List ℕ) (first : ℕ) (c : Cursor)
    → std.Result Cursor Refusal → Type 0
PlaceAnswer w left values bound text forms pool forms' pool' first c (Ok to) =
    PlaceDone w left values bound text forms pool forms' pool' first c to
PlaceAnswer w left values bound text forms pool forms' pool' first c (Err e) =
    (x : Job) (o : PlaceAround) → PlaceWithin x o values left bound
    → reading x c.begun text (want (w o)) c.at ≡ refused_as e

-- the answer r behind the word `it`, and behind `field`, inside which so much nesting is left; the tables were forms and pool
pub record ReadsIt
    (values bound : ℕ) (text : Bytes) (forms pool forms' pool' : List ℕ) (place : ℕ) (c : Cursor) (r : std.Result Cursor Refusal) : Type 0 where
  pub answer
      : (left : ℕ) → PlaceAnswer (λ o. it_index place o) left values bound text forms pool forms' pool' (c.begun - 1) c r
  pub sized : Sized forms pool forms' pool'

pub record ReadsField
    (left values bound : ℕ) (text : Bytes) (forms pool forms' pool' : List ℕ) (place : ℕ) (c : Cursor) (r : std.Result Cursor Refusal) : Type 0 where
  pub answer
      : PlaceAnswer (λ o. field_name place o) (suc left) values bound text forms pool forms' pool' (c.begun - 1) c r
  pub sized : Sized forms pool forms' pool'

-- the answer r where a place must begin
pub record ReadsPlace
    (left values bound : ℕ) (text : Bytes) (forms pool forms' pool' : List ℕ) (c : Cursor) (r : std.Result Cursor Refusal) : Type 0 where
  pub answer : PlaceAnswer (λ o. place_open o) left values bound text forms pool forms' pool' c.begun c r
  pub sized : Sized forms pool forms' pool'

-- ---- what a result begins with

-- reading a result that must begin at c is refused
abbrev pub ResultRefused : Bytes → (values left bound : ℕ) → Cursor → Refusal → Type 0
ResultRefused text values left bound c e =
    (x : Job) (o : Around) → Within x o values left bound
    → reading x c.begun text (want (result_open o)) c.at ≡ refused_as e

abbrev pub LimitedRefused : Bytes → (values left : ℕ) → Cursor → Refusal → Type 0
LimitedRefused text values left c e =
    (x : Job) (o : Around) → Limited x (depth o) values left
    → reading x c.begun text (want (result_open o)) c.at ≡ refused_as e

-- the bracket, which stands at a place, and the word of a result
pub record ResultBegun (text : Bytes) (values left : ℕ) (c : Cursor) (code place : ℕ) (to : Cursor) : Type 0 where
  pub behind : ℕ → Around → Want
  pub started : Started code behind
  pub run
      : (x : Job) (o : Around) → Limited x (depth o) values left
      → reading x c.begun text (want (result_open o)) c.at ≡ reading x to.begun text (want (behind place o)) to.at
  pub begun : to.begun ≡ suc c.begun
  pub top : to.top ≡ c.top
  pub ahead : c.at + 2 ≤ to.at
  pub longer : code ≡ 13 → c.at + 4 ≤ to.at
  pub within : to.at ≤ length text
  pub near : place < length text
  pub limit : c.begun < values
  pub nested : 0 < left

abbrev pub WordedAnswer : Bytes → (values left : ℕ) → Cursor → std.Result Worded Refusal → Type 0
WordedAnswer text values left c (Ok w) = ResultBegun text values left c w.code w.place w.to
WordedAnswer text values left c (Err e) = LimitedRefused text values left c e

pub record BeginsResult (text : Bytes) (values left : ℕ) (c : Cursor) (r : std.Result Worded Refusal) : Type 0 where
  pub answer : WordedAnswer text values left c r

-- a result has been read up to its place or its results
pub record HeadRead (text : Bytes) (p : List ℕ) (values left : ℕ) (c : Cursor) (row : Row) (to : Cursor) : Type 0 where
  pub half : Half
  pub run
      : (x : Job) (o : Around) → Limited x (depth o) values left
      → reading x c.begun text (want (result_open o)) c.at
      ≡ reading x to.begun text (want (after half row.place o)) to.at
  pub held : HalfHeld (take to.top p) half row.code row.operand row.payload
  pub begun : to.begun ≡ suc c.begun
  pub ahead : c.at ≤ to.at
  pub within : to.at ≤ length text
  pub grows : c.top ≤ to.top
  pub room : 8 * to.top + c.at ≤ to.at + 8 * c.top + 1
  pub bare : row.code ≡ 17 → 8 * to.top + c.at ≤ to.at + 8 * c.top
  pub near : row.place < length text
  pub limit : c.begun < values
  pub nested : 0 < left

abbrev pub HeadAnswer : Bytes → List ℕ → (values left : ℕ) → Cursor → std.Result Headed Refusal → Type 0
HeadAnswer text p values left c (Ok h) = HeadRead text p values left c h.row h.to
HeadAnswer text p values left c (Err e) = LimitedRefused text values left c e

pub record ReadsHead (text : Bytes) (p p' : List ℕ) (values left : ℕ) (c : Cursor) (r : std.Result Headed Refusal) : Type 0 where
  pub answer : HeadAnswer text p' values left c r
  pub kept : Kept p p' c.top

-- a result has been read up to its results; the rows of its place follow its own
pub record LeadRead
    (left values bound : ℕ) (text : Bytes) (forms pool forms' pool' : List ℕ) (c : Cursor) (row : Row) (to : Cursor) : Type 0 where
  pub lead : Lead
  pub run
      : (x : Job) (o : Around) → Within x o values left bound
      → reading x c.begun text (want (result_open o)) c.at
      ≡ reading x to.begun text (want (next lead no_pairs row.place o)) to.at
  pub rows : List ℕ
  pub held : LeadHeld (take to.top pool') bound lead row.code row.operand row.payload rows
  pub goes : Goes values forms pool forms' pool' (suc c.begun) c to rows
  pub ahead : c.at ≤ to.at
  pub within : to.at ≤ length text
  pub grows : c.top ≤ to.top
  -- what its bracket and its own count give; a pack has more
  pub room : 8 * to.top + c.at + 5 * c.begun + 4 ≤ to.at + 5 * to.begun + 8 * c.top
  pub bare : row.code ≡ 17 → 8 * to.top + c.at + 5 * c.begun + 5 ≤ to.at + 5 * to.begun + 8 * c.top
  pub near : row.place < length text
  pub nested : 0 < left

abbrev pub LeadAnswer
    : (left values bound : ℕ) (text : Bytes) (forms pool forms' pool' : List ℕ) (c : Cursor) → std.Result Headed Refusal → Type 0
LeadAnswer left values bound text forms pool forms' pool' c (Ok h) =
    LeadRead left values bound text forms pool forms' pool' c h.row h.to
LeadAnswer left values bound text forms pool forms' pool' c (Err e) = ResultRefused text values left bound c e

pub record ReadsLead
    (left values bound : ℕ) (text : Bytes) (forms pool forms' pool' : List ℕ) (c : Cursor) (r : std.Result Headed Refusal) : Type 0 where
  pub answer : LeadAnswer left values bound text forms pool forms' pool' c r
  pub sized : Sized forms pool forms' pool'

-- ---- the results inside a result

-- the rows of the results so far, whose first row is `first`, up to row `begun`; p is the used part of the pool
pub record SoFar (forms p : List ℕ) (first begun : ℕ) (lead : Lead) (ps : Pairs) : Type 0 where
  pub bound : ℕ
  pub rows : List ℕ
  pub held : PartsBefore p bound (named lead) ps rows
  pub table : take (3 * begun) forms ≡ take (3 * first) forms ++ rows
  pub counted : 3 * begun ≡ 3 * first + length rows
  pub inside : 3 * begun ≤ length forms

-- what a name of a pack costs more than its text's bytes
unfoldable pub debt : Lead → ℕ
debt (Lead.with_place u q) = 0
debt Lead.choosing = 0
debt Lead.packing = 5
debt (Lead.saying v) = 0

-- a result must come next, under a name
pub record PartNext (lead : Lead) (ps : Pairs) (text : Bytes) (p : List ℕ) (c from : Cursor) (name more : ℕ) : Type 0 where
  pub bytes : Bytes
  pub frame : Frame
  pub run
      : (x : Job) (n at : ℕ) (o : Around)
      → reading x n text (want (next lead ps at o)) c.at ≡ reading x n text (want (result_open (in_form at frame o))) from.at
  pub then : (r : Result) (at : ℕ) (o : Around) → use_result at frame r o ≡ next lead (pair bytes r ps) at o
  pub filled : (r : Result) → Filled lead (pair bytes r ps) more
  pub binding : (at bound : ℕ) (o : Around) → bindings o ≡ bound → bindings (in_form at frame o) ≡ inner_bound (lead_code lead) bound
  pub word : NameWord (take from.top p) (named lead) bytes name
  pub begun : from.begun ≡ c.begun
  pub ahead : c.at ≤ from.at
  pub within : from.at ≤ length text
  pub grows : c.top ≤ from.top
  pub room : 8 * from.top + c.at ≤ from.at + 8 * c.top + debt lead

-- none comes, and the bracket behind them has been read
pub record PartsEnd (lead : Lead) (ps : Pairs) (text : Bytes) (c to : Cursor) : Type 0 where
  pub run
      : (x : Job) (n at : ℕ) (o : Around)
      → reading x n text (want (next lead ps at o)) c.at ≡ reading x n text (put_result (whole at lead ps) o) to.at
  pub filled : Filled lead ps 0
  pub begun : to.begun ≡ c.begun
  pub top : to.top ≡ c.top
  pub further : c.at < to.at
  pub within : to.at ≤ length text

abbrev pub TurnIs : (lead : Lead) (ps : Pairs) (text : Bytes) (p : List ℕ) (c : Cursor) → std.Result Turn Refusal → Type 0
TurnIs lead ps text p c (Ok (More from name more)) = PartNext lead ps text p c from name more
TurnIs lead ps text p c (Ok (End to)) = PartsEnd lead ps text c to
TurnIs lead ps text p c (Err e) =
    (x : Job) (n at : ℕ) (o : Around) → reading x n text (want (next lead ps at o)) c.at ≡ refused_as e

-- where a pack's next pair must come: some pairs stand there
pub record PairsKnown (text : Bytes) (forms pool : List ℕ) (first : ℕ) (c : Cursor) : Type 0 where
  pub placed : TextPlaced text pool c.at c.top
  pub few : c.begun ≤ 32768
  pub pairs : Pairs
  pub so_far : SoFar forms (take c.top pool) first c.begun Lead.packing pairs

-- the answer r where a name or the end of a pack must come
pub record PairTurns (text : Bytes) (forms p p' : List ℕ) (first : ℕ) (c : Cursor) (r : std.Result Turn Refusal) : Type 0 where
  pub answer
      : (ps : Pairs) → SoFar forms (take c.top p) first c.begun Lead.packing ps → TurnIs Lead.packing ps text p' c r
  pub kept : Kept p p' c.top

-- where a result's next result must come: some results of some lead of this code stand there
pub record PartsKnown (text : Bytes) (forms pool : List ℕ) (code more first : ℕ) (c : Cursor) : Type 0 where
  pub placed : TextPlaced text pool c.at c.top
  pub few : c.begun ≤ 32768
  pub lead : Lead
  pub coded : lead_code lead ≡ code
  pub pairs : Pairs
  pub filled : Filled lead pairs more
  pub so_far : SoFar forms (take c.top pool) first c.begun lead pairs

-- the answer r where a result, a name or the end must come
pub record Turns (text : Bytes) (forms p p' : List ℕ) (code more first : ℕ) (c : Cursor) (r : std.Result Turn Refusal) : Type 0 where
  pub answer
      : (lead : Lead) (ps : Pairs) → lead_code lead ≡ code → Filled lead ps more
      → SoFar forms (take c.top p) first c.begun lead ps → TurnIs lead ps text p' c r
  pub kept : Kept p p' c.top

-- ---- results

-- where the results of a result of this code must come
pub record PartsReady (text : Bytes) (forms pool : List ℕ) (values bound code : ℕ) (c : Cursor) : Type 0 where
  pub ready : Ready text forms pool values bound c
  pub lead : Lead
  pub coded : lead_code lead ≡ code
  pub inner : inner_bound code bound ≤ c.begun + 1
  -- a name costs 5 bytes more than its text's, which the result behind it pays back
  pub spare : code ≡ 17 → 8 * c.top + length text + 5 * values + 5 ≤ 8 * length pool + c.at + 5 * c.begun + 1
  pub spare_small : code ≡ 17 → 8 * c.top + length text + 5 * values + 5 < 524288 + c.at + 5 * c.begun

-- a result has been read; its rows follow those before it
pub record ResultDone
    (left values bound : ℕ) (text : Bytes) (forms pool forms' pool' : List ℕ) (name : ℕ) (c to : Cursor) : Type 0 where
  pub form : Result
  pub run
      : (x : Job) (o : Around) → Within x o values left bound
      → reading x c.begun text (want (result_open o)) c.at ≡ reading x to.begun text (put_result form o) to.at
  pub rows : List ℕ
  pub held : FormRows (take to.top pool') bound name form rows
  pub goes : Goes values forms pool forms' pool' c.begun c to rows
  pub further : c.at < to.at
  pub within : to.at ≤ length text
  pub grows : c.top ≤ to.top
  pub room : 8 * to.top + c.at + 5 * c.begun + 5 ≤ to.at + 5 * to.begun + 8 * c.top

abbrev pub ResultAnswer
    : (left values bound : ℕ) (text : Bytes) (forms pool forms' pool' : List ℕ) (name : ℕ) (c : Cursor)
    → std.Result Cursor Refusal → Type 0
ResultAnswer left values bound text forms pool forms' pool' name c (Ok to) =
    ResultDone left values bound text forms pool forms' pool' name c to
ResultAnswer left values bound text forms pool forms' pool' name c (Err e) = ResultRefused text values left bound c e

-- the answer r where a result must begin, and the tables that were forms and pool
pub record ReadsResult
    (left values bound : ℕ) (text : Bytes) (forms pool forms' pool' : List ℕ) (name : ℕ) (c : Cursor) (r : std.Result Cursor Refusal) : Type 0 where
  pub answer : ResultAnswer left values bound text forms pool forms' pool' name c r
  pub sized : Sized forms pool forms' pool'

-- results have been read, latest first, and w says what must come
pub record PartsRead
    (lead : Lead) (w : (at : ℕ) → Around → State) (ps : Pairs) (left values bound : ℕ) (text : Bytes) (forms pool forms' pool' : List ℕ)
    (c to : Cursor)
    : Type 0 where
  pub run
      : (x : Job) (at : ℕ) (o : Around) → Within x o values (suc left) bound
      → reading x c.begun text (want (next lead no_pairs at o)) c.at ≡ reading x to.begun text (w at o) to.at
  pub rows : List ℕ
  pub held : PartsBefore (take to.top pool') (inner_bound (lead_code lead) bound) (named lead) ps rows
  pub goes : Goes values forms pool forms' pool' c.begun c to rows
  pub ahead : c.at ≤ to.at
  pub within : to.at ≤ length text
  pub grows : c.top ≤ to.top

-- all of them and the closing bracket
pub record PartsDone
    (lead : Lead) (left values bound : ℕ) (text : Bytes) (forms pool forms' pool' : List ℕ) (c to : Cursor) : Type 0 where
  pub parts : Pairs
  pub filled : Filled lead parts 0
  pub read : PartsRead lead (λ at o. put_result (whole at lead parts) o) parts left values bound text forms pool forms' pool' c to
  pub room : 8 * to.top + c.at + 5 * c.begun + 1 ≤ to.at + 5 * to.begun + 8 * c.top
  pub further : c.at < to.at

abbrev pub PartsAnswer
    : (lead : Lead) (left values bound : ℕ) (text : Bytes) (forms pool forms' pool' : List ℕ) (c : Cursor)
    → std.Result Cursor Refusal → Type 0
PartsAnswer lead left values bound text forms pool forms' pool' c (Ok to) =
    PartsDone lead left values bound text forms pool forms' pool' c to
PartsAnswer lead left values bound text forms pool forms' pool' c (Err e) =
    (x : Job) (at : ℕ) (o : Around) → Within x o values (suc left) bound
    → reading x c.begun text (want (next lead no_pairs at o)) c.at ≡ refused_as e

-- the answer r where the results of a result must come, and the tables that were forms and pool
pub record ReadsParts
    (lead : Lead) (left values bound : ℕ) (text : Bytes) (forms pool forms' pool' : List ℕ) (c : Cursor) (r : std.Result Cursor Refusal) : Type 0 where
  pub answer : PartsAnswer lead left values bound text forms pool forms' pool' c r
  pub sized : Sized forms pool forms' pool'

-- the next result must come, under a name
pub record PartBegun
    (lead : Lead) (left values bound : ℕ) (text : Bytes) (forms pool forms' pool' : List ℕ) (c from : Cursor) (name more : ℕ)
    : Type 0 where
  pub bytes : Bytes
  pub frame : Frame
  pub parts : Pairs
  pub read
      : PartsRead lead (λ at o. want (result_open (in_form at frame o))) parts left values bound text forms pool forms' pool' c from
  pub then : (r : Result) (at : ℕ) (o : Around) → use_result at frame r o ≡ next lead (pair bytes r parts) at o
  pub filled : (r : Result) → Filled lead (pair bytes r parts) more
  pub binding : (at : ℕ) (o : Around) → bindings o ≡ bound → bindings (in_form at frame o) ≡ inner_bound (lead_code lead) bound
  pub word : NameWord (take from.top pool') (named lead) bytes name
  pub room : 8 * from.top + c.at + 5 * c.begun ≤ from.at + 5 * from.begun + 8 * c.top + debt lead
  pub sized : Sized forms pool forms' pool'

abbrev pub TurnAnswer
    : (lead : Lead) (left values bound : ℕ) (text : Bytes) (forms pool forms' pool' : List ℕ) (c : Cursor)
    → std.Result Turn Refusal → Type 0
TurnAnswer lead left values bound text forms pool forms' pool' c (Ok (More from name more)) =
    PartBegun lead left values bound text forms pool forms' pool' c from name more
TurnAnswer lead left values bound text forms pool forms' pool' c (Ok (End to)) =
    ReadsParts lead left values bound text forms pool forms' pool' c (Ok to)
TurnAnswer lead left values bound text forms pool forms' pool' c (Err e) =
    ReadsParts lead left values bound text forms pool forms' pool' c (Err e)

-- so many of them must still come behind those that have been read
pub record PartsGone
    (lead : Lead) (left values bound : ℕ) (text : Bytes) (forms pool forms' pool' : List ℕ) (c to : Cursor) (more : ℕ)
    : Type 0 where
  pub parts : Pairs
  pub filled : Filled lead parts more
  pub read : PartsRead lead (λ at o. want (next lead parts at o)) parts left values bound text forms pool forms' pool' c to
  pub room : 8 * to.top + c.at + 5 * c.begun ≤ to.at + 5 * to.begun + 8 * c.top
  pub sized : Sized forms pool forms' pool'
