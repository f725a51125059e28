-- What joining the shape of a result into a table asks and answers, for the whole and for its parts. The forms of the reader stand
-- in `table`, the shape it was checked against in `shapes`, what it gives in `result`. Assumes nothing.
use Rattle.std.specs.Prelude.{ℕ, ◌+◌, ◌*◌, ◌≤◌, ◌<◌, ◌≡◌, Bool, true, List, length}
use Rattle.definitions.specs.Bytes.{Bytes}
use Rattle.definitions.specs.Outcome.{ok}
use Rattle.definitions.specs.Value.{Value}
use Rattle.definitions.specs.Shape.{Shape, Fields, ascending, ascending_fields, forms, levels}
use Rattle.definitions.specs.Join.{join}
use Rattle.definitions.specs.Reader.{Result, Pairs, among_pairs}
use Rattle.definitions.specs.Checking.{check, check_reader}
use Rattle.laws.specs.FormGrammar.{result_levels, pairs_levels}
use Rattle.laws.specs.Readers.{proper, proper_pairs}
use Rattle.nodes.specs.Nodes.{Refers}
use Rattle.plain.specs.Table.{Used}
use Rattle.shapes.specs.Shapes.{kind_bits, Stands}
use Rattle.shapes.specs.Held.{HoldsShape}
use Rattle.join.specs.Replacing.{Becomes}
use Rattle.std.specs.Prelude.{Option}
use Rattle.std.specs.Prelude.{Some, None}
use Rattle.growing.specs.Growing.{member_start, place, join_in}
use Rattle.growing.specs.Rows.{MeetsFields, FieldsBecome}
use Rattle.forms.specs.Forms.{form_code, form_operand, LiteralPayload, FormStands, PairsStand}
use Rattle.checking.specs.Bindings.{Bound, Bindings}
use Rattle.checking.specs.CheckContracts.{MeetsForm}
use Rattle.result_shape.specs.Results.{Bare, Given}

-- ---- the tables

-- so many words of the result's table are used, and the tables are short
pub record Tables (shapes result : List ℕ) (used : ℕ) : Type 0 where
  pub enough : used ≤ length result
  pub small : length result ≤ 65536
  pub few : length shapes ≤ 65536

-- the kinds that a form gives, where it has no parts to give
abbrev pub TellsBare : (code operand payload kinds : ℕ) → Type 0
TellsBare code operand payload kinds =
    (p : List ℕ) (r : Result) (t : Shape) → code ≡ form_code r → operand ≡ form_operand r
    → ((at : ℕ) (v : Value) → r ≡ Result.literal at v → LiteralPayload p v payload) → Bare r t → kinds ≡ kind_bits t

-- ---- a shape that is kept: what is left of one that stands in the table of shapes

pub record MeetsKept
    (shapes pool result p : List ℕ) (at kinds used dest deep : ℕ) (t : Shape) (name : ℕ) (s : Shape) : Type 0 where
  pub pooled : Used pool p
  pub bound : Bound shapes p deep at kinds t
  pub stands : Stands result p dest name s
  pub within : dest + 2 * forms s ≤ used
  pub ascends : ascending s ≡ true

pub record KeptAsked (shapes pool result : List ℕ) (at kinds used dest deep : ℕ) : Type 0 where
  pub p : List ℕ
  pub given : Shape
  pub name : ℕ
  pub old : Shape
  pub meets : MeetsKept shapes pool result p at kinds used dest deep given name old

-- the shape becomes what `f` makes of it and of what is left of the other
abbrev pub GivesKept
    : (f : Shape → Shape → Shape) (shapes pool result result' : List ℕ) (at kinds used dest deep : ℕ) → Option ℕ → Type 0
GivesKept f shapes pool result result' at kinds used dest deep o =
    (p : List ℕ) (t : Shape) (name : ℕ) (s : Shape) → MeetsKept shapes pool result p at kinds used dest deep t name s
    → Becomes result result' p used dest name s (f s t) o

-- ---- a result

-- the result r passes and gives t, which is to be joined into s
pub record MeetsResult
    (table shapes pool bindings result p : List ℕ) (row d used dest m deep : ℕ) (r : Result) (env : List Shape) (t : Shape) (name : ℕ) (s : Shape)
    : Type 0 where
  pub form : MeetsForm table shapes pool bindings p row d m deep r env
  pub gives : check r env ≡ ok t
  pub once : proper r ≡ true
  pub stands : Stands result p dest name s
  pub within : dest + 2 * forms s ≤ used
  pub ascends : ascending s ≡ true

pub record ResultAsked (table shapes pool bindings result : List ℕ) (row d used dest deep : ℕ) : Type 0 where
  pub p : List ℕ
  pub m : ℕ
  pub form : Result
  pub env : List Shape
  pub given : Shape
  pub name : ℕ
  pub old : Shape
  pub meets : MeetsResult table shapes pool bindings result p row d used dest m deep form env given name old

abbrev pub GivesResult : (table shapes pool bindings result result' : List ℕ) (row d used dest deep : ℕ) → Option ℕ → Type 0
GivesResult table shapes pool bindings result result' row d used dest deep o =
    (p : List ℕ) (m : ℕ) (r : Result) (env : List Shape) (t : Shape) (name : ℕ) (s : Shape)
    → MeetsResult table shapes pool bindings result p row d used dest m deep r env t name s
    → Becomes result result' p used dest name s (join s t) o

-- ---- one of a pack's results into members

pub record MeetsPair
    (table shapes pool bindings result p : List ℕ) (row d used first last deep : ℕ) (n : Bytes) (k : ℕ) (r : Result) (env : List Shape) (t : Shape)
    (fs : Fields)
    : Type 0 where
  pub form : MeetsForm table shapes pool bindings p row d k deep r env
  pub refers : Refers p n k
  pub gives : check r env ≡ ok t
  pub once : proper r ≡ true
  pub fields : MeetsFields result pool used first last p fs
  pub ascend : ascending_fields fs ≡ true

pub record PairAsked (table shapes pool bindings result : List ℕ) (row d used first last deep : ℕ) : Type 0 where
  pub p : List ℕ
  pub label : Bytes
  pub word : ℕ
  pub form : Result
  pub env : List Shape
  pub given : Shape
  pub olds : Fields
  pub meets : MeetsPair table shapes pool bindings result p row d used first last deep label word form env given olds

abbrev pub GivesPair
    : (table shapes pool bindings result result' : List ℕ) (row d used first last deep : ℕ) (had : Bool) → Option ℕ → Type 0
GivesPair table shapes pool bindings result result' row d used first last deep had o =
    (p : List ℕ) (n : Bytes) (k : ℕ) (r : Result) (env : List Shape) (t : Shape) (fs : Fields)
    → MeetsPair table shapes pool bindings result p row d used first last deep n k r env t fs
    → FieldsBecome result result' p used first fs (place n (member_start had) (λ s. join s t) fs) o

-- ---- a pack's results into members

pub record MeetsPairs (table shapes pool bindings p : List ℕ) (row end d deep : ℕ) (ps : Pairs) (env : List Shape) : Type 0 where
  pub pooled : Used pool p
  pub stand : PairsStand table p row end d ps
  pub bound : Bindings shapes p bindings deep d env
  pub room : d + pairs_levels ps ≤ length bindings + 1

pub record MeetsPack
    (table shapes pool bindings result p : List ℕ) (row end d used first last deep : ℕ) (ps : Pairs) (env : List Shape) (gs fs : Fields)
    : Type 0 where
  pub pairs : MeetsPairs table shapes pool bindings p row end d deep ps env
  pub given : Given env ps gs
  pub once : proper_pairs ps ≡ true
  pub fields : MeetsFields result pool used first last p fs
  pub ascend : ascending_fields fs ≡ true

pub record PackAsked (table shapes pool bindings result : List ℕ) (row end d used first last deep : ℕ) : Type 0 where
  pub p : List ℕ
  pub pairs : Pairs
  pub env : List Shape
  pub given : Fields
  pub olds : Fields
  pub meets : MeetsPack table shapes pool bindings result p row end d used first last deep pairs env given olds

abbrev pub GivesPack
    : (table shapes pool bindings result result' : List ℕ) (row end d used first last deep : ℕ) (had : Bool) → Option ℕ → Type 0
GivesPack table shapes pool bindings result result' row end d used first last deep had o =
    (p : List ℕ) (ps : Pairs) (env : List Shape) (gs fs : Fields)
    → MeetsPack table shapes pool bindings result p row end d used first last deep ps env gs fs
    → FieldsBecome result result' p used first fs (join_in gs (member_start had) fs) o

-- the results of a pack stand in the table of forms, and `there` tells which names they have
pub record PairsThere (table : List ℕ) (at end : ℕ) (p : List ℕ) (there : Bytes → Bool) : Type 0 where
  pub bound : ℕ
  pub pairs : Pairs
  pub stand : PairsStand table p at end bound pairs
  pub tells : (n : Bytes) → among_pairs n pairs ≡ there n

-- ---- a reader

-- the reader r passes against the shape s, and gives t
pub record MeetsReader (table shapes pool bindings p : List ℕ) (deep m name : ℕ) (r : Result) (s t : Shape) : Type 0 where
  pub pooled : Used pool p
  pub form : FormStands table p 0 1 m r
  pub stands : Stands shapes p 0 name s
  pub ascends : ascending s ≡ true
  pub nests : levels s ≤ deep
  pub gives : check_reader r s ≡ ok t
  pub once : proper r ≡ true
  pub room : result_levels r ≤ length bindings

pub record ReaderAsked (table shapes pool bindings : List ℕ) (deep : ℕ) : Type 0 where
  pub p : List ℕ
  pub m : ℕ
  pub name : ℕ
  pub reader : Result
  pub shape : Shape
  pub given : Shape
  pub meets : MeetsReader table shapes pool bindings p deep m name reader shape given

-- a table holds the shape t; or one of so many words was too short for it
abbrev pub HoldsGiven : (result' pool : List ℕ) (long : ℕ) (t : Shape) → Option ℕ → Type 0
HoldsGiven result' pool long t (Some words) = HoldsShape result' pool 0 t
HoldsGiven result' pool long t None = long < 2 * forms t

abbrev pub GivesReader : (table shapes pool bindings result' : List ℕ) (deep long : ℕ) → Option ℕ → Type 0
GivesReader table shapes pool bindings result' deep long o =
    (p : List ℕ) (m name : ℕ) (r : Result) (s t : Shape) → MeetsReader table shapes pool bindings p deep m name r s t
    → HoldsGiven result' pool long t o
