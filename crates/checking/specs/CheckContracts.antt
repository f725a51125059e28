-- What the functions that check a reader ask and answer. Assumes nothing.
use Rattle.std.specs.Prelude.{ℕ, ◌+◌, ◌≤◌, ◌≡◌, true, List, length, Ok, Err}
use Rattle.std.specs.Prelude as std
use Rattle.definitions.specs.Bytes.{Bytes}
use Rattle.definitions.specs.Outcome.{Outcome, ok}
use Rattle.definitions.specs.Value.{Value}
use Rattle.definitions.specs.Shape.{Kind, Shape, ascending, levels}
use Rattle.definitions.specs.Join.{shape_of}
use Rattle.definitions.specs.Reader.{Place, Conversion, Result}
use Rattle.definitions.specs.Checking.{wants, convert_kinds, convert_shape, field_shape, check_place, check, check_reader}
use Rattle.laws.specs.FormGrammar.{result_levels}
use Rattle.nodes.specs.Nodes.{number_bits, Refers}
use Rattle.plain.specs.Table.{Used}
use Rattle.shapes.specs.Shapes.{kind_bits, Stands}
use Rattle.forms.specs.Forms.{conversion_code, literal_code, LiteralPayload, PlaceStands, FormStands}
use Rattle.reading.specs.declared.Refusal.{Refusal}
use Rattle.reading.specs.Refusals.{refused_as}
use Rattle.shapes.specs.declared.Shape as bits
use Rattle.checking.specs.declared.bindings.Binding.{Binding}
use Rattle.checking.specs.Bindings.{Bound, Bindings, Kept}
use Rattle.checking.specs.WantsLaws.{wanted}

-- ---- what is answered

-- the shape of a place, as it is bound, or why it has none
abbrev pub Located : Type 0
Located = std.Result Binding Refusal

-- the kinds of a result, or why it has none
abbrev pub Checked : Type 0
Checked = std.Result bits.Shape Refusal

-- what an answer tells of the shape of a place
abbrev pub Locates : (shapes p : List ℕ) (deep : ℕ) → Outcome ℕ Shape → Located → Type 0
Locates shapes p deep o (Ok b) = (s : Shape) × (o ≡ ok s) × Bound shapes p deep b.row b.kinds.kinds s
Locates shapes p deep o (Err why) = o ≡ refused_as why

-- what an answer tells of the shape of a result: its kinds alone
abbrev pub Checks : Outcome ℕ Shape → Checked → Type 0
Checks o (Ok k) = (s : Shape) × (o ≡ ok s) × (kind_bits s ≡ k.kinds)
Checks o (Err why) = o ≡ refused_as why

-- ---- the member of a place

-- a name stands in the pool, and a shape at a row
pub record MeetsField (shapes pool p : List ℕ) (deep row kinds k : ℕ) (n : Bytes) (s : Shape) : Type 0 where
  pub pooled : Used pool p
  pub bound : Bound shapes p deep row kinds s
  pub refers : Refers p n k

pub record FieldAsked (shapes pool : List ℕ) (row kinds k : ℕ) : Type 0 where
  pub p : List ℕ
  pub deep : ℕ
  pub name : Bytes
  pub shape : Shape
  pub meets : MeetsField shapes pool p deep row kinds k name shape

abbrev pub GivesField : (shapes pool : List ℕ) (row kinds k place : ℕ) → Located → Type 0
GivesField shapes pool row kinds k place r =
    (p : List ℕ) (deep : ℕ) (n : Bytes) (s : Shape) → MeetsField shapes pool p deep row kinds k n s
    → Locates shapes p deep (field_shape place n s) r

-- ---- a place

pub record MeetsPlace (forms shapes pool bindings p : List ℕ) (row d deep : ℕ) (q : Place) (env : List Shape) : Type 0 where
  pub pooled : Used pool p
  pub stands : PlaceStands forms p row d q
  pub bound : Bindings shapes p bindings deep d env

pub record PlaceAsked (forms shapes pool bindings : List ℕ) (row : ℕ) : Type 0 where
  pub p : List ℕ
  pub d : ℕ
  pub deep : ℕ
  pub place : Place
  pub env : List Shape
  pub meets : MeetsPlace forms shapes pool bindings p row d deep place env

abbrev pub GivesPlace : (forms shapes pool bindings : List ℕ) (row : ℕ) → Located → Type 0
GivesPlace forms shapes pool bindings row r =
    (p : List ℕ) (d deep : ℕ) (q : Place) (env : List Shape) → MeetsPlace forms shapes pool bindings p row d deep q env
    → Locates shapes p deep (check_place q env) r

-- ---- results

pub record MeetsForm (forms shapes pool bindings p : List ℕ) (row d m deep : ℕ) (r : Result) (env : List Shape) : Type 0 where
  pub pooled : Used pool p
  pub stands : FormStands forms p row d m r
  pub bound : Bindings shapes p bindings deep d env
  pub room : d + result_levels r ≤ length bindings + 1

pub record FormAsked (forms shapes pool bindings : List ℕ) (row d : ℕ) : Type 0 where
  pub p : List ℕ
  pub m : ℕ
  pub deep : ℕ
  pub form : Result
  pub env : List Shape
  pub meets : MeetsForm forms shapes pool bindings p row d m deep form env

-- what the answer tells, and what becomes of the bindings
pub record GivesForm (forms shapes pool bindings bindings' : List ℕ) (row d : ℕ) (x : Checked) : Type 0 where
  pub told
      : (p : List ℕ) (m deep : ℕ) (r : Result) (env : List Shape) → MeetsForm forms shapes pool bindings p row d m deep r env
      → Checks (check r env) x
  pub kept : Kept bindings bindings' d

-- ---- a reader

-- a reader's rows, and those of the shape that is bound to the document
pub record MeetsReader (forms shapes pool bindings p : List ℕ) (m deep : ℕ) (r : Result) (s : Shape) : Type 0 where
  pub pooled : Used pool p
  pub stands : FormStands forms p 0 1 0 r
  pub shaped : Stands shapes p 0 m s
  pub ascends : ascending s ≡ true
  pub nests : levels s ≤ deep
  pub room : result_levels r ≤ length bindings

pub record ReaderAsked (forms shapes pool bindings : List ℕ) : Type 0 where
  pub p : List ℕ
  pub m : ℕ
  pub deep : ℕ
  pub form : Result
  pub shape : Shape
  pub meets : MeetsReader forms shapes pool bindings p m deep form shape

abbrev pub ChecksReader : (forms shapes pool bindings : List ℕ) → Checked → Type 0
ChecksReader forms shapes pool bindings x =
    (p : List ℕ) (m deep : ℕ) (r : Result) (s : Shape) → MeetsReader forms shapes pool bindings p m deep r s → Checks (check_reader r s) x

-- ---- what forms want and give

-- what an answer tells where the kinds of a shape are wanted among some, and another shape's kinds are given
abbrev pub TellsWant : (kinds want given place : ℕ) → Checked → Type 0
TellsWant kinds want given place x =
    (ks : List Kind) (s t : Shape) → kind_bits s ≡ kinds → want ≡ wanted ks → kind_bits t ≡ given → Checks (wants place ks s (ok t)) x

-- a conversion wants the kinds that it gives
abbrev pub TellsConversion : (code kinds : ℕ) → Type 0
TellsConversion code kinds =
    (c : Conversion) → code ≡ conversion_code c → (kinds ≡ wanted (convert_kinds c)) × (kind_bits (convert_shape c) ≡ kinds)

abbrev pub TellsLiteral : (code operand payload kinds : ℕ) → Type 0
TellsLiteral code operand payload kinds =
    (p : List ℕ) (v : Value) → 9 ≤ code → code ≡ literal_code v → operand ≡ number_bits v → LiteralPayload p v payload → kind_bits (shape_of v) ≡ kinds

-- the refusal of a place becomes that of a result
abbrev pub PassesUp : Located → Checked → Type 0
PassesUp l x = (why : Refusal) → l ≡ Err why → x ≡ Err why

-- ---- forms without results inside

pub data Simple : Result → Type 0 where
  simple_convert : {at : ℕ} {c : Conversion} {q : Place} → Simple (Result.convert at c q)
  simple_keep : {at : ℕ} {q : Place} → Simple (Result.keep at q)
  simple_count : {at : ℕ} {q : Place} → Simple (Result.count at q)
  simple_literal : {at : ℕ} {v : Value} → Simple (Result.literal at v)

pub record MeetsSimple (forms shapes pool bindings p : List ℕ) (row d m deep : ℕ) (r : Result) (env : List Shape) : Type 0 where
  pub simple : Simple r
  pub pooled : Used pool p
  pub stands : FormStands forms p row d m r
  pub bound : Bindings shapes p bindings deep d env

pub record SimpleAsked (forms shapes pool bindings : List ℕ) (row : ℕ) : Type 0 where
  pub p : List ℕ
  pub d : ℕ
  pub m : ℕ
  pub deep : ℕ
  pub form : Result
  pub env : List Shape
  pub meets : MeetsSimple forms shapes pool bindings p row d m deep form env

abbrev pub GivesSimple : (forms shapes pool bindings : List ℕ) (row : ℕ) → Checked → Type 0
GivesSimple forms shapes pool bindings row x =
    (p : List ℕ) (d m deep : ℕ) (r : Result) (env : List Shape) → MeetsSimple forms shapes pool bindings p row d m deep r env
    → Checks (check r env) x
