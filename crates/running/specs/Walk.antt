-- What running a form asks of its tables, and what it answers. Assumes nothing.
use Rattle.std.specs.Prelude.{ℕ, ◌+◌, ◌*◌, ◌%◌, ◌≤◌, ◌<◌, ◌≡◌, true, false, List, ◌∷◌, ◌++◌, length, get_or, take, Ok, Err}
use Rattle.std.specs.Prelude as std
use Rattle.definitions.specs.declared.Limits.{Limits}
use Rattle.definitions.specs.Outcome.{Outcome, refused, ◌>>=◌}
use Rattle.definitions.specs.Value.{Value, count, size}
use Rattle.definitions.specs.Shape.{among}
use Rattle.definitions.specs.Admits.{kind_of}
use Rattle.definitions.specs.Reader.{Place, Result}
use Rattle.definitions.specs.Checking.{convert_kinds, list_kinds, test_kinds}
use Rattle.definitions.specs.Running.{Ran, gives, stuck_unless, converted, items_of, int_value, run_place, run_items, run}
use Rattle.laws.specs.FormGrammar.{result_levels}
use Rattle.laws.specs.Good.{GoodReader}
use Rattle.nodes.specs.Nodes.{kind_code, Rows}
use Rattle.plain.specs.Table.{BoundedNumbers, Used}
use Rattle.forms.specs.Forms.{PlaceStands, FormStands}
use Rattle.running.specs.declared.going.Cursor.{Cursor}
use Rattle.reading.specs.declared.Refusal.{Refusal}
use Rattle.reading.specs.Refusals.{refused_as}
use Rattle.running.specs.declared.going.At.{At}
use Rattle.running.specs.declared.going.Done.{Done}
use Rattle.running.specs.Bindings.{Bound, Binds}

-- ---- running a form with a place, in two

-- the value of its place, where the form is not stuck on it
unfoldable pub operand : Result → Limits → List Value → ℕ → Outcome ℕ (Ran Value)
operand (Result.convert at c p) l env n =
    run_place p l env n >>= λ x. stuck_unless at (convert_kinds c) x.result (gives x.result x.steps)
operand (Result.keep at p) l env n = run_place p l env n
operand (Result.count at p) l env n =
    run_place p l env n >>= λ x. stuck_unless at list_kinds x.result (gives x.result x.steps)
operand (Result.each at p r) l env n =
    run_place p l env n >>= λ x. stuck_unless at list_kinds x.result (gives x.result x.steps)
operand (Result.when at k p r₁ r₂) l env n = run_place p l env n
operand (Result.choose at r₁ r₂ r₃) l env n = refused 0 at
operand (Result.literal at v) l env n = refused 0 at
operand (Result.pack at ps) l env n = refused 0 at

-- what it does with that value
unfoldable pub follow : Result → Limits → List Value → Value → ℕ → Outcome ℕ (Ran Value)
follow (Result.convert at c p) l env v n = gives (converted c v) n
follow (Result.keep at p) l env v n = gives v n
follow (Result.count at p) l env v n = gives (int_value (count (items_of v))) n
follow (Result.each at p r) l env v n =
    run_items (λ w n₂. run r l (w ∷ env) n₂) (items_of v) n >>= λ xs. gives (Value.list xs.result) xs.steps
follow (Result.when at k p r₁ r₂) l env v n =
    elim (among (kind_of v) (test_kinds k)) [ true ↦ run r₁ l (v ∷ env) n | false ↦ run r₂ l (v ∷ env) n ]
follow (Result.choose at r₁ r₂ r₃) l env v n = refused 0 at
follow (Result.literal at v) l env w n = refused 0 at
follow (Result.pack at ps) l env v n = refused 0 at

-- ---- what is asked

-- a form of the table and what is bound at it
pub record Meets (forms nodes pool bindings : List ℕ) (limit row bound : ℕ) (l : Limits) (p : List ℕ) (r : Result) (env : List Value) : Type 0 where
  pub limited : l.steps ≡ limit
  pub pooled : Used pool p
  pub name : ℕ
  pub stands : FormStands forms p row bound name r
  pub good : GoodReader r
  pub counted : length env ≡ bound
  pub binds : Binds nodes p bindings env
  -- each form binds one value at most, and one without results inside binds none
  pub room : bound + result_levels r ≤ length bindings + 1

-- a place of the table, in the same way
pub record MeetsPlace (forms nodes pool bindings : List ℕ) (limit row : ℕ) (l : Limits) (p : List ℕ) (q : Place) (env : List Value) : Type 0 where
  pub limited : l.steps ≡ limit
  pub pooled : Used pool p
  pub bound : ℕ
  pub stands : PlaceStands forms p row bound q
  pub counted : length env ≡ bound
  pub binds : Binds nodes p bindings env
  pub room : bound ≤ length bindings

-- tables and limits that are no longer than counters and lengths can tell
pub record SmallTables (nodes results : List ℕ) (limit : ℕ) : Type 0 where
  pub rows : length nodes ≤ 65536
  pub parts : length results ≤ 65536
  pub steps : limit ≤ 65536

-- a step begins no more rows than the document has, so that their count has room in a word
abbrev pub Paid : (begun steps : ℕ) → Type 0
Paid begun steps = begun ≤ 65536 + 65536 * steps

pub record PlaceReady (forms nodes pool bindings : List ℕ) (limit row steps : ℕ) : Type 0 where
  pub limits : Limits
  pub used : List ℕ
  pub place : Place
  pub env : List Value
  pub meets : MeetsPlace forms nodes pool bindings limit row limits used place env
  pub small : length nodes ≤ 65536
  pub few : limit ≤ 65536

-- a form with a place: its code is that of `when` or less
pub record OperandReady (forms nodes pool bindings : List ℕ) (limit row bound steps : ℕ) : Type 0 where
  pub limits : Limits
  pub used : List ℕ
  pub form : Result
  pub env : List Value
  pub meets : Meets forms nodes pool bindings limit row bound limits used form env
  pub placed : get_or forms row 0 % 32 ≤ 10
  pub small : length nodes ≤ 65536
  pub few : limit ≤ 65536

pub record Ready (forms nodes pool bindings results : List ℕ) (limit : ℕ) (c : Cursor) : Type 0 where
  pub limits : Limits
  pub used : List ℕ
  pub form : Result
  pub env : List Value
  pub meets : Meets forms nodes pool bindings limit c.row c.bound limits used form env
  pub small : SmallTables nodes results limit
  pub paid : Paid c.begun c.steps

-- the form is entered, and has this code
pub record Entered (forms nodes pool bindings results : List ℕ) (limit : ℕ) (c : Cursor) (code : ℕ) : Type 0 where
  pub ready : Ready forms nodes pool bindings results limit c
  pub left : c.steps < limit
  pub coded : get_or forms c.row 0 % 32 ≡ code

-- its place has given the value at a row, and its code lies between two
pub record Following (forms nodes pool bindings results : List ℕ) (limit : ℕ) (c : Cursor) (at steps from to : ℕ) : Type 0 where
  pub ready : Ready forms nodes pool bindings results limit c
  pub value : Value
  pub bound : Bound nodes ready.used at value
  pub counted : c.steps < steps
  pub left : steps ≤ limit
  pub late : from ≤ get_or forms c.row 0 % 32
  pub early : get_or forms c.row 0 % 32 ≤ to

-- a branch of the form at c
abbrev pub branch : Cursor → (row bound steps : ℕ) → Cursor
branch c row bound steps = record { row = row; name = c.name; bound = bound; begun = c.begun; steps = steps }

-- ---- what is answered

-- the value of a place, or why it has none
abbrev pub Seen : Type 0
Seen = std.Result At Refusal

-- the value of a form, or why it has none
abbrev pub Part : Type 0
Part = std.Result Done Refusal

-- the place comes to a value at a row
pub record SeenAt (o : Outcome ℕ (Ran Value)) (nodes p : List ℕ) (limit n at steps : ℕ) : Type 0 where
  pub value : Value
  pub ran : o ≡ gives value steps
  pub bound : Bound nodes p at value
  pub counted : n ≤ steps
  pub left : steps ≤ limit

abbrev pub Sees : Outcome ℕ (Ran Value) → (nodes p : List ℕ) → (limit n : ℕ) → Seen → Type 0
Sees o nodes p limit n (Ok here) = SeenAt o nodes p limit n here.row here.steps
Sees o nodes p limit n (Err why) = o ≡ refused_as why

pub record SeesPlace (forms nodes pool bindings : List ℕ) (limit row steps : ℕ) (r : Seen) : Type 0 where
  pub told
      : (l : Limits) (p : List ℕ) (q : Place) (env : List Value) → MeetsPlace forms nodes pool bindings limit row l p q env
      → Sees (run_place q l env steps) nodes p limit steps r

pub record SeesOperand (forms nodes pool bindings : List ℕ) (limit row bound steps : ℕ) (r : Seen) : Type 0 where
  pub told
      : (l : Limits) (p : List ℕ) (form : Result) (env : List Value) → Meets forms nodes pool bindings limit row bound l p form env
      → Sees (operand form l env steps) nodes p limit steps r

-- the rows of a value are put behind those that are begun; p is the used part of the pool
pub record Appended (p before after : List ℕ) (name begun : ℕ) (v : Value) : Type 0 where
  pub rows : List ℕ
  pub encoded : Rows p name v rows
  pub placed : take (3 * (begun + size v)) after ≡ take (3 * begun) before ++ rows

-- so many rows are begun behind a value; those for which the table has no room are counted and not put
pub record Puts (p before after : List ℕ) (name begun : ℕ) (v : Value) (to : ℕ) : Type 0 where
  pub counted : to ≡ begun + size v
  pub put : 3 * to ≤ length before → Appended p before after name begun v

-- the form comes to a value, whose rows are put
pub record Made
    (o : Outcome ℕ (Ran Value)) (limit : ℕ) (p before after : List ℕ) (c : Cursor) (kind begun steps : ℕ) : Type 0 where
  pub value : Value
  pub ran : o ≡ gives value steps
  pub kinded : kind ≡ kind_code value
  pub bounded : BoundedNumbers value
  pub puts : Puts p before after c.name c.begun value begun
  pub paid : Paid begun steps
  pub counted : c.steps < steps
  pub left : steps ≤ limit

abbrev pub Comes : Outcome ℕ (Ran Value) → ℕ → (p before after : List ℕ) → Cursor → Part → Type 0
Comes o limit p before after c (Ok done) = Made o limit p before after c done.kind done.begun done.steps
Comes o limit p before after c (Err why) = o ≡ refused_as why

-- the tables afterwards: what was bound and the rows before are kept
pub record Kept (bindings bindings' results results' : List ℕ) (bound begun : ℕ) : Type 0 where
  pub bound_kept : take bound bindings' ≡ take bound bindings
  pub front : take (3 * begun) results' ≡ take (3 * begun) results

pub record Runs (forms nodes pool bindings bindings' results results' : List ℕ) (limit : ℕ) (c : Cursor) (r : Part) : Type 0 where
  pub kept : Kept bindings bindings' results results' c.bound c.begun
  pub told
      : (l : Limits) (p : List ℕ) (form : Result) (env : List Value)
      → Meets forms nodes pool bindings limit c.row c.bound l p form env
      → Comes (run form l env c.steps) limit p results results' c r

pub record Follows
    (forms nodes pool bindings bindings' results results' : List ℕ) (limit : ℕ) (c : Cursor) (at steps : ℕ) (r : Part) : Type 0 where
  pub kept : Kept bindings bindings' results results' c.bound c.begun
  pub told
      : (l : Limits) (p : List ℕ) (form : Result) (env : List Value) (v : Value)
      → Meets forms nodes pool bindings limit c.row c.bound l p form env → Bound nodes p at v
      → Comes (follow form l env v steps) limit p results results' c r
