-- Results that are one value of the document, a count or a literal: what is asked and answered. Assumes nothing.
use Rattle.std.specs.Prelude.{ℕ, ◌+◌, ◌*◌, ◌/◌, ◌%◌, ◌≤◌, ◌<◌, ◌≡◌, List, get_or, take}
use Rattle.definitions.specs.Number.{Number}
use Rattle.definitions.specs.Value.{Value, count}
use Rattle.definitions.specs.Running.{gives, whole_value, items_of, int_value}
use Rattle.number.specs.NumberWrite.{Bounded}
use Rattle.nodes.specs.Nodes.{sign_bit, number_bits}
use Rattle.plain.specs.Table.{BoundedNumbers, Used}
use Rattle.forms.specs.Forms.{literal_code, LiteralPayload}
use Rattle.running.specs.declared.going.Cursor.{Cursor}
use Rattle.running.specs.Bindings.{Bound}
use Rattle.running.specs.Walk.{Paid, Part, Comes}

-- the form is entered, and so many steps are counted behind it
pub record Giving (limit : ℕ) (c : Cursor) (steps : ℕ) : Type 0 where
  pub few : limit ≤ 65536
  pub paid : Paid c.begun c.steps
  pub counted : c.steps < steps
  pub left : steps ≤ limit

-- the value of which this holds is put
pub record Gives (results results' : List ℕ) (limit : ℕ) (c : Cursor) (steps : ℕ) (Of : List ℕ → Value → Type 0) (r : Part) : Type 0 where
  pub front : take (3 * c.begun) results' ≡ take (3 * c.begun) results
  pub told : (p : List ℕ) (v : Value) → Of p v → Comes (gives v steps) limit p results results' c r

-- what stands at a row, without its fraction
pub record Wholes (nodes : List ℕ) (at : ℕ) (p : List ℕ) (v : Value) : Type 0 where
  pub handed : Value
  pub bound : Bound nodes p at handed
  pub same : v ≡ whole_value handed

-- what a conversion or `keep` makes of it: `int` has code 3
pub record Handed (nodes : List ℕ) (at code : ℕ) (p : List ℕ) (v : Value) : Type 0 where
  pub handed : Value
  pub bound : Bound nodes p at handed
  pub by_int : code ≡ 3 → v ≡ whole_value handed
  pub by_other : (code ≡ 3 → ⊥) → v ≡ handed

-- the count of what stands at a row
pub record Counts (nodes : List ℕ) (at : ℕ) (p : List ℕ) (v : Value) : Type 0 where
  pub whole : Value
  pub bound : Bound nodes p at whole
  pub same : v ≡ int_value (count (items_of whole))

-- sign and scale, and the coefficient
pub record NumberWord (bits coefficient : ℕ) (x : Number) : Type 0 where
  pub signed : bits ≡ sign_bit x.negative + 2 * x.scale
  pub whole : coefficient ≡ x.coefficient
  pub bounded : Bounded x

pub record SomeNumber (bits coefficient : ℕ) : Type 0 where
  pub number : Number
  pub held : NumberWord bits coefficient number

-- the literal of the form at a row
pub record LiteralAt (forms pool : List ℕ) (row : ℕ) (p : List ℕ) (v : Value) : Type 0 where
  pub coded : get_or forms row 0 % 32 ≡ literal_code v
  pub operand : get_or forms row 0 / 32 % 64 ≡ number_bits v
  pub payload : LiteralPayload p v (get_or forms (row + 1) 0)
  pub pooled : Used pool p
  pub bounded : BoundedNumbers v

pub record SomeLiteral (forms pool : List ℕ) (row : ℕ) : Type 0 where
  pub used : List ℕ
  pub value : Value
  pub held : LiteralAt forms pool row used value
