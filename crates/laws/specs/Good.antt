-- Shapes, values and readers whose names and texts are UTF-8 and whose numbers keep the paper's limits. Assumes nothing.
use Rattle.std.specs.Prelude.{ℕ, ◌≤◌, ◌≡◌, Bool, true}
use Rattle.definitions.specs.Bytes.{Bytes}
use Rattle.definitions.specs.Number.{Number, most_coefficient, most_scale}
use Rattle.definitions.specs.Value.{Value, Items, no_items, item, Members, no_members, member}
use Rattle.definitions.specs.Shape.{Numeric, Shape, shape, Element, no_list, list_of, Record, no_rec, rec_of, Fields, no_fields, field}
use Rattle.definitions.specs.Reader.{Place, Conversion, Test, Result, Pairs, no_pairs, pair}
use Rattle.laws.specs.Rfc3629.{UTF8Octets}

-- a number of the paper: coefficient and scale within refusal 4's limits, and "Zero has no minus"
pub record GoodNumber (x : Number) : Type 0 where
  pub coefficient_fits : x.coefficient ≤ most_coefficient
  pub scale_fits : x.scale ≤ most_scale
  pub minus_fits : x.negative ≡ true → x.coefficient ≡ 0 → ⊥

-- ---- shapes

mutual
  -- every member name of the shape is UTF-8, at all depths
  pub data GoodShape : Shape → Type 0 where
    good_shape
        : {n b t : Bool} {m : Numeric} {e : Element} {r : Record} → GoodElement e → GoodRecord r
        → GoodShape (shape n b m t e r)

  pub data GoodElement : Element → Type 0 where
    good_no_list : GoodElement no_list
    good_list_of : {s : Shape} → GoodShape s → GoodElement (list_of s)

  pub data GoodRecord : Record → Type 0 where
    good_no_rec : GoodRecord no_rec
    good_rec_of : {fs : Fields} → GoodFields fs → GoodRecord (rec_of fs)

  pub data GoodFields : Fields → Type 0 where
    good_no_fields : GoodFields no_fields
    good_field : {n : Bytes} {s : Shape} {fs : Fields} → UTF8Octets n → GoodShape s → GoodFields fs → GoodFields (field n s fs)

-- ---- values

mutual
  -- every text and name of the value is UTF-8 and every number keeps the limits, at all depths
  pub data GoodValue : Value → Type 0 where
    good_null : GoodValue Value.null
    good_bool : {b : Bool} → GoodValue (Value.bool b)
    good_number : {x : Number} → GoodNumber x → GoodValue (Value.number x)
    good_text : {t : Bytes} → UTF8Octets t → GoodValue (Value.text t)
    good_list : {vs : Items} → GoodItems vs → GoodValue (Value.list vs)
    good_rec : {ms : Members} → GoodMembers ms → GoodValue (Value.rec ms)

  pub data GoodItems : Items → Type 0 where
    good_no_items : GoodItems no_items
    good_item : {v : Value} {vs : Items} → GoodValue v → GoodItems vs → GoodItems (item v vs)

  pub data GoodMembers : Members → Type 0 where
    good_no_members : GoodMembers no_members
    good_member
        : {n : Bytes} {v : Value} {ms : Members} → UTF8Octets n → GoodValue v → GoodMembers ms
        → GoodMembers (member n v ms)

-- ---- readers

pub data GoodPlace : Place → Type 0 where
  good_it : {at n : ℕ} → GoodPlace (Place.it at n)
  good_field_of : {at : ℕ} {n : Bytes} {p : Place} → UTF8Octets n → GoodPlace p → GoodPlace (Place.field at n p)

mutual
  -- the names and literals of the reader are good
  pub data GoodReader : Result → Type 0 where
    good_convert : {at : ℕ} {c : Conversion} {p : Place} → GoodPlace p → GoodReader (Result.convert at c p)
    good_keep : {at : ℕ} {p : Place} → GoodPlace p → GoodReader (Result.keep at p)
    good_count : {at : ℕ} {p : Place} → GoodPlace p → GoodReader (Result.count at p)
    good_each : {at : ℕ} {p : Place} {r : Result} → GoodPlace p → GoodReader r → GoodReader (Result.each at p r)
    good_when
        : {at : ℕ} {k : Test} {p : Place} {r₁ r₂ : Result} → GoodPlace p → GoodReader r₁ → GoodReader r₂
        → GoodReader (Result.when at k p r₁ r₂)
    good_choose
        : {at : ℕ} {r₁ r₂ r₃ : Result} → GoodReader r₁ → GoodReader r₂ → GoodReader r₃
        → GoodReader (Result.choose at r₁ r₂ r₃)
    good_literal : {at : ℕ} {v : Value} → GoodValue v → GoodReader (Result.literal at v)
    good_pack : {at : ℕ} {ps : Pairs} → GoodPairs ps → GoodReader (Result.pack at ps)

  pub data GoodPairs : Pairs → Type 0 where
    good_no_pairs : GoodPairs no_pairs
    good_pair : {n : Bytes} {r : Result} {ps : Pairs} → UTF8Octets n → GoodReader r → GoodPairs ps → GoodPairs (pair n r ps)
