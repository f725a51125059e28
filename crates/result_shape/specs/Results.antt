-- What the parts of a result give where it passes. Assumes nothing.
use Rattle.std.specs.Prelude.{ℕ, ◌≡◌, Bool, List, ◌∷◌}
use Rattle.definitions.specs.Bytes.{Bytes}
use Rattle.definitions.specs.Number.{Number}
use Rattle.definitions.specs.Value.{Value}
use Rattle.definitions.specs.Outcome.{ok}
use Rattle.definitions.specs.Shape.{Shape, list_of, Fields, no_fields, field, int_only, element_of, only_null, only_bool, only_numeric, only_text, only_list}
use Rattle.definitions.specs.Join.{join, numeric_of}
use Rattle.definitions.specs.Reader.{Place, Conversion, Test, Result, Pairs, no_pairs, pair}
use Rattle.definitions.specs.Checking.{convert_shape, element_shape, cut_to, taken_out, check_place, check}

-- a result that gives a shape without parts
pub data Bare : Result → Shape → Type 0 where
  bare_convert : {at : ℕ} {c : Conversion} {q : Place} → Bare (Result.convert at c q) (convert_shape c)
  bare_count : {at : ℕ} {q : Place} → Bare (Result.count at q) (only_numeric int_only)
  bare_null : {at : ℕ} → Bare (Result.literal at Value.null) only_null
  bare_bool : {at : ℕ} {b : Bool} → Bare (Result.literal at (Value.bool b)) only_bool
  bare_number : {at : ℕ} {x : Number} → Bare (Result.literal at (Value.number x)) (only_numeric (numeric_of x))
  bare_text : {at : ℕ} {t : Bytes} → Bare (Result.literal at (Value.text t)) only_text

pub record EachGives (q : Place) (r : Result) (env : List Shape) (t : Shape) : Type 0 where
  pub over : Shape
  pub part : Shape
  pub place : check_place q env ≡ ok over
  pub result : check r (element_shape (element_of over) ∷ env) ≡ ok part
  pub same : t ≡ only_list (list_of part)

pub record WhenGives (k : Test) (q : Place) (r₁ r₂ : Result) (env : List Shape) (t : Shape) : Type 0 where
  pub over : Shape
  pub first : Shape
  pub second : Shape
  pub place : check_place q env ≡ ok over
  pub then_result : check r₁ (cut_to k over ∷ env) ≡ ok first
  pub else_result : check r₂ (taken_out k over ∷ env) ≡ ok second
  pub same : t ≡ join first second

pub record ChooseGives (r₂ r₃ : Result) (env : List Shape) (t : Shape) : Type 0 where
  pub first : Shape
  pub second : Shape
  pub then_result : check r₂ env ≡ ok first
  pub else_result : check r₃ env ≡ ok second
  pub same : t ≡ join first second

-- the shapes of a pack's results, in the order of the pack
pub data Given (env : List Shape) : Pairs → Fields → Type 0 where
  given_none : Given env no_pairs no_fields
  given_pair
      : {n : Bytes} {r : Result} {ps : Pairs} {t : Shape} {gs : Fields} → check r env ≡ ok t → Given env ps gs
      → Given env (pair n r ps) (field n t gs)
