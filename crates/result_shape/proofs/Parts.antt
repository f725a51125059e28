-- The parts of a form that stands in the table, by its code, with what they give. Assumes nothing.
use Prim.Native.Nat.{ℕ, suc, ◌+◌, ◌/◌, ◌%◌, ◌≤◌, ◌<◌}
use native.Mathlib.Omega.{arith}
use mathlib.Core.Path.{◌≡◌, refl, sym, subst}
use mathlib.Core.Bool.{true, false}
use mathlib.Core.List.{List, ◌∷◌}
use lib.ListN.{length, get_or}
use Rattle.definitions.specs.Value.{Value}
use Rattle.definitions.specs.Outcome.{ok}
use Rattle.definitions.specs.Shape.{Shape, list_of, element_of, only_list}
use Rattle.definitions.specs.Join.{join, shape_of}
use Rattle.definitions.specs.Reader.{Place, Conversion, to_int, to_dec, to_bool, to_text, Test, Result, Pairs}
use Rattle.definitions.specs.Checking.{element_shape, cut_to, taken_out, check_place, check}
use Rattle.laws.specs.Bools.{and_two, and_three}
use Rattle.laws.specs.FormGrammar.{result_levels}
use Rattle.laws.specs.Readers.{proper, proper_pairs}
use Rattle.forms.specs.Forms.{conversion_code, literal_code, form_code, test_code, form_operand, LiteralPayload, null_payload, yes_payload, no_payload}
use Rattle.forms.specs.Forms.{number_payload, text_payload, FormStands}
use Rattle.forms.specs.PartsLaws.{after, keep_place, each_place, each_result, when_place, when_first, when_second, choose_second, choose_third}
use Rattle.forms.specs.PartsLaws.{literal_stands, pack_stands}
use Rattle.forms.specs.FormsLaws.{levels_some, stands_operand}
use Rattle.checking.specs.CheckContracts.{MeetsPlace, MeetsForm}
use Rattle.result_shape.specs.Giving.{MeetsPairs}
use Rattle.result_shape.specs.Results.{Bare, bare_convert, bare_count, bare_null, bare_bool, bare_number, bare_text}
use Rattle.result_shape.specs.ResultsLaws.{keep_gives, convert_Gives, count_Gives, literal_gives}
use Rattle.result_shape.specs.ResultsLaws.{each_gives, when_gives, choose_gives, PackGives, pack_gives}

-- ---- codes

no_conversion {ℓ} : {X : Type ℓ} (c : Conversion) {k : ℕ} → conversion_code c ≡ k → 7 ≤ k → X
unfolding conversion_code
no_conversion to_int e h = absurd (let z : ⊥ = omega arith in z)
no_conversion to_dec e h = absurd (let z : ⊥ = omega arith in z)
no_conversion to_bool e h = absurd (let z : ⊥ = omega arith in z)
no_conversion to_text e h = absurd (let z : ⊥ = omega arith in z)

no_literal {ℓ} : {X : Type ℓ} (v : Value) {k : ℕ} → literal_code v ≡ k → 7 ≤ k → (12 ≤ k → 17 ≤ k) → X
unfolding literal_code
no_literal Value.null e h i = absurd (let j = i (omega arith) in let z : ⊥ = omega arith in z)
no_literal (Value.bool true) e h i = absurd (let j = i (omega arith) in let z : ⊥ = omega arith in z)
no_literal (Value.bool false) e h i = absurd (let j = i (omega arith) in let z : ⊥ = omega arith in z)
no_literal (Value.number x) e h i = absurd (let j = i (omega arith) in let z : ⊥ = omega arith in z)
no_literal (Value.text t) e h i = absurd (let j = i (omega arith) in let z : ⊥ = omega arith in z)
no_literal (Value.list vs) e h i = absurd (let z : ⊥ = omega arith in z)
no_literal (Value.rec ms) e h i = absurd (let z : ⊥ = omega arith in z)

-- ---- the parts

-- a place whose shape is s
pub record Placed (table shapes pool bindings p : List ℕ) (row d deep : ℕ) (env : List Shape) (s : Shape) : Type 0 where
  pub place : Place
  pub meets : MeetsPlace table shapes pool bindings p (row + 3) d deep place env
  pub gives : check_place place env ≡ ok s

-- a result that is a part: where it stands, how many bindings it has, what it gives
pub record Branch (table p bindings : List ℕ) (row d : ℕ) (env : List Shape) (t : Shape) : Type 0 where
  pub result : Result
  pub stands : FormStands table p row d 0 result
  pub gives : check result env ≡ ok t
  pub once : proper result ≡ true
  pub room : d + result_levels result ≤ length bindings + 1

pub record EachParts (table shapes pool bindings p : List ℕ) (row d deep : ℕ) (env : List Shape) (t : Shape) : Type 0 where
  pub over : Shape
  pub part : Shape
  pub placed : Placed table shapes pool bindings p row d deep env over
  pub branch : Branch table p bindings (after table (row + 3)) (suc d) (element_shape (element_of over) ∷ env) part
  pub same : t ≡ only_list (list_of part)

pub record WhenParts (table shapes pool bindings p : List ℕ) (row d deep : ℕ) (env : List Shape) (t : Shape) : Type 0 where
  pub test : Test
  pub tested : get_or table row 0 / 32 % 64 ≡ test_code test
  pub over : Shape
  pub one : Shape
  pub two : Shape
  pub placed : Placed table shapes pool bindings p row d deep env over
  pub first : Branch table p bindings (after table (row + 3)) (suc d) (cut_to test over ∷ env) one
  pub second : Branch table p bindings (after table (after table (row + 3))) (suc d) (taken_out test over ∷ env) two
  pub same : t ≡ join one two

pub record ChooseParts (table p bindings : List ℕ) (row d : ℕ) (env : List Shape) (t : Shape) : Type 0 where
  pub one : Shape
  pub two : Shape
  pub first : Branch table p bindings (after table (row + 3)) d env one
  pub second : Branch table p bindings (after table (after table (row + 3))) d env two
  pub same : t ≡ join one two

pub record PackParts (table shapes pool bindings p : List ℕ) (row d deep : ℕ) (env : List Shape) (t : Shape) : Type 0 where
  pub pairs : Pairs
  pub meets : MeetsPairs table shapes pool bindings p (row + 3) (after table row) d deep pairs env
  pub once : proper_pairs pairs ≡ true
  pub gives : PackGives pairs env t

-- a binding more has room
pub branch_room : {table p bindings : List ℕ} {row d : ℕ} {env : List Shape} {t : Shape} → Branch table p bindings row (suc d) env t → d < length bindings
branch_room b = omega (arith, b.room, levels_some b.result)

bare_literal : {p : List ℕ} {v : Value} {k : ℕ} {t : Shape} (at : ℕ) → LiteralPayload p v k → t ≡ shape_of v → Bare (Result.literal at v) t
unfolding shape_of
bare_literal at null_payload e = subst (Bare (Result.literal at Value.null)) (sym e) bare_null
bare_literal at yes_payload e = subst (Bare (Result.literal at (Value.bool true))) (sym e) bare_bool
bare_literal at no_payload e = subst (Bare (Result.literal at (Value.bool false))) (sym e) bare_bool
bare_literal at (number_payload {x = n}) e = subst (Bare (Result.literal at (Value.number n))) (sym e) bare_number
bare_literal at (text_payload {t = b} f) e = subst (Bare (Result.literal at (Value.text b))) (sym e) bare_text

module _ {table shapes pool bindings p : List ℕ} {row d m deep : ℕ} {env : List Shape} {t : Shape} where
  pub keep_placed
      : (r : Result) → MeetsForm table shapes pool bindings p row d m deep r env → check r env ≡ ok t → proper r ≡ true → form_code r ≡ 7
      → Placed table shapes pool bindings p row d deep env t
  unfolding form_code proper result_levels form_operand
  keep_placed (Result.keep at q) w g o e =
      record {
        place = q;
        meets = record { pooled = w.pooled; stands = keep_place w.stands; bound = w.bound };
        gives = keep_gives at q env t g;
      }
  keep_placed (Result.convert at c q) w g o e = no_conversion c e (omega arith)
  keep_placed (Result.count at q) w g o e = absurd (let z : ⊥ = omega arith in z)
  keep_placed (Result.each at q r) w g o e = absurd (let z : ⊥ = omega arith in z)
  keep_placed (Result.when at k q r₁ r₂) w g o e = absurd (let z : ⊥ = omega arith in z)
  keep_placed (Result.choose at r₁ r₂ r₃) w g o e = absurd (let z : ⊥ = omega arith in z)
  keep_placed (Result.literal at v) w g o e = no_literal v e (omega arith) (λ h. omega arith)
  keep_placed (Result.pack at ps) w g o e = absurd (let z : ⊥ = omega arith in z)

  pub each_parts
      : (r : Result) → MeetsForm table shapes pool bindings p row d m deep r env → check r env ≡ ok t → proper r ≡ true → form_code r ≡ 9
      → EachParts table shapes pool bindings p row d deep env t
  unfolding form_code proper result_levels form_operand
  each_parts (Result.each at q r) w g o e =
      let x = each_gives at q r env t g in
      record {
        over = x.over;
        part = x.part;
        placed =
            record {
              place = q;
              meets = record { pooled = w.pooled; stands = each_place w.stands; bound = w.bound };
              gives = x.place;
            };
        branch = record { result = r; stands = each_result w.stands; gives = x.result; once = o; room = omega (arith, w.room) };
        same = x.same;
      }
  each_parts (Result.convert at c q) w g o e = no_conversion c e (omega arith)
  each_parts (Result.keep at q) w g o e = absurd (let z : ⊥ = omega arith in z)
  each_parts (Result.count at q) w g o e = absurd (let z : ⊥ = omega arith in z)
  each_parts (Result.when at k q r₁ r₂) w g o e = absurd (let z : ⊥ = omega arith in z)
  each_parts (Result.choose at r₁ r₂ r₃) w g o e = absurd (let z : ⊥ = omega arith in z)
  each_parts (Result.literal at v) w g o e = no_literal v e (omega arith) (λ h. omega arith)
  each_parts (Result.pack at ps) w g o e = absurd (let z : ⊥ = omega arith in z)

  pub when_parts
      : (r : Result) → MeetsForm table shapes pool bindings p row d m deep r env → check r env ≡ ok t → proper r ≡ true → form_code r ≡ 10
      → WhenParts table shapes pool bindings p row d deep env t
  unfolding form_code proper result_levels form_operand
  when_parts (Result.when at k q r₁ r₂) w g o e =
      let x = when_gives at k q r₁ r₂ env t g in
      let y = and_two (proper r₁) (proper r₂) o in
      record {
        test = k;
        tested = stands_operand w.stands;
        over = x.over;
        one = x.first;
        two = x.second;
        placed =
            record {
              place = q;
              meets = record { pooled = w.pooled; stands = when_place w.stands; bound = w.bound };
              gives = x.place;
            };
        first = record { result = r₁; stands = when_first w.stands; gives = x.then_result; once = y.0; room = omega (arith, w.room) };
        second = record { result = r₂; stands = when_second w.stands; gives = x.else_result; once = y.1; room = omega (arith, w.room) };
        same = x.same;
      }
  when_parts (Result.convert at c q) w g o e = no_conversion c e (omega arith)
  when_parts (Result.keep at q) w g o e = absurd (let z : ⊥ = omega arith in z)
  when_parts (Result.count at q) w g o e = absurd (let z : ⊥ = omega arith in z)
  when_parts (Result.each at q r) w g o e = absurd (let z : ⊥ = omega arith in z)
  when_parts (Result.choose at r₁ r₂ r₃) w g o e = absurd (let z : ⊥ = omega arith in z)
  when_parts (Result.literal at v) w g o e = no_literal v e (omega arith) (λ h. omega arith)
  when_parts (Result.pack at ps) w g o e = absurd (let z : ⊥ = omega arith in z)

  pub choose_parts
      : (r : Result) → MeetsForm table shapes pool bindings p row d m deep r env → check r env ≡ ok t → proper r ≡ true → form_code r ≡ 11
      → ChooseParts table p bindings row d env t
  unfolding form_code proper result_levels form_operand
  choose_parts (Result.choose at r₁ r₂ r₃) w g o e =
      let x = choose_gives at r₁ r₂ r₃ env t g in
      let y = and_three (proper r₁) (proper r₂) (proper r₃) o in
      record {
        one = x.first;
        two = x.second;
        first = record { result = r₂; stands = choose_second w.stands; gives = x.then_result; once = y.1; room = omega (arith, w.room) };
        second = record { result = r₃; stands = choose_third w.stands; gives = x.else_result; once = y.2; room = omega (arith, w.room) };
        same = x.same;
      }
  choose_parts (Result.convert at c q) w g o e = no_conversion c e (omega arith)
  choose_parts (Result.keep at q) w g o e = absurd (let z : ⊥ = omega arith in z)
  choose_parts (Result.count at q) w g o e = absurd (let z : ⊥ = omega arith in z)
  choose_parts (Result.each at q r) w g o e = absurd (let z : ⊥ = omega arith in z)
  choose_parts (Result.when at k q r₁ r₂) w g o e = absurd (let z : ⊥ = omega arith in z)
  choose_parts (Result.literal at v) w g o e = no_literal v e (omega arith) (λ h. omega arith)
  choose_parts (Result.pack at ps) w g o e = absurd (let z : ⊥ = omega arith in z)

  pub pack_parts
      : (r : Result) → MeetsForm table shapes pool bindings p row d m deep r env → check r env ≡ ok t → proper r ≡ true → form_code r ≡ 17
      → PackParts table shapes pool bindings p row d deep env t
  unfolding form_code proper result_levels form_operand
  pack_parts (Result.pack at ps) w g o e =
      record {
        pairs = ps;
        meets = record { pooled = w.pooled; stand = pack_stands w.stands; bound = w.bound; room = omega (arith, w.room) };
        once = o;
        gives = pack_gives at ps env t g;
      }
  pack_parts (Result.convert at c q) w g o e = no_conversion c e (omega arith)
  pack_parts (Result.keep at q) w g o e = absurd (let z : ⊥ = omega arith in z)
  pack_parts (Result.count at q) w g o e = absurd (let z : ⊥ = omega arith in z)
  pack_parts (Result.each at q r) w g o e = absurd (let z : ⊥ = omega arith in z)
  pack_parts (Result.when at k q r₁ r₂) w g o e = absurd (let z : ⊥ = omega arith in z)
  pack_parts (Result.choose at r₁ r₂ r₃) w g o e = absurd (let z : ⊥ = omega arith in z)
  pack_parts (Result.literal at v) w g o e = no_literal v e (omega arith) (λ h. omega arith)

  -- no parts
  pub bare_form
      : (r : Result) → MeetsForm table shapes pool bindings p row d m deep r env → check r env ≡ ok t → (form_code r ≡ 7 → ⊥) → (form_code r ≡ 9 → ⊥)
      → (form_code r ≡ 10 → ⊥) → (form_code r ≡ 11 → ⊥) → (form_code r ≡ 17 → ⊥) → Bare r t
  unfolding form_code
  bare_form (Result.convert at c q) w g a b x y z = subst (Bare (Result.convert at c q)) (sym (convert_Gives at c q env t g)) bare_convert
  bare_form (Result.keep at q) w g a b x y z = absurd (a refl)
  bare_form (Result.count at q) w g a b x y z = subst (Bare (Result.count at q)) (sym (count_Gives at q env t g)) bare_count
  bare_form (Result.each at q r) w g a b x y z = absurd (b refl)
  bare_form (Result.when at k q r₁ r₂) w g a b x y z = absurd (x refl)
  bare_form (Result.choose at r₁ r₂ r₃) w g a b x y z = absurd (y refl)
  bare_form (Result.literal at v) w g a b x y z = bare_literal at (literal_stands w.stands) (literal_gives at v env t g)
  bare_form (Result.pack at ps) w g a b x y z = absurd (z refl)
