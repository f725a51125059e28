-- The kinds of values that hold no others, from the words of their row. Assumes nothing.
use Prim.Native.Nat.{ℕ, ◌%◌, ◌<◌}
use native.Mathlib.Omega.{arith}
use mathlib.Core.Path.{◌≡◌, refl, sym, ap, ◌∙◌}
use mathlib.Core.Bool.{Bool, true, false}
use mathlib.Core.List.{List}
use lib.ListN.{get_or}
use Rattle.definitions.specs.Number.{Number, is_int, most_scale}
use Rattle.definitions.specs.Value.{Value}
use Rattle.definitions.specs.Shape.{Numeric, int_only, int_and_dec, has_list, has_rec, only_null, only_bool, only_numeric, only_text}
use Rattle.definitions.specs.Join.{numeric_of, shape_of}
use Rattle.nodes.specs.Nodes.{kind_code}
use Rattle.nodes.specs.Standing.{ValueStands, NumberStands}
use Rattle.nodes.specs.StandingLaws.{value_head, number_stands}
use Rattle.plain.specs.Table.{BoundedNumbers}
use Rattle.plain.specs.HeadLaws.{head_kind}
use Rattle.shapes.specs.Shapes.{bit, numeric_bits, kind_bits}

-- the kind that a row's first word tells
pub kind_told
    : {nodes p : List ℕ} {at kind k : ℕ} {v : Value} → ValueStands nodes p at k v → kind ≡ get_or nodes at 0 % 8 → kind_code v ≡ kind
kind_told {v} h e = sym (head_kind v) ∙ ap (λ (x : ℕ). x % 8) (sym (value_head h)) ∙ sym e

-- ---- each kind

pub bits_null : (v : Value) → kind_code v ≡ 0 → 1 ≡ kind_bits (shape_of v)
unfolding kind_code shape_of kind_bits bit numeric_bits has_list has_rec only_null
bits_null Value.null e = refl
bits_null (Value.bool true) e = absurd (let z : ⊥ = omega arith in z)
bits_null (Value.bool false) e = absurd (let z : ⊥ = omega arith in z)
bits_null (Value.number x) e = absurd (let z : ⊥ = omega arith in z)
bits_null (Value.text t) e = absurd (let z : ⊥ = omega arith in z)
bits_null (Value.list vs) e = absurd (let z : ⊥ = omega arith in z)
bits_null (Value.rec ms) e = absurd (let z : ⊥ = omega arith in z)

pub bits_text : (v : Value) → kind_code v ≡ 4 → 16 ≡ kind_bits (shape_of v)
unfolding kind_code shape_of kind_bits bit numeric_bits has_list has_rec only_text
bits_text Value.null e = absurd (let z : ⊥ = omega arith in z)
bits_text (Value.bool true) e = absurd (let z : ⊥ = omega arith in z)
bits_text (Value.bool false) e = absurd (let z : ⊥ = omega arith in z)
bits_text (Value.number x) e = absurd (let z : ⊥ = omega arith in z)
bits_text (Value.text t) e = refl
bits_text (Value.list vs) e = absurd (let z : ⊥ = omega arith in z)
bits_text (Value.rec ms) e = absurd (let z : ⊥ = omega arith in z)

pub bits_bool : (v : Value) {k : ℕ} → kind_code v ≡ k → k < 5 → (k ≡ 0 → ⊥) → (k ≡ 3 → ⊥) → (k ≡ 4 → ⊥) → 2 ≡ kind_bits (shape_of v)
unfolding kind_code shape_of kind_bits bit numeric_bits has_list has_rec only_bool
bits_bool Value.null e l f g h = absurd (f (omega arith))
bits_bool (Value.bool b) e l f g h = refl
bits_bool (Value.number x) e l f g h = absurd (g (omega arith))
bits_bool (Value.text t) e l f g h = absurd (h (omega arith))
bits_bool (Value.list vs) e l f g h = absurd (let z : ⊥ = omega arith in z)
bits_bool (Value.rec ms) e l f g h = absurd (let z : ⊥ = omega arith in z)

numeric_kinds
    : (b : Bool)
    → elim b as (λ (x : Bool). ℕ) [ true ↦ 4 | false ↦ 12 ]
    ≡ kind_bits (only_numeric (elim b as (λ (x : Bool). Numeric) [ true ↦ int_only | false ↦ int_and_dec ]))
unfolding kind_bits bit numeric_bits has_list has_rec only_numeric
numeric_kinds true = refl
numeric_kinds false = refl

pub bits_number
    : {nodes p : List ℕ} {at k r : ℕ} {int : Bool} (v : Value) → ValueStands nodes p at k v → BoundedNumbers v → kind_code v ≡ 3
    → ((x : Number) → NumberStands nodes at x → int ≡ is_int x)
    → r ≡ elim int as (λ (x : Bool). ℕ) [ true ↦ 4 | false ↦ 12 ] → r ≡ kind_bits (shape_of v)
unfolding kind_code shape_of BoundedNumbers most_scale numeric_of
bits_number Value.null h b e f g = absurd (let z : ⊥ = omega arith in z)
bits_number (Value.bool true) h b e f g = absurd (let z : ⊥ = omega arith in z)
bits_number (Value.bool false) h b e f g = absurd (let z : ⊥ = omega arith in z)
bits_number (Value.number x) h b e f g =
    g
    ∙ ap (λ (y : Bool). elim y as (λ (z : Bool). ℕ) [ true ↦ 4 | false ↦ 12 ]) (f x (number_stands h (omega (arith, b.scale))))
    ∙ numeric_kinds (is_int x)
bits_number (Value.text t) h b e f g = absurd (let z : ⊥ = omega arith in z)
bits_number (Value.list vs) h b e f g = absurd (let z : ⊥ = omega arith in z)
bits_number (Value.rec ms) h b e f g = absurd (let z : ⊥ = omega arith in z)
