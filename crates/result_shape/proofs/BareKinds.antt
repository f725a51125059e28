-- The kinds of results without parts, from their code. Assumes nothing.
use Prim.Native.Nat.{ℕ, ◌≤◌, ◌<◌}
use native.Mathlib.Omega.{arith}
use mathlib.Core.Path.{◌≡◌, refl, sym}
use mathlib.Core.Bool.{true, false}
use Rattle.definitions.specs.Shape.{has_list, has_rec, only_numeric}
use Rattle.definitions.specs.Value.{Value}
use Rattle.definitions.specs.Join.{shape_of}
use Rattle.definitions.specs.Reader.{to_int, to_dec, to_bool, to_text}
use Rattle.shapes.specs.Shapes.{bit, numeric_bits, kind_bits}
use Rattle.forms.specs.Forms.{conversion_code, literal_code, form_code, form_operand}
use Rattle.checking.specs.CheckContracts.{TellsConversion, TellsLiteral}
use Rattle.result_shape.specs.Results.{bare_convert, bare_count, bare_null, bare_bool, bare_number, bare_text}
use Rattle.result_shape.specs.Giving.{TellsBare}

pub at_count : {code operand payload : ℕ} → code ≡ 8 → TellsBare code operand payload 4
unfolding form_code conversion_code literal_code kind_bits bit numeric_bits has_list has_rec only_numeric
at_count h p r t e f g (bare_convert {c = to_int}) = absurd (let z : ⊥ = omega arith in z)
at_count h p r t e f g (bare_convert {c = to_dec}) = absurd (let z : ⊥ = omega arith in z)
at_count h p r t e f g (bare_convert {c = to_bool}) = absurd (let z : ⊥ = omega arith in z)
at_count h p r t e f g (bare_convert {c = to_text}) = absurd (let z : ⊥ = omega arith in z)
at_count h p r t e f g bare_count = refl
at_count h p r t e f g bare_null = absurd (let z : ⊥ = omega arith in z)
at_count h p r t e f g (bare_bool {b = true}) = absurd (let z : ⊥ = omega arith in z)
at_count h p r t e f g (bare_bool {b = false}) = absurd (let z : ⊥ = omega arith in z)
at_count h p r t e f g bare_number = absurd (let z : ⊥ = omega arith in z)
at_count h p r t e f g bare_text = absurd (let z : ⊥ = omega arith in z)

pub at_conversion : {code operand payload kinds : ℕ} → code < 8 → TellsConversion code kinds → TellsBare code operand payload kinds
unfolding form_code literal_code
at_conversion h told p r t e f g (bare_convert {c = c}) = sym (told c e).1
at_conversion h told p r t e f g bare_count = absurd (let z : ⊥ = omega arith in z)
at_conversion h told p r t e f g bare_null = absurd (let z : ⊥ = omega arith in z)
at_conversion h told p r t e f g (bare_bool {b = true}) = absurd (let z : ⊥ = omega arith in z)
at_conversion h told p r t e f g (bare_bool {b = false}) = absurd (let z : ⊥ = omega arith in z)
at_conversion h told p r t e f g bare_number = absurd (let z : ⊥ = omega arith in z)
at_conversion h told p r t e f g bare_text = absurd (let z : ⊥ = omega arith in z)

pub at_literal
    : {code operand payload kinds : ℕ} → (code ≡ 8 → ⊥) → 8 ≤ code → TellsLiteral code operand payload kinds
    → TellsBare code operand payload kinds
unfolding form_code form_operand conversion_code literal_code shape_of
at_literal no_count late told p r t e f g (bare_convert {c = to_int}) = absurd (let z : ⊥ = omega arith in z)
at_literal no_count late told p r t e f g (bare_convert {c = to_dec}) = absurd (let z : ⊥ = omega arith in z)
at_literal no_count late told p r t e f g (bare_convert {c = to_bool}) = absurd (let z : ⊥ = omega arith in z)
at_literal no_count late told p r t e f g (bare_convert {c = to_text}) = absurd (let z : ⊥ = omega arith in z)
at_literal no_count late told p r t e f g bare_count = absurd (no_count e)
at_literal no_count late told p r t e f g (bare_null {at}) = sym (told p Value.null (omega arith) e f (g at Value.null refl))
at_literal no_count late told p r t e f g (bare_bool {at} {b = true}) = sym (told p (Value.bool true) (omega arith) e f (g at (Value.bool true) refl))
at_literal no_count late told p r t e f g (bare_bool {at} {b = false}) = sym (told p (Value.bool false) (omega arith) e f (g at (Value.bool false) refl))
at_literal no_count late told p r t e f g (bare_number {at} {x = x}) = sym (told p (Value.number x) (omega arith) e f (g at (Value.number x) refl))
at_literal no_count late told p r t e f g (bare_text {at} {t = n}) = sym (told p (Value.text n) (omega arith) e f (g at (Value.text n) refl))
