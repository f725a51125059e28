-- Numbers: RFC 8259 section 6 one step a byte, the paper's coefficient, sign and scale, and what an int is.
-- Assumes nothing.
use Rattle.std.specs.Prelude.{ℕ, suc, ◌+◌, ◌-◌, ◌*◌, ◌/◌, ◌%◌, ◌^◌, Bool, true, false, not, ◌&&◌, ◌||◌, List, [], ◌∷◌, ltb, eqb}
use Rattle.std.proofs.Math.Option.{Option, none, some}
use Rattle.definitions.specs.Bytes.{Bytes, Row, one, span, look}

-- ---- what a number is

-- "a coefficient .. over ten to the scale"
pub record Number : Type 0 where
  pub negative : Bool
  pub coefficient : ℕ
  pub scale : ℕ

-- request Q-5: "a number whose fraction digits are all zero is an int"; it has no such digit, or its last ones are zeros, as
-- many as the scale says. Any other is a decimal
unfoldable pub is_int : Number → Bool
is_int x = eqb (x.coefficient % 10 ^ x.scale) 0

-- an int "without fraction", at scale 0
unfoldable pub whole : Number → Number
whole x = record { negative = x.negative; coefficient = x.coefficient / 10 ^ x.scale; scale = 0 }

-- "magnitude at most 999,999,999,999,999,999"
unfoldable pub most_coefficient : ℕ
most_coefficient = 999_999_999_999_999_999

-- "scale 0 to 9"
unfoldable pub most_scale : ℕ
most_scale = 9

-- ---- a number as written

-- the digits of a number as written, fraction digits counted, and whether it has an exponent
pub record Numeral : Type 0 where
  pub negative : Bool
  pub coefficient : ℕ
  pub scale : ℕ
  pub exponent : Bool

-- nothing read yet
unfoldable pub no_digits : Numeral
no_digits = record { negative = false; coefficient = 0; scale = 0; exponent = false }

-- refusal 4: "a complete number .. beyond coefficient or scale, or with an exponent"
unfoldable pub beyond : Numeral → Bool
beyond d = ltb most_coefficient d.coefficient || ltb most_scale d.scale || d.exponent

-- the number that a numeral means; "Zero has no minus"
unfoldable pub number_of : Numeral → Number
number_of d =
    record { negative = d.negative && not (eqb d.coefficient 0); coefficient = d.coefficient; scale = d.scale }

-- ---- the grammar: number = [ minus ] int [ frac ] [ exp ]

-- what has been read of a number
pub data Phase : Type 0 where
  begin after_minus after_zero in_int after_point in_frac after_e after_sign in_exp : Phase

-- e = %x65 / %x45
unfoldable pub e_rows : List (Row Phase)
e_rows = one "e" after_e ∷ one "E" after_e ∷ []

-- int = zero / ( digit1-9 *DIGIT )
unfoldable pub int_rows : List (Row Phase)
int_rows = one "0" after_zero ∷ span "1" "9" in_int ∷ []

-- the bytes that may come next
unfoldable pub next : Phase → List (Row Phase)
next begin = one "-" after_minus ∷ int_rows
next after_minus = int_rows
next after_zero = one "." after_point ∷ e_rows
next in_int = span "0" "9" in_int ∷ one "." after_point ∷ e_rows
next after_point = span "0" "9" in_frac ∷ []
next in_frac = span "0" "9" in_frac ∷ e_rows
next after_e = one "-" after_sign ∷ one "+" after_sign ∷ span "0" "9" in_exp ∷ []
next after_sign = span "0" "9" in_exp ∷ []
next in_exp = span "0" "9" in_exp ∷ []

-- what has been read so far is a number
unfoldable pub complete : Phase → Bool
complete begin = false
complete after_minus = false
complete after_zero = true
complete in_int = true
complete after_point = false
complete in_frac = true
complete after_e = false
complete after_sign = false
complete in_exp = true

-- ten times the coefficient and the digit b
unfoldable pub shifted : Numeral → ℕ → ℕ
shifted d b = d.coefficient * 10 + (b - 48)

-- the numeral with byte b, which led to this phase
unfoldable pub extend : Phase → Numeral → ℕ → Numeral
extend begin d b = d
extend after_minus d b = record { negative = true; coefficient = d.coefficient; scale = d.scale; exponent = d.exponent }
extend after_zero d b = d
extend in_int d b = record { negative = d.negative; coefficient = shifted d b; scale = d.scale; exponent = d.exponent }
extend after_point d b = d
extend in_frac d b =
    record { negative = d.negative; coefficient = shifted d b; scale = suc d.scale; exponent = d.exponent }
extend after_e d b = record { negative = d.negative; coefficient = d.coefficient; scale = d.scale; exponent = true }
extend after_sign d b = d
extend in_exp d b = d

-- ---- a number that is a whole word

-- the numeral that a word spells from here on, if it is one to its end
unfoldable pub spelled : Phase → Numeral → Bytes → Option Numeral
spelled p d [] = elim (complete p) [ true ↦ some d | false ↦ none ]
spelled p d (b ∷ r) = elim (look (next p) b) [ none ↦ none | some q ↦ spelled q (extend q d b) r ]
