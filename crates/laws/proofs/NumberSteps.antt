-- One step inside a number (definitions' Number) as a relation with a constructor for each row of `next`, and several of
-- them. Assumes nothing.
use Rattle.std.specs.Prelude.{ℕ, ◌≤◌, ◌≡◌, refl, Bool, false, [], ◌∷◌}
use Rattle.std.proofs.Common.{inl, inr, arith}
use Rattle.std.proofs.Math.Option.{some}
use Rattle.definitions.specs.Bytes.{Bytes, look}
use Rattle.definitions.specs.Number.{Numeral, Phase, begin, after_minus, after_zero, in_int, after_point}
use Rattle.definitions.specs.Number.{in_frac, after_e, after_sign, in_exp, next, e_rows, int_rows, extend}
use Rattle.laws.specs.Ranges.{Hit, here, there, look_hit, Hits, hits_look, at_one, one_in}
use Rattle.laws.specs.Rfc3629.{In}
use Rattle.laws.specs.Rfc8259 as Rfc
use Rattle.laws.specs.Steps.{NumberSteps, number_stay, number_then}

-- ---- one step: a constructor for each row of `next`

pub data Step : Phase → ℕ → Phase → Type 0 where
  minus : Step begin 0x2D after_minus
  zero_first : Step begin 0x30 after_zero
  digit_first : {b : ℕ} → In 0x31 0x39 b → Step begin b in_int
  minus_zero : Step after_minus 0x30 after_zero
  minus_digit : {b : ℕ} → In 0x31 0x39 b → Step after_minus b in_int
  zero_point : Step after_zero 0x2E after_point
  zero_e : {b : ℕ} → Rfc.e b → Step after_zero b after_e
  int_digit : {b : ℕ} → In 0x30 0x39 b → Step in_int b in_int
  int_point : Step in_int 0x2E after_point
  int_e : {b : ℕ} → Rfc.e b → Step in_int b after_e
  point_digit : {b : ℕ} → In 0x30 0x39 b → Step after_point b in_frac
  frac_digit : {b : ℕ} → In 0x30 0x39 b → Step in_frac b in_frac
  frac_e : {b : ℕ} → Rfc.e b → Step in_frac b after_e
  e_minus : Step after_e 0x2D after_sign
  e_plus : Step after_e 0x2B after_sign
  e_digit : {b : ℕ} → In 0x30 0x39 b → Step after_e b in_exp
  sign_digit : {b : ℕ} → In 0x30 0x39 b → Step after_sign b in_exp
  exp_digit : {b : ℕ} → In 0x30 0x39 b → Step in_exp b in_exp

of_hit : (p : Phase) {b : ℕ} {q : Phase} → Hit (next p) b q → Step p b q
unfolding next int_rows e_rows
of_hit begin (here i) = at_one (λ x. Step begin x after_minus) i minus
of_hit begin (there n (here i)) = at_one (λ x. Step begin x after_zero) i zero_first
of_hit begin (there n (there m (here i))) = digit_first i
of_hit begin (there n (there m (there o x))) = elim x [ ]
of_hit after_minus (here i) = at_one (λ x. Step after_minus x after_zero) i minus_zero
of_hit after_minus (there m (here i)) = minus_digit i
of_hit after_minus (there m (there _ x)) = elim x [ ]
of_hit after_zero (here i) = at_one (λ x. Step after_zero x after_point) i zero_point
of_hit after_zero (there n (here i)) = zero_e (at_one Rfc.e i Rfc.lower_e)
of_hit after_zero (there n (there m (here i))) = zero_e (at_one Rfc.e i Rfc.upper_e)
of_hit after_zero (there n (there m (there o x))) = elim x [ ]
of_hit in_int (here i) = int_digit i
of_hit in_int (there n (here i)) = at_one (λ x. Step in_int x after_point) i int_point
of_hit in_int (there n (there m (here i))) = int_e (at_one Rfc.e i Rfc.lower_e)
of_hit in_int (there n (there m (there o (here i)))) = int_e (at_one Rfc.e i Rfc.upper_e)
of_hit in_int (there n (there m (there o (there _ x)))) = elim x [ ]
of_hit after_point (here i) = point_digit i
of_hit after_point (there n x) = elim x [ ]
of_hit in_frac (here i) = frac_digit i
of_hit in_frac (there n (here i)) = frac_e (at_one Rfc.e i Rfc.lower_e)
of_hit in_frac (there n (there m (here i))) = frac_e (at_one Rfc.e i Rfc.upper_e)
of_hit in_frac (there n (there m (there o x))) = elim x [ ]
of_hit after_e (here i) = at_one (λ x. Step after_e x after_sign) i e_minus
of_hit after_e (there n (here i)) = at_one (λ x. Step after_e x after_sign) i e_plus
of_hit after_e (there n (there m (here i))) = e_digit i
of_hit after_e (there n (there m (there o x))) = elim x [ ]
of_hit after_sign (here i) = sign_digit i
of_hit after_sign (there n x) = elim x [ ]
of_hit in_exp (here i) = exp_digit i
of_hit in_exp (there n x) = elim x [ ]

-- the rows with an e stand behind others, all below it
e_hits : {b : ℕ} → Rfc.e b → Hits e_rows b after_e
unfolding e_rows
e_hits Rfc.lower_e = inl (one_in refl, refl)
e_hits Rfc.upper_e = inr (omega arith, inl (one_in refl, refl))

e_above : {b : ℕ} → Rfc.e b → 0x45 ≤ b
e_above Rfc.lower_e = omega arith
e_above Rfc.upper_e = omega arith

to_hits : {p : Phase} {b : ℕ} {q : Phase} → Step p b q → Hits (next p) b q
unfolding next int_rows
to_hits minus = inl (one_in refl, refl)
to_hits zero_first = inr (omega arith, inl (one_in refl, refl))
to_hits (digit_first d) = inr (omega arith, inr (omega arith, inl (d, refl)))
to_hits minus_zero = inl (one_in refl, refl)
to_hits (minus_digit d) = inr (omega arith, inl (d, refl))
to_hits zero_point = inl (one_in refl, refl)
to_hits (zero_e x) = inr (omega (arith, e_above x), e_hits x)
to_hits (int_digit d) = inl (d, refl)
to_hits int_point = inr (omega arith, inl (one_in refl, refl))
to_hits (int_e x) = inr (omega (arith, e_above x), inr (omega (arith, e_above x), e_hits x))
to_hits (point_digit d) = inl (d, refl)
to_hits (frac_digit d) = inl (d, refl)
to_hits (frac_e x) = inr (omega (arith, e_above x), e_hits x)
to_hits e_minus = inl (one_in refl, refl)
to_hits e_plus = inr (omega arith, inl (one_in refl, refl))
to_hits (e_digit d) = inr (omega arith, inr (omega arith, inl (d, refl)))
to_hits (sign_digit d) = inl (d, refl)
to_hits (exp_digit d) = inl (d, refl)

pub step_look : {p : Phase} {b : ℕ} {q : Phase} → Step p b q → look (next p) b ≡ some q
step_look {p} {b} {q} s = hits_look (next p) b q (to_hits s)

pub look_step : {p : Phase} {b : ℕ} {q : Phase} → look (next p) b ≡ some q → Step p b q
look_step {p} {b} {q} e = of_hit p (look_hit (next p) b q e)

-- ---- several steps

pub data Walk : Phase → Numeral → Bytes → Phase → Numeral → Type 0 where
  stay : {p : Phase} {d : Numeral} → Walk p d [] p d
  step
      : {p q u : Phase} {d f : Numeral} {xs : Bytes} {b : ℕ} → Step p b q → Walk q (extend q d b) xs u f
      → Walk p d (b ∷ xs) u f

pub walk : {p q : Phase} {d f : Numeral} {xs : Bytes} → NumberSteps p d xs q f → Walk p d xs q f
walk number_stay = stay
walk (number_then e h) = step (look_step e) (walk h)

abbrev pub num : Bool → ℕ → ℕ → Bool → Numeral
num m c n x = record { negative = m; coefficient = c; scale = n; exponent = x }

-- what is read behind a minus, or none
abbrev pub signed : Bool → Numeral
signed m = num m 0 0 false
