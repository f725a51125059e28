-- A number other than zero is as long in plain JSON as it was read. Assumes nothing.
use Prim.Native.Nat.{ℕ, suc, ◌+◌, ◌-◌, ◌*◌, ◌/◌, ◌^◌, ◌≤◌}
use native.Mathlib.Omega.{arith}
use mathlib.Core.Path.{◌≡◌, refl, sym, ap, ◌∙◌, subst}
use mathlib.Core.Bool.{Bool, true, false, ◌&&◌, ◌||◌, not, true≢false, false≢true}
use mathlib.Core.List.{[], ◌∷◌}
use mathlib.Core.Option.{Option, none, some}
use borrow.Author.Tests.{ne_eqb}
use lib.Dec.{eqb, ltb}
use lib.ListN.{length, drop, length-drop}
use Rattle.definitions.specs.Bytes.{Bytes, bytes, look}
use Rattle.definitions.specs.Number.{Numeral, most_coefficient, most_scale, no_digits, beyond, number_of, Phase, begin, after_minus}
use Rattle.definitions.specs.Number.{after_zero, in_int, after_point, in_frac, after_e, after_sign, in_exp, next, complete, extend, shifted}
use Rattle.definitions.specs.Plain.{decimal, minus, plain_number}
use Rattle.laws.proofs.NumberSteps as Steps
use Rattle.laws.proofs.NumberSteps.{Step, look_step}
use Rattle.number.specs.NumberRun.{longest}
use Rattle.number.specs.NumberRead.{ReadsNumber, run_at, number_in}
use Rattle.number.specs.NumberLaws.{longest_on, longest_off}
use Rattle.number.specs.DecimalLaws.{length_small, length_large, quotient_zero, quotient_suc, length_fraction_none, length_fraction, length_plain}
use Rattle.number.specs.declared.NumberRead.{NumberRead}
use Rattle.json_reader.specs.JsonParts.{AsRead}

-- ---- how many bytes have been read

-- those of a sign and an integer part
abbrev whole_length : Numeral → ℕ
whole_length d = length (minus d.negative) + length (decimal (d.coefficient / 10 ^ d.scale))

-- the bytes k that led to a phase and these digits; of a number with an exponent nothing is said
abbrev Spent : Phase → Numeral → ℕ → Type 0
Spent begin d k = (d.negative ≡ false) × (d.coefficient ≡ 0) × (d.scale ≡ 0) × (k ≡ 0)
Spent after_minus d k = (d.negative ≡ true) × (d.coefficient ≡ 0) × (d.scale ≡ 0) × (k ≡ 1)
Spent after_zero d k = (d.coefficient ≡ 0) × (d.scale ≡ 0) × (k ≡ whole_length d)
Spent in_int d k = (1 ≤ d.coefficient) × (d.scale ≡ 0) × (k ≡ whole_length d)
Spent after_point d k = (d.scale ≡ 0) × (k ≡ whole_length d + 1)
Spent in_frac d k = (1 ≤ d.scale) × (k ≡ whole_length d + 1 + d.scale)
Spent after_e d k = d.exponent ≡ true
Spent after_sign d k = d.exponent ≡ true
Spent in_exp d k = d.exponent ≡ true

no_sign : {m : Bool} → m ≡ false → length (minus m) ≡ 0
unfolding minus
no_sign e = rw e

a_sign : {m : Bool} → m ≡ true → length (minus m) ≡ 1
unfolding minus bytes
a_sign e = rw e

-- the integer part where there is no fraction
unscaled : {c m : ℕ} → m ≡ 0 → c / 10 ^ m ≡ c
unscaled {c} e = ap (λ (n : ℕ). c / 10 ^ n) e ∙ quotient_zero c

one_long : {c m : ℕ} → m ≡ 0 → c ≤ 9 → length (decimal (c / 10 ^ m)) ≡ 1
one_long {c} e h = ap (λ (n : ℕ). length (decimal n)) (unscaled e) ∙ length_small c (omega arith)

-- a digit more of the integer part
one_longer : {c m x : ℕ} → m ≡ 0 → 1 ≤ c → x ≤ 9 → length (decimal ((c * 10 + x) / 10 ^ m)) ≡ suc (length (decimal (c / 10 ^ m)))
one_longer {c} {m} {x} e p h =
    let less : (c * 10 + x) / 10 ≡ c = omega arith in
    ap (λ (n : ℕ). length (decimal n)) (unscaled e)
    ∙ length_large (c * 10 + x) (omega arith)
    ∙ ap (λ (n : ℕ). suc (length (decimal n))) (less ∙ sym (unscaled e))

-- a digit more of the fraction
same_whole : (c m : ℕ) {x : ℕ} → x ≤ 9 → length (decimal ((c * 10 + x) / 10 ^ suc m)) ≡ length (decimal (c / 10 ^ m))
same_whole c m {x} h =
    let less : (c * 10 + x) / 10 ≡ c = omega arith in
    ap (λ (n : ℕ). length (decimal n)) (quotient_suc m (c * 10 + x) ∙ ap (λ (n : ℕ). n / 10 ^ m) less)

spent_step : {p q : Phase} {b : ℕ} → Step p b q → (d : Numeral) (k : ℕ) → Spent p d k → Spent q (extend q d b) (suc k)
unfolding extend shifted
spent_step Steps.minus d k (n, c, s, e) = (refl, c, s, omega arith)
spent_step Steps.zero_first d k (n, c, s, e) = (c, s, omega (arith, no_sign n, one_long {c = d.coefficient} s (omega (arith, c))))
spent_step (Steps.digit_first {b} i) d k (n, c, s, e) =
    (omega (arith, c), s, omega (arith, no_sign n, one_long {c = d.coefficient * 10 + (b - 48)} s (omega (arith, c))))
spent_step Steps.minus_zero d k (n, c, s, e) = (c, s, omega (arith, a_sign n, one_long {c = d.coefficient} s (omega (arith, c))))
spent_step (Steps.minus_digit {b} i) d k (n, c, s, e) =
    (omega (arith, c), s, omega (arith, a_sign n, one_long {c = d.coefficient * 10 + (b - 48)} s (omega (arith, c))))
spent_step Steps.zero_point d k (c, s, e) = (s, omega (arith, e))
spent_step (Steps.zero_e x) d k h = refl
spent_step (Steps.int_digit {b} i) d k (p, s, e) = (omega (arith, p), s, omega (arith, e, one_longer {c = d.coefficient} {x = b - 48} s p (omega arith)))
spent_step Steps.int_point d k (p, s, e) = (s, omega (arith, e))
spent_step (Steps.int_e x) d k h = refl
spent_step (Steps.point_digit {b} i) d k (s, e) =
    (omega arith, omega (arith, e, s, same_whole d.coefficient d.scale {x = b - 48} (omega arith)))
spent_step (Steps.frac_digit {b} i) d k (s, e) =
    (omega arith, omega (arith, e, same_whole d.coefficient d.scale {x = b - 48} (omega arith)))
spent_step (Steps.frac_e x) d k h = refl
spent_step Steps.e_minus d k h = h
spent_step Steps.e_plus d k h = h
spent_step (Steps.e_digit i) d k h = h
spent_step (Steps.sign_digit i) d k h = h
spent_step (Steps.exp_digit i) d k h = h

-- a run spends what it goes along
longest_spent
    : (p : Phase) (d : Numeral) (s : Bytes) (k n : ℕ) → Spent p d k → n + length (longest p d s).rest ≡ k + length s
    → Spent (longest p d s).phase (longest p d s).digits n
unfolding longest
longest_spent p d [] k n h e = let same : k ≡ n = omega arith in subst (Spent p d) same h
longest_spent p d (b ∷ r) k n h e = go (look (next p) b) refl (λ q. longest_spent q (extend q d b) r (suc k) n)
  where
    go
        : (m : Option Phase) → look (next p) b ≡ m
        → ((q : Phase) → Spent q (extend q d b) (suc k) → n + length (longest q (extend q d b) r).rest ≡ suc k + length r
        → Spent (longest q (extend q d b) r).phase (longest q (extend q d b) r).digits n)
        → Spent (longest p d (b ∷ r)).phase (longest p d (b ∷ r)).digits n
    go none f more =
        let left : n + suc (length r) ≡ k + suc (length r) = rw (longest_off p d b r f) at e in
        let same : k ≡ n = omega arith in
        rw (longest_off p d b r f) (subst (Spent p d) same h)
    go (some q) f more =
        let left : n + length (longest q (extend q d b) r).rest ≡ k + suc (length r) = rw (longest_on p d b r f) at e in
        rw (longest_on p d b r f) (more q (spent_step (look_step f) d k h) (omega (arith, left)))

-- ---- a number that ends

-- one with an exponent is beyond
no_exponent : (d : Numeral) → beyond d ≡ false → d.exponent ≡ true → ⊥
unfolding beyond
no_exponent d e f = go (ltb most_coefficient d.coefficient) (ltb most_scale d.scale) d.exponent e f
  where
    go : (a b x : Bool) → a || b || x ≡ false → x ≡ true → ⊥
    go true b x z h = true≢false z
    go false true x z h = true≢false z
    go false false x z h = true≢false (sym h ∙ z)

signed_same : (m : Bool) (c : ℕ) → (c ≡ 0 → ⊥) → m && not (eqb c 0) ≡ m
signed_same true c h = rw (ne_eqb c 0 h)
signed_same false c h = refl

spent_length
    : (p : Phase) (d : Numeral) (k : ℕ) → complete p ≡ true → beyond d ≡ false → (d.coefficient ≡ 0 → ⊥) → Spent p d k
    → length (plain_number (number_of d)) ≡ k
unfolding complete number_of
spent_length begin d k e f n h = absurd (false≢true e)
spent_length after_minus d k e f n h = absurd (false≢true e)
spent_length after_zero d k e f n (c, s, q) = absurd (n c)
spent_length in_int d k e f n (p, s, q) =
    omega (
      arith,
      q,
      length_plain (number_of d),
      ap (λ (m : Bool). length (minus m)) (signed_same d.negative d.coefficient n),
      length_fraction_none d.scale d.coefficient s,
    )
spent_length after_point d k e f n h = absurd (false≢true e)
spent_length in_frac d k e f n (p, q) =
    omega (
      arith,
      q,
      length_plain (number_of d),
      ap (λ (m : Bool). length (minus m)) (signed_same d.negative d.coefficient n),
      length_fraction d.scale d.coefficient (λ z. omega (arith, p, z)),
    )
spent_length after_e d k e f n h = absurd (no_exponent d f h)
spent_length after_sign d k e f n h = absurd (no_exponent d f h)
spent_length in_exp d k e f n h = absurd (no_exponent d f h)

read_length
    : {doc : Bytes} {at : ℕ} {x : NumberRead} → at ≤ length doc → ReadsNumber doc at x → x.complete ≡ true → x.beyond ≡ false
    → (x.coefficient ≡ 0 → ⊥) → length (plain_number (number_in x)) ≡ x.end - at
unfolding number_of no_digits
read_length {doc} {at} {x} h r e f n =
    let same = r.meaning f in
    ap (λ y. length (plain_number y)) same
    ∙ spent_length (run_at doc at).phase (run_at doc at).digits (x.end - at) (sym r.whole ∙ e) (sym r.over ∙ f)
    (λ z. n (ap (λ y. y.coefficient) same ∙ z))
    (longest_spent begin no_digits (drop at doc) 0 (x.end - at) (refl, refl, refl, refl)
    (omega (arith, r.behind, r.within, h, length-drop at doc, length-drop x.end doc, ap length r.rest)))

pub number_as_read
    : {doc : Bytes} {at : ℕ} {x : NumberRead} → at ≤ length doc → ReadsNumber doc at x → x.complete ≡ true → x.beyond ≡ false → AsRead at x
number_as_read h r e f = record { behind = r.behind; long = read_length h r e f }
