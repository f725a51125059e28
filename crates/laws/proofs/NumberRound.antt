-- Numbers written as plain JSON (definitions' Plain) are RFC 8259's numbers and mean what was written, and none is longer
-- than the number that it was read from. Assumes nothing.
use Rattle.std.specs.Prelude.{ℕ, zero, suc, ◌+◌, ◌-◌, ◌*◌, ◌/◌, ◌%◌, ◌^◌, ◌≤◌, ◌<◌, ◌≡◌, refl, Bool, true, false, not, ◌&&◌, ◌||◌, [], ◌∷◌, ◌++◌, ltb, eqb}
use Rattle.std.specs.Prelude.{length}
use Rattle.std.proofs.Common.{sym, ◌∙◌, ap, subst, subst₂, append_assoc, length-append, arith, div-one, add-zero, mul-le-mul_right}
use Rattle.std.proofs.Math.Nat.{div-div-eq-div-mul, pow-succ', mul-add-div_right, div-eq_of_lt, one-le-pow}
use Rattle.definitions.specs.Bytes.{Bytes, bytes}
use Rattle.definitions.specs.Number.{Number, most_coefficient, most_scale, Numeral, beyond, number_of}
use Rattle.definitions.specs.Plain.{decimal_within, decimal, last_digits, fraction, minus, plain_number}
use Rattle.laws.specs.Bools.{or_false_left, or_false_right, and_right, not_true, not_false}
use Rattle.laws.specs.Ranges.{leb_le, le-leb, leb_gt, gt_leb, eqb_ne, ne_eqb}
use Rattle.laws.specs.Good.{GoodNumber}
use Rattle.laws.specs.Rfc3629.{In}
use Rattle.laws.specs.Rfc8259 as Rfc

-- ---- numbers that keep the limits

-- what a numeral that is not beyond the limits means keeps them
pub good_number : (d : Numeral) → beyond d ≡ false → GoodNumber (number_of d)
unfolding beyond number_of
good_number d h =
    let a = or_false_left (ltb most_coefficient d.coefficient || ltb most_scale d.scale) d.exponent h in
    let b : d.coefficient < suc most_coefficient =
    leb_gt (or_false_left (ltb most_coefficient d.coefficient) (ltb most_scale d.scale) a) in
    let c : d.scale < suc most_scale =
    leb_gt (or_false_right (ltb most_coefficient d.coefficient) (ltb most_scale d.scale) a) in
    record {
      coefficient_fits = omega arith;
      scale_fits = omega arith;
      minus_fits = λ m. eqb_ne (not_true (eqb d.coefficient 0) (and_right d.negative (not (eqb d.coefficient 0)) m));
    }

-- ---- digits

-- the decimal digits of n, where those at hand lead on from n to v
within_int
    : (k n v m : ℕ) (after r : Bytes) → 1 ≤ n → n ≤ k → Rfc.digits n (after ++ r) v m r
    → Rfc.int (decimal_within k n after ++ r) v r
unfolding decimal_within
within_int zero n v m after r l h d = absurd (let z : ⊥ = omega arith in z)
within_int (suc k) n v m after r l h d = go (ltb n 10) refl (within_int k (n / 10) v (suc m) ((48 + n % 10) ∷ after) r)
  where
    go
        : (t : Bool) → ltb n 10 ≡ t
        → (1 ≤ n / 10 → n / 10 ≤ k → Rfc.digits (n / 10) ((48 + n % 10) ∷ after ++ r) v (suc m) r
        → Rfc.int (decimal_within k (n / 10) ((48 + n % 10) ∷ after) ++ r) v r)
        → Rfc.int (decimal_within (suc k) n after ++ r) v r
    go true e f =
        let x : n < 10 = leb_le e in
        let i : In 0x31 0x39 (48 + n) = omega arith in
        rw (e, decimal_within) (Rfc.int_digits i (subst (λ c. Rfc.digits c (after ++ r) v m r) (omega arith) d))
    go false e f =
        let x : 10 < suc n = leb_gt e in
        let i : In 0x30 0x39 (48 + n % 10) = omega arith in
        rw
        (e, decimal_within)
        (f (omega arith) (omega arith) (Rfc.digit i (subst (λ c. Rfc.digits c (after ++ r) v m r) (omega arith) d)))

decimal_int : (n : ℕ) (r : Bytes) → Rfc.int (decimal n ++ r) n r
unfolding decimal decimal_within
decimal_int zero r = Rfc.int_zero
decimal_int (suc n) r = within_int (suc (suc n)) (suc n) (suc n) 0 [] r (omega arith) (omega arith) Rfc.no_digits

-- the last k digits of n, where those at hand lead on from n to v
last_digits_of
    : (k n v m j : ℕ) (after r : Bytes) → j ≡ k + m → Rfc.digits n (after ++ r) v m r
    → Rfc.digits (n / 10 ^ k) (last_digits k n after ++ r) v j r
unfolding last_digits
last_digits_of zero n v m j after r e d =
    subst₂ (λ c i. Rfc.digits c (after ++ r) v i r) (sym (div-one n)) (let z : m ≡ j = omega arith in z) d
last_digits_of (suc k) n v m j after r e d =
    let i : In 0x30 0x39 (48 + n % 10) = omega arith in
    let h = last_digits_of k (n / 10) v (suc m) j ((48 + n % 10) ∷ after) r (omega arith)
    (Rfc.digit i (subst (λ c. Rfc.digits c (after ++ r) v m r) (omega arith) d)) in
    subst
    (λ c. Rfc.digits c (last_digits k (n / 10) ((48 + n % 10) ∷ after) ++ r) v j r)
    (div-div-eq-div-mul n 10 (10 ^ k) ∙ ap (λ x. n / x) (sym (pow-succ' 10 k)))
    h

point_of : {c d n : ℕ} {s r : Bytes} → Rfc.digits c s d (suc n) r → Rfc.frac c (0x2E ∷ s) d (suc n) r
point_of (Rfc.digit i h) = Rfc.point i (Rfc.digit i h)

fraction_frac : (k n : ℕ) (r : Bytes) → Rfc.frac (n / 10 ^ k) (fraction k n ++ r) n k r
unfolding fraction bytes
fraction_frac zero n r = subst (λ c. Rfc.frac c r n 0 r) (sym (div-one n)) Rfc.no_frac
fraction_frac (suc k) n r = point_of (last_digits_of (suc k) n n 0 (suc k) [] r (omega arith) Rfc.no_digits)

-- ---- what was written is read

minus_part_of : (m : Bool) (r : Bytes) → Rfc.minus_part (minus m ++ r) m r
unfolding minus bytes
minus_part_of true r = Rfc.has_minus
minus_part_of false r = Rfc.no_minus

-- the numeral that a number is written as
abbrev numeral_of : Number → Numeral
numeral_of x = record { negative = x.negative; coefficient = x.coefficient; scale = x.scale; exponent = false }

number_of_numeral : (x : Number) → GoodNumber x → number_of (numeral_of x) ≡ x
unfolding number_of
number_of_numeral x g = λ i. record { negative = sign x.negative refl i; coefficient = x.coefficient; scale = x.scale }
  where
    sign : (b : Bool) → x.negative ≡ b → x.negative && not (eqb x.coefficient 0) ≡ x.negative
    sign true e = rw e (not_false (ne_eqb (g.minus_fits e)))
    sign false e = rw e refl

within_limits : (x : Number) → GoodNumber x → beyond (numeral_of x) ≡ false
unfolding beyond
within_limits x g =
    let a : ltb most_coefficient x.coefficient ≡ false =
    gt_leb (let z : x.coefficient < suc most_coefficient = omega (arith, g.coefficient_fits) in z) in
    let b : ltb most_scale x.scale ≡ false =
    gt_leb (let z : x.scale < suc most_scale = omega (arith, g.scale_fits) in z) in
    rw (a, b, beyond)

plain_number_number : (x : Number) (r : Bytes) → Rfc.number (plain_number x ++ r) (numeral_of x) r
unfolding plain_number
plain_number_number x r = subst (λ s. Rfc.number s (numeral_of x) r) (sym apart) whole
  where
    a : Bytes
    a = minus x.negative

    b : Bytes
    b = decimal (x.coefficient / 10 ^ x.scale)

    c : Bytes
    c = fraction x.scale x.coefficient

    apart : a ++ b ++ c ++ r ≡ a ++ (b ++ (c ++ r))
    apart = append_assoc (a ++ b) c r ∙ append_assoc a b (c ++ r)

    whole : Rfc.number (a ++ (b ++ (c ++ r))) (numeral_of x) r
    whole =
        Rfc.numeral
        (minus_part_of x.negative (b ++ (c ++ r)))
        (decimal_int (x.coefficient / 10 ^ x.scale) (c ++ r))
        (fraction_frac x.scale x.coefficient r)
        Rfc.no_exp

-- a number that keeps the limits is written as a number that means it
pub plain_number_reads
    : (x : Number) → GoodNumber x → (r : Bytes)
    → (d : Numeral) × Rfc.number (plain_number x ++ r) d r × (number_of d ≡ x) × (beyond d ≡ false)
plain_number_reads x g r = (numeral_of x, plain_number_number x r, number_of_numeral x g, within_limits x g)

-- ---- lengths

digit_under : (x p e : ℕ) → x ≤ 9 → e < p → x * p + e < 10 * p
digit_under x p e h l = let k : x * p ≤ 9 * p = mul-le-mul_right p h in omega arith

digit_value : (c x p e : ℕ) → (c * 10 + x) * p + e ≡ c * (10 * p) + (x * p + e)
digit_value c x p e = omega arith

-- what digits add to a coefficient, and how many they are
pub digits_value
    : {c d n : ℕ} {s r : Bytes} → Rfc.digits c s d n r
    → (e : ℕ) × (e < 10 ^ n) × (d ≡ c * 10 ^ n + e) × (length s ≡ n + length r)
digits_value {c} Rfc.no_digits = (0, omega arith, omega arith, omega arith)
digits_value {c} (Rfc.digit {b} {d} {n} i h) =
    let k = digits_value h in
    let x : ℕ = b - 0x30 in
    let e : ℕ = x * 10 ^ n + k.0 in (
      e,
      subst (λ q. e < q) (sym (pow-succ' 10 n)) (digit_under x (10 ^ n) k.0 (omega arith) k.1),
      k.2 ∙ digit_value c x (10 ^ n) k.0 ∙ ap (λ q. c * q + e) (sym (pow-succ' 10 n)),
      omega arith,
    )

-- the int of a number, from its coefficient
pub frac_int : {c d n : ℕ} {s r : Bytes} → Rfc.frac c s d n r → d / 10 ^ n ≡ c
frac_int {c} Rfc.no_frac = div-one c
frac_int {c} {d} (Rfc.point {n} i h) =
    let k = digits_value h in
    let p = one-le-pow (suc n) 10 (omega arith) in
    ap (λ x. x / 10 ^ suc n) k.2 ∙ mul-add-div_right p c k.0 ∙ ap (λ x. c + x) (div-eq_of_lt k.1) ∙ add-zero c

-- a number below ten to the j is written in at most j digits
within_length
    : (k j n : ℕ) (after : Bytes) → 1 ≤ j → n < 10 ^ j → length (decimal_within k n after) ≤ j + length after
unfolding decimal_within
within_length zero j n after h l = omega arith
within_length (suc k) zero n after h l = absurd (let z : ⊥ = omega arith in z)
within_length (suc k) (suc zero) n after h l = let e : ltb n 10 ≡ true = le-leb l in rw (e, decimal_within) (omega arith)
within_length (suc k) (suc (suc j)) n after h l =
    go (ltb n 10) refl (within_length k (suc j) (n / 10) ((48 + n % 10) ∷ after) (omega arith) (omega arith))
  where
    go
        : (t : Bool) → ltb n 10 ≡ t
        → length (decimal_within k (n / 10) ((48 + n % 10) ∷ after)) ≤ suc j + suc (length after)
        → length (decimal_within (suc k) n after) ≤ suc (suc j) + length after
    go true e f = rw (e, decimal_within) (omega arith)
    go false e f = rw (e, decimal_within) (omega arith)

decimal_length : (j n : ℕ) → 1 ≤ j → n < 10 ^ j → length (decimal n) ≤ j
unfolding decimal
decimal_length j n h l = let k = within_length (suc n) j n [] h l in omega arith

int_length : {s r : Bytes} {c : ℕ} → Rfc.int s c r → length (decimal c) + length r ≤ length s
int_length Rfc.int_zero = let k = decimal_length 1 0 (omega arith) (omega arith) in omega arith
int_length (Rfc.int_digits {b} {c} {n} i h) =
    let k = digits_value h in
    let l : c < 10 ^ suc n =
    subst₂ ◌<◌ (sym k.2) (sym (pow-succ' 10 n)) (digit_under (b - 0x30) (10 ^ n) k.0 (omega arith) k.1) in
    let m = decimal_length (suc n) c (omega arith) l in
    omega arith

last_digits_length : (k n : ℕ) (after : Bytes) → length (last_digits k n after) ≡ k + length after
unfolding last_digits
last_digits_length zero n after = omega arith
last_digits_length (suc k) n after = let h = last_digits_length k (n / 10) ((48 + n % 10) ∷ after) in omega arith

frac_length : {c d n : ℕ} {s r : Bytes} → Rfc.frac c s d n r → length (fraction n d) + length r ≡ length s
unfolding fraction bytes
frac_length Rfc.no_frac = omega arith
frac_length (Rfc.point {d} {n} i h) =
    let k = digits_value h in
    let m = last_digits_length (suc n) d [] in
    omega arith

digits_length : {c d n : ℕ} {s r : Bytes} → Rfc.digits c s d n r → length r ≤ length s
digits_length h = let k = digits_value h in omega arith

sign_length : {s r : Bytes} → Rfc.sign s r → length r ≤ length s
sign_length Rfc.no_sign = omega arith
sign_length Rfc.minus = omega arith
sign_length Rfc.plus = omega arith

exp_length : {s r : Bytes} {x : Bool} → Rfc.exp s x r → length r ≤ length s
exp_length Rfc.no_exp = omega arith
exp_length (Rfc.exponent x i h) =
    let k = sign_length i in
    let l = digits_length h in
    omega arith

-- a minus may go, where the number is zero
minus_length : {s r : Bytes} {m : Bool} → Rfc.minus_part s m r → (b : Bool) → length (minus (m && b)) + length r ≤ length s
unfolding minus bytes
minus_length Rfc.no_minus b = omega arith
minus_length Rfc.has_minus true = omega arith
minus_length Rfc.has_minus false = omega arith

-- a number written again is not longer than it was
pub number_length
    : {s r : Bytes} {d : Numeral} → Rfc.number s d r → beyond d ≡ false
    → length (plain_number (number_of d)) + length r ≤ length s
unfolding plain_number number_of
number_length (Rfc.numeral {m} {x} {c} {d} {n} g i h k) z =
    let a : Bytes = minus (m && not (eqb d 0)) in
    let b : Bytes = decimal (d / 10 ^ n) in
    let e = minus_length g (not (eqb d 0)) in
    let f = int_length i in
    let l = frac_length h in
    let o = exp_length k in
    let p : length b ≡ length (decimal c) = ap (λ y. length (decimal y)) (frac_int h) in
    let q = length-append a b in
    let t = length-append (a ++ b) (fraction n d) in
    omega arith
