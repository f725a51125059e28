-- Bytes stepped through inside a number are RFC 8259's `number`: what is left of one in each phase. Assumes nothing.
use Rattle.std.specs.Prelude.{ℕ, suc, ◌+◌, ◌-◌, ◌*◌, ◌≡◌, refl, Bool, true, false, ◌∷◌, ◌++◌}
use Rattle.std.proofs.Common.{sym, ap, subst, arith}
use Rattle.std.proofs.lemmas.Bool.{false≢true}
use Rattle.definitions.specs.Bytes.{Bytes}
use Rattle.definitions.specs.Number.{Numeral, no_digits, shifted, Phase, begin, after_minus, after_zero, in_int}
use Rattle.definitions.specs.Number.{after_point, in_frac, after_e, after_sign, in_exp, complete, extend}
use Rattle.laws.specs.Rfc3629.{In}
use Rattle.laws.specs.Rfc8259 as Rfc
use Rattle.laws.proofs.NumberSteps.{Walk, stay, step, signed}
use Rattle.laws.proofs.NumberSteps.{minus, zero_first, digit_first, minus_zero, minus_digit, zero_point, zero_e, int_digit, int_point}
use Rattle.laws.proofs.NumberSteps.{int_e, point_digit, frac_digit, frac_e, e_minus, e_plus, e_digit, sign_digit, exp_digit}

-- a numeral by its parts
record Reads (f : Numeral) (m : Bool) (c s : ℕ) (x : Bool) : Type 0 where
  negative : f.negative ≡ m
  coefficient : f.coefficient ≡ c
  scale : f.scale ≡ s
  exponent : f.exponent ≡ x

-- ---- what is left of a number in each phase

exp_rest
    : {d f : Numeral} {xs : Bytes} {q : Phase} → Walk in_exp d xs q f → (r : Bytes) (c : ℕ)
    → (k n : ℕ) × Rfc.digits c (xs ++ r) k n r × (f ≡ d)
unfolding extend
exp_rest stay r c = (c, 0, Rfc.no_digits, refl)
exp_rest (step {b} (exp_digit i) w) r c =
    let k = exp_rest w r (c * 10 + (b - 0x30)) in
    (k.0, suc k.1, Rfc.digit i k.2, k.3)

sign_rest
    : {d f : Numeral} {xs : Bytes} {q : Phase} → Walk after_sign d xs q f → complete q ≡ true → (r : Bytes)
    → (k n : ℕ) × Rfc.digits 0 (xs ++ r) k (suc n) r × (f ≡ d)
unfolding extend complete
sign_rest stay c r = absurd (false≢true c)
sign_rest (step {b} (sign_digit i) w) c r =
    let k = exp_rest w r (0 * 10 + (b - 0x30)) in
    (k.0, k.1, Rfc.digit i k.2, k.3)

e_rest
    : {d f : Numeral} {xs : Bytes} {q : Phase} {b : ℕ} → Rfc.e b → Walk after_e d xs q f → complete q ≡ true → (r : Bytes)
    → Rfc.exp (b ∷ xs ++ r) true r × (f ≡ d)
unfolding extend complete
e_rest x stay c r = absurd (false≢true c)
e_rest x (step e_minus w) c r = let k = sign_rest w c r in (Rfc.exponent x Rfc.minus k.2, k.3)
e_rest x (step e_plus w) c r = let k = sign_rest w c r in (Rfc.exponent x Rfc.plus k.2, k.3)
e_rest x (step {b} (e_digit i) w) c r =
    let k = exp_rest w r (0 * 10 + (b - 0x30)) in
    (Rfc.exponent {c = 0} x Rfc.no_sign (Rfc.digit i k.2), k.3)

-- behind an e, the numeral is what it was but for its exponent
reads_e : (d : Numeral) {f : Numeral} (b : ℕ) → f ≡ extend after_e d b → Reads f d.negative d.coefficient d.scale true
unfolding extend
reads_e d b e =
    record {
      negative = ap (λ g. g.negative) e;
      coefficient = ap (λ g. g.coefficient) e;
      scale = ap (λ g. g.scale) e;
      exponent = ap (λ g. g.exponent) e;
    }

reads_itself : (d : Numeral) → d.exponent ≡ false → Reads d d.negative d.coefficient d.scale false
reads_itself d z = record { negative = refl; coefficient = refl; scale = refl; exponent = z }

-- another scale that is the same number
rescale : {f : Numeral} {m : Bool} {c s : ℕ} {x : Bool} (t : ℕ) → s ≡ t → Reads f m c s x → Reads f m c t x
rescale {f} {m} {c} {s} {x} t e h = subst (λ k. Reads f m c k x) e h

-- in s there are the rest of a fraction and an exponent that lead from d to f
abbrev InFrac : Numeral → Numeral → Bytes → Bytes → Type 0
InFrac d f s r =
    (k n : ℕ) × (x : Bool) × (w : Bytes) × Rfc.digits d.coefficient s k n w × Rfc.exp w x r
    × Reads f d.negative k (d.scale + n) x

frac_rest
    : {d f : Numeral} {xs : Bytes} {q : Phase} → Walk in_frac d xs q f → complete q ≡ true → d.exponent ≡ false → (r : Bytes)
    → InFrac d f (xs ++ r) r
unfolding extend shifted
frac_rest {d} stay c z r =
    (d.coefficient, 0, false, r, Rfc.no_digits, Rfc.no_exp, rescale (d.scale + 0) (omega arith) (reads_itself d z))
frac_rest {d} (step {xs} {b} (frac_digit i) w) c z r =
    let k = frac_rest w c z r in
    (k.0, suc k.1, k.2, k.3, Rfc.digit i k.4, k.5, rescale (d.scale + suc k.1) (omega arith) k.6)
frac_rest {d} (step {xs} {b} (frac_e x) w) c z r =
    let k = e_rest x w c r in
    (d.coefficient, 0, true, b ∷ xs ++ r, Rfc.no_digits, k.0, rescale (d.scale + 0) (omega arith) (reads_e d b k.1))

-- the same behind an int
abbrev AtFrac : Numeral → Numeral → Bytes → Bytes → Type 0
AtFrac d f s r =
    (k n : ℕ) × (x : Bool) × (w : Bytes) × Rfc.frac d.coefficient s k n w × Rfc.exp w x r
    × Reads f d.negative k (d.scale + n) x

no_more : (d : Numeral) → d.exponent ≡ false → (r : Bytes) → AtFrac d d r r
no_more d z r =
    (d.coefficient, 0, false, r, Rfc.no_frac, Rfc.no_exp, rescale (d.scale + 0) (omega arith) (reads_itself d z))

e_more
    : (d : Numeral) {f : Numeral} {xs : Bytes} {q : Phase} {b : ℕ} → Rfc.e b → Walk after_e (extend after_e d b) xs q f → complete q ≡ true
    → (r : Bytes) → AtFrac d f (b ∷ xs ++ r) r
e_more d {f} {xs} {q} {b} x w c r =
    let k = e_rest x w c r in
    (d.coefficient, 0, true, b ∷ xs ++ r, Rfc.no_frac, k.0, rescale (d.scale + 0) (omega arith) (reads_e d b k.1))

point_rest
    : {d f : Numeral} {xs : Bytes} {q : Phase} → Walk after_point d xs q f → complete q ≡ true → d.exponent ≡ false
    → (r : Bytes) → AtFrac d f (0x2E ∷ xs ++ r) r
unfolding extend shifted complete
point_rest stay c z r = absurd (false≢true c)
point_rest {d} (step (point_digit i) w) c z r =
    let k = frac_rest w c z r in
    let a : ℕ = suc k.1 in
    (k.0, a, k.2, k.3, Rfc.point i (Rfc.digit i k.4), k.5, rescale (d.scale + a) (omega arith) k.6)

zero_rest
    : {d f : Numeral} {xs : Bytes} {q : Phase} → Walk after_zero d xs q f → complete q ≡ true → d.exponent ≡ false
    → (r : Bytes) → AtFrac d f (xs ++ r) r
unfolding extend
zero_rest {d} stay c z r = no_more d z r
zero_rest (step zero_point w) c z r = point_rest w c z r
zero_rest {d} (step (zero_e x) w) c z r = e_more d x w c r

-- the same with the rest of an int before it
abbrev InInt : Numeral → Numeral → Bytes → Bytes → Type 0
InInt d f s r =
    (i m k n : ℕ) × (x : Bool) × (u w : Bytes) × Rfc.digits d.coefficient s i m u × Rfc.frac i u k n w × Rfc.exp w x r
    × Reads f d.negative k (d.scale + n) x

no_int : (d f : Numeral) (s r : Bytes) → AtFrac d f s r → InInt d f s r
no_int d f s r k = (d.coefficient, 0, k.0, k.1, k.2, s, k.3, Rfc.no_digits, k.4, k.5, k.6)

int_rest
    : {d f : Numeral} {xs : Bytes} {q : Phase} → Walk in_int d xs q f → complete q ≡ true → d.exponent ≡ false → (r : Bytes)
    → InInt d f (xs ++ r) r
unfolding extend shifted
int_rest {d} stay c z r = no_int d d r r (no_more d z r)
int_rest (step (int_digit i) w) c z r =
    let k = int_rest w c z r in
    (k.0, suc k.1, k.2, k.3, k.4, k.5, k.6, Rfc.digit i k.7, k.8, k.9, k.10)
int_rest {d} {f} (step {xs} int_point w) c z r = no_int d f (0x2E ∷ xs ++ r) r (point_rest w c z r)
int_rest {d} {f} (step {xs} {b} (int_e x) w) c z r = no_int d f (b ∷ xs ++ r) r (e_more d x w c r)

-- ---- soundness

as_number
    : {f : Numeral} {m x : Bool} {c n : ℕ} {s r : Bytes}
    → Rfc.number s (record { negative = m; coefficient = c; scale = n; exponent = x }) r → Reads f m c n x → Rfc.number s f r
as_number {f} {m} {x} {c} {n} {s} {r} g h = subst (λ d. Rfc.number s d r) (sym same) g
  where
    same : f ≡ record { negative = m; coefficient = c; scale = n; exponent = x }
    same = λ i. record { negative = h.negative i; coefficient = h.coefficient i; scale = h.scale i; exponent = h.exponent i }

-- an int and what follows, behind the minus
int_sound
    : {m : Bool} {f : Numeral} {s t r : Bytes} {b : ℕ} → Rfc.minus_part s m (b ∷ t) → In 0x31 0x39 b
    → InInt (extend in_int (signed m) b) f t r → Rfc.number s f r
unfolding extend shifted
int_sound {t} {b} p i k = as_number (Rfc.numeral p (Rfc.int_digits i from) k.8 k.9) (rescale k.3 (omega arith) k.10)
  where
    from : Rfc.digits (b - 0x30) t k.0 k.1 k.5
    from = subst (λ c. Rfc.digits c t k.0 k.1 k.5) (omega arith) k.7

zero_sound
    : {m : Bool} {f : Numeral} {s t r : Bytes} → Rfc.minus_part s m (0x30 ∷ t) → AtFrac (signed m) f t r → Rfc.number s f r
zero_sound p k = as_number (Rfc.numeral p Rfc.int_zero k.4 k.5) (rescale k.1 (omega arith) k.6)

minus_sound
    : {f : Numeral} {xs : Bytes} {q : Phase} → Walk after_minus (signed true) xs q f → complete q ≡ true → (r : Bytes)
    → Rfc.number (0x2D ∷ xs ++ r) f r
unfolding complete extend
minus_sound stay c r = absurd (false≢true c)
minus_sound (step minus_zero w) c r = zero_sound Rfc.has_minus (zero_rest w c refl r)
minus_sound (step (minus_digit i) w) c r = int_sound Rfc.has_minus i (int_rest w c refl r)

pub begin_sound
    : {f : Numeral} {xs : Bytes} {q : Phase} → Walk begin no_digits xs q f → complete q ≡ true → (r : Bytes)
    → Rfc.number (xs ++ r) f r
unfolding complete extend no_digits
begin_sound stay c r = absurd (false≢true c)
begin_sound (step minus w) c r = minus_sound w c r
begin_sound (step zero_first w) c r = zero_sound Rfc.no_minus (zero_rest w c refl r)
begin_sound (step (digit_first i) w) c r = int_sound Rfc.no_minus i (int_rest w c refl r)
