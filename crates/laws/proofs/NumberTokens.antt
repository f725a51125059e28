-- Numbers byte by byte (definitions' Number) and RFC 8259's `number`: each reads what the other does. Assumes nothing.
use Rattle.std.specs.Prelude.{ℕ, suc, ◌+◌, ◌-◌, ◌*◌, ◌≤◌, ◌≡◌, refl, ◌⊎◌, Bool, true, false, length}
use Rattle.std.proofs.Common.{sym, ◌∙◌, ap, subst, inl, inr, arith, length-append}
use Rattle.std.proofs.lemmas.Bool.{false≢true}
use mathlib.Core.List.{[], ◌∷◌, ◌++◌, append_assoc, head-eq_of_cons-eq, tail-eq_of_cons-eq}
use Rattle.std.proofs.Math.Option.{none, some, some-injective, none-ne-some}
use Rattle.definitions.specs.Bytes.{Bytes, look}
use Rattle.definitions.specs.Number.{Numeral, no_digits, shifted, Phase, begin, after_minus, after_zero, in_int}
use Rattle.definitions.specs.Number.{after_point, in_frac, after_e, after_sign, in_exp, next, complete, extend}
use Rattle.laws.specs.Rfc3629.{In}
use Rattle.laws.specs.Rfc8259 as Rfc
use Rattle.laws.specs.Steps.{NumberSteps, number_stay, number_then, number_steps_append}
use Rattle.laws.proofs.NumberSteps.{Step, walk, num, signed, look_step, step_look}
use Rattle.laws.proofs.NumberSteps.{minus, zero_first, digit_first, minus_zero, minus_digit, zero_point, zero_e, int_digit, int_point}
use Rattle.laws.proofs.NumberSteps.{int_e, point_digit, frac_digit, frac_e, e_minus, e_plus, e_digit, sign_digit, exp_digit}
use Rattle.laws.proofs.NumberSound.{begin_sound}

-- bytes that were stepped through to where a number may end are one
pub number_sound
    : {xs : Bytes} {p : Phase} {d : Numeral} → NumberSteps begin no_digits xs p d → complete p ≡ true → (r : Bytes)
    → Rfc.number (xs ++ r) d r
number_sound h c r = begin_sound (walk h) c r

-- ---- completeness

-- s begins with bytes that lead from p and d to q and f, and r is left
abbrev Through : Phase → Numeral → Phase → Numeral → Bytes → Bytes → Type 0
Through p d q f s r = (xs : Bytes) × (s ≡ xs ++ r) × NumberSteps p d xs q f

through_none : {p : Phase} {d : Numeral} {s : Bytes} → Through p d p d s s
through_none = ([], refl, number_stay)

through_one : {p q : Phase} {d : Numeral} {b : ℕ} {s : Bytes} → Step p b q → Through p d q (extend q d b) (b ∷ s) s
through_one {b} i = (b ∷ [], refl, number_then (step_look i) number_stay)

through_append
    : {p q u : Phase} {d f g : Numeral} {s t r : Bytes} → Through p d q f s t → Through q f u g t r → Through p d u g s r
through_append {r} h k =
    (h.0 ++ k.0, h.1 ∙ ap (λ x. h.0 ++ x) k.1 ∙ sym (append_assoc h.0 k.0 r), number_steps_append h.2 k.2)

-- digits lead from a phase to itself; g is the numeral by its coefficient and the number of digits read
digits_through
    : (p : Phase) (g : ℕ → ℕ → Numeral) → ((b : ℕ) → In 0x30 0x39 b → Step p b p)
    → ((c k b : ℕ) → extend p (g c k) b ≡ g (c * 10 + (b - 0x30)) (suc k)) → {c d n : ℕ} {s r : Bytes}
    → Rfc.digits c s d n r → (k : ℕ) → (j : ℕ) × (j ≡ k + n) × Through p (g c k) p (g d j) s r
digits_through p g f e Rfc.no_digits k = (k, omega arith, through_none)
digits_through p g f e {c} {d} {s} {r} (Rfc.digit {b} {s = t} i h) k =
    let w = digits_through p g f e h (suc k) in
    let one : Through p (g c k) p (g (c * 10 + (b - 0x30)) (suc k)) (b ∷ t) t =
    subst (λ y. Through p (g c k) p y (b ∷ t) t) (e c k b) (through_one (f b i)) in
    (w.0, omega arith, through_append one w.2)

-- where an int may begin
start : Bool → Phase
start false = begin
start true = after_minus

-- where a fraction may begin, and where an exponent may
data AtPoint : Phase → Type 0 where
  point_zero : AtPoint after_zero
  point_int : AtPoint in_int

data AtE : Phase → Type 0 where
  e_zero : AtE after_zero
  e_int : AtE in_int
  e_frac : AtE in_frac

minus_through : {m : Bool} {s t : Bytes} → Rfc.minus_part s m t → Through begin no_digits (start m) (signed m) s t
unfolding start no_digits extend
minus_through Rfc.no_minus = through_none
minus_through Rfc.has_minus = through_one minus

start_zero : (m : Bool) → Step (start m) 0x30 after_zero
unfolding start
start_zero false = zero_first
start_zero true = minus_zero

start_digit : (m : Bool) {b : ℕ} → In 0x31 0x39 b → Step (start m) b in_int
unfolding start
start_digit false i = digit_first i
start_digit true i = minus_digit i

int_through
    : (m : Bool) {c : ℕ} {s r : Bytes} → Rfc.int s c r
    → (p : Phase) × AtPoint p × Through (start m) (signed m) p (num m c 0 false) s r
unfolding extend shifted
int_through m Rfc.int_zero = (after_zero, point_zero, through_one (start_zero m))
int_through m (Rfc.int_digits {b} {c} {s} i h) =
    let w = digits_through in_int (λ a k. num m a 0 false) (λ x. int_digit) (λ a k x. refl) h 0 in
    let one : Through (start m) (signed m) in_int (num m (b - 0x30) 0 false) (b ∷ s) s =
    subst (λ a. Through (start m) (signed m) in_int (num m a 0 false) (b ∷ s) s) (omega arith) (through_one (start_digit m i)) in
    (in_int, point_int, through_append one w.2)

at_point : {p : Phase} → AtPoint p → Step p 0x2E after_point
at_point point_zero = zero_point
at_point point_int = int_point

point_e : {p : Phase} → AtPoint p → AtE p
point_e point_zero = e_zero
point_e point_int = e_int

frac_through
    : (m : Bool) {p : Phase} → AtPoint p → {c d n : ℕ} {s r : Bytes} → Rfc.frac c s d n r
    → (q : Phase) × AtE q × Through p (num m c 0 false) q (num m d n false) s r
unfolding extend shifted
frac_through m {p} a Rfc.no_frac = (p, point_e a, through_none)
frac_through m {p} a {c} {d} (Rfc.point {b} {n} {s} {r} i (Rfc.digit j h)) =
    let w = digits_through in_frac (λ a k. num m a k false) (λ x. frac_digit) (λ a k x. refl) h 1 in
    let more : Through in_frac (num m (c * 10 + (b - 0x30)) 1 false) in_frac (num m d (suc n) false) s r =
    subst (λ j. Through in_frac (num m (c * 10 + (b - 0x30)) 1 false) in_frac (num m d j false) s r) (omega arith) w.2 in
    (in_frac, e_frac, through_append (through_one (at_point a)) (through_append (through_one (point_digit i)) more))

at_e : {p : Phase} → AtE p → {b : ℕ} → Rfc.e b → Step p b after_e
at_e e_zero x = zero_e x
at_e e_int x = int_e x
at_e e_frac x = frac_e x

e_complete : {p : Phase} → AtE p → complete p ≡ true
unfolding complete
e_complete e_zero = refl
e_complete e_int = refl
e_complete e_frac = refl

exp_digits_through : {d : Numeral} {c k n : ℕ} {s r : Bytes} → Rfc.digits c s k n r → Through in_exp d in_exp d s r
unfolding extend
exp_digits_through {d} h = (digits_through in_exp (λ c k. d) (λ b. exp_digit) (λ c k b. refl) h 0).2

sign_through
    : {d : Numeral} {c k n : ℕ} {s t r : Bytes} → Rfc.sign s t → Rfc.digits c t k (suc n) r → Through after_e d in_exp d s r
unfolding extend
sign_through Rfc.no_sign (Rfc.digit i h) = through_append (through_one (e_digit i)) (exp_digits_through h)
sign_through Rfc.minus (Rfc.digit i h) =
    through_append (through_one e_minus) (through_append (through_one (sign_digit i)) (exp_digits_through h))
sign_through Rfc.plus (Rfc.digit i h) =
    through_append (through_one e_plus) (through_append (through_one (sign_digit i)) (exp_digits_through h))

exp_through
    : (m : Bool) (c n : ℕ) {p : Phase} → AtE p → {x : Bool} {s r : Bytes} → Rfc.exp s x r
    → (q : Phase) × (complete q ≡ true) × Through p (num m c n false) q (num m c n x) s r
unfolding extend complete
exp_through m c n {p} a Rfc.no_exp = (p, e_complete a, through_none)
exp_through m c n a (Rfc.exponent x i h) = (in_exp, refl, through_append (through_one (at_e a x)) (sign_through i h))

-- the grammar's numbers are stepped through
pub number_steps
    : {s r : Bytes} {d : Numeral} → Rfc.number s d r
    → (xs : Bytes) × (p : Phase) × (s ≡ xs ++ r) × NumberSteps begin no_digits xs p d × (complete p ≡ true)
number_steps (Rfc.numeral {m} {x} {d} {n} g i h k) =
    let u = int_through m i in
    let v = frac_through m u.1 h in
    let w = exp_through m d n v.1 k in
    let all = through_append (minus_through g) (through_append u.2 (through_append v.2 w.2)) in
    (all.0, w.0, all.1, all.2, w.1)

-- ---- first byte, determinism, completion, the longest number

zero_digit : In 0x30 0x39 0x30
zero_digit = record { from = omega arith; to = omega arith }

-- no number is empty, and each begins with a byte that may begin one
pub number_first
    : {s r : Bytes} {d : Numeral} → Rfc.number s d r
    → (b : ℕ) × (s' : Bytes) × (p : Phase) × (s ≡ b ∷ s') × (look (next begin) b ≡ some p)
number_first {s} {r} {d} g = let k = number_steps g in go k.0 k.2 k.3 k.4
  where
    go
        : (xs : Bytes) {p : Phase} {f : Numeral} → s ≡ xs ++ r → NumberSteps begin no_digits xs p f → complete p ≡ true
        → (b : ℕ) × (s' : Bytes) × (p : Phase) × (s ≡ b ∷ s') × (look (next begin) b ≡ some p)
    go [] e number_stay c = absurd (false≢true (unfold complete in c))
    go (b ∷ xs) e (number_then {q} h k) c = (b, xs ++ r, q, e, h)

-- which is a minus or a digit
pub first_byte : (b : ℕ) (p : Phase) → look (next begin) b ≡ some p → (b ≡ 0x2D) ⊎ In 0x30 0x39 b
first_byte b p e = go (look_step e)
  where
    go : {b : ℕ} {p : Phase} → Step begin b p → (b ≡ 0x2D) ⊎ In 0x30 0x39 b
    go minus = inl refl
    go zero_first = inr zero_digit
    go (digit_first i) = inr (omega arith)

pub number_steps_det
    : {p q u : Phase} {d f g : Numeral} {xs : Bytes} → NumberSteps p d xs q f → NumberSteps p d xs u g → (q ≡ u) × (f ≡ g)
number_steps_det number_stay number_stay = (refl, refl)
number_steps_det {d} {g} (number_then {q} {u = v} {xs} {b} e h) (number_then {q = w} {u} e' h') =
    number_steps_det h (subst (λ x. NumberSteps x (extend x d b) xs u g) (some-injective w q (sym e' ∙ e)) h')

-- a 0 completes whatever is not complete
live : (p : Phase) (d : Numeral) → (ys : Bytes) × (q : Phase) × (f : Numeral) × NumberSteps p d ys q f × (complete q ≡ true)
unfolding complete
live begin d = (0x30 ∷ [], after_zero, _, number_then (step_look zero_first) number_stay, refl)
live after_minus d = (0x30 ∷ [], after_zero, _, number_then (step_look minus_zero) number_stay, refl)
live after_zero d = ([], after_zero, d, number_stay, refl)
live in_int d = ([], in_int, d, number_stay, refl)
live after_point d = (0x30 ∷ [], in_frac, _, number_then (step_look (point_digit zero_digit)) number_stay, refl)
live in_frac d = ([], in_frac, d, number_stay, refl)
live after_e d = (0x30 ∷ [], in_exp, _, number_then (step_look (e_digit zero_digit)) number_stay, refl)
live after_sign d = (0x30 ∷ [], in_exp, _, number_then (step_look (sign_digit zero_digit)) number_stay, refl)
live in_exp d = ([], in_exp, d, number_stay, refl)

-- a number begun can be completed
pub number_live
    : {b : ℕ} {xs : Bytes} {p : Phase} {d : Numeral} → NumberSteps begin no_digits (b ∷ xs) p d
    → (ys : Bytes) × (q : Phase) × (f : Numeral) × NumberSteps p d ys q f × (complete q ≡ true)
number_live {p} {d} h = live p d

-- steps over more than xs go on with the byte behind it
longer
    : {p q u : Phase} {d f g : Numeral} {xs ys : Bytes} → NumberSteps p d xs q f → NumberSteps p d ys u g → (b : ℕ) (c r : Bytes)
    → look (next q) b ≡ none → xs ++ b ∷ c ≡ ys ++ r → length r ≤ length c → ⊥
longer number_stay number_stay b c r n e l = let z = ap length e in omega arith
longer {p} number_stay (number_then {q} {b = x} h k) b c r n e l =
    none-ne-some q (sym n ∙ ap (look (next p)) (head-eq_of_cons-eq e) ∙ h)
longer (number_then {xs} h k) number_stay b c r n e l =
    let z = ap length e in
    let y = length-append xs (b ∷ c) in
    omega arith
longer {p} {d} {g} (number_then {q} {b = x} h k) (number_then {q = v} {u} {xs = ys} {b = y} h' k') b c r n e l =
    let xy : x ≡ y = head-eq_of_cons-eq e in
    let qv : q ≡ v = some-injective q v (sym h ∙ ap (look (next p)) xy ∙ h') in
    let back : NumberSteps q (extend q d x) ys u g =
    subst (λ z. NumberSteps q (extend q d z) ys u g) (sym xy) (subst (λ z. NumberSteps z (extend z d y) ys u g) (sym qv) k') in
    longer k back b c r n (tail-eq_of_cons-eq e) l

-- a number that was stepped through, and that the next byte does not extend, is the longest here
pub number_longest
    : {xs : Bytes} {p : Phase} {d : Numeral} → NumberSteps begin no_digits xs p d → (b : ℕ) → look (next p) b ≡ none
    → (c u : Bytes) (f : Numeral) → Rfc.number (xs ++ b ∷ c) f u → length u ≤ length c → ⊥
number_longest h b n c u f g l = let k = number_steps g in longer h k.3 b c u n k.2 l
