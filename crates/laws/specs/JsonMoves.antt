-- Reading a document with its tests left open: the same scan, once with the paper's limits and once with none, and the
-- states that it passes through. Assumes nothing.
use Rattle.std.specs.Prelude.{ℕ, suc, ◌≡◌, refl, Bool, true, false, [], ◌∷◌, ◌++◌}
use Rattle.std.proofs.Math.Path.{Path, ap, subst}
use Rattle.std.proofs.Math.Option.{Option, none, some}
use Rattle.definitions.specs.declared.Limits.{Limits}
use Rattle.definitions.specs.Bytes.{Bytes}
use Rattle.definitions.specs.Outcome.{Outcome, ok, refused}
use Rattle.definitions.specs.Number.{Numeral, beyond}
use Rattle.definitions.specs.Value.{Value, Members, has_name}
use Rattle.definitions.specs.Json.{Open, State, Move, broken, broken_number, go, begin_value, begin_number}
use Rattle.definitions.specs.Json.{begin_name, end_name, end_number, end_text, move, end_move, full, judge, scan}

-- ---- tests

-- what reading asks besides the grammar: is a numeral too large, is the n-th value too many or too deep, has a name come
pub record Tests : Type 0 where
  pub over : Numeral → Bool
  pub crowded : ℕ → Open → Bool
  pub twice : Bytes → Members → Bool

-- the paper's
unfoldable pub limited : Limits → Tests
limited l = record { over = beyond; crowded = full l; twice = has_name }

-- the grammar alone
unfoldable pub free : Tests
free = record { over = λ d. false; crowded = λ n o. false; twice = λ t ms. false }

-- `judge` by these tests
unfoldable pub judge_by
    : Tests → (n : ℕ) (kept s : Bytes) → Move → (ℕ → Bytes → State → Outcome Bytes Value) → Outcome Bytes Value
judge_by j n kept s broken on = refused 3 s
judge_by j n kept s (broken_number o) on = elim (j.crowded n o) [ true ↦ refused 6 kept | false ↦ refused 3 s ]
judge_by j n kept s (go q) on = on n kept q
judge_by j n kept s (begin_value o q) on = elim (j.crowded (suc n) o) [ true ↦ refused 6 s | false ↦ on (suc n) kept q ]
judge_by j n kept s (begin_number q) on = on (suc n) s q
judge_by j n kept s (begin_name q) on = on n s q
judge_by j n kept s (end_name t ms q) on = elim (j.twice t ms) [ true ↦ refused 5 kept | false ↦ on n kept q ]
judge_by j n kept s (end_number d o m) on =
    elim (j.over d) [
      | true ↦ refused 4 kept
      | false ↦ elim (j.crowded n o) [ true ↦ refused 6 kept | false ↦ judge_by j n kept s m on ]
    ]
judge_by j n kept s (end_text v) on = ok v

-- `scan` by these tests
unfoldable pub scan_by : Tests → (n : ℕ) (kept : Bytes) → State → Bytes → Outcome Bytes Value
scan_by j n kept q [] = judge_by j n kept [] (end_move q) (λ n' kept' q'. refused 3 [])
scan_by j n kept q (b ∷ r) = judge_by j n kept (b ∷ r) (move q b) (λ n' kept' q'. scan_by j n' kept' q' r)

-- ---- reading is the scan by the paper's tests

abbrev Go : Type 0
Go = ℕ → Bytes → State → Outcome Bytes Value

pub judge_limited
    : (l : Limits) (n : ℕ) (kept s : Bytes) (m : Move) (f g : Go)
    → ((n : ℕ) (kept : Bytes) (q : State) → f n kept q ≡ g n kept q)
    → judge l n kept s m f ≡ judge_by (limited l) n kept s m g
unfolding judge judge_by limited
judge_limited l n kept s broken f g e = refl
judge_limited l n kept s (broken_number o) f g e = refl
judge_limited l n kept s (go q) f g e = e n kept q
judge_limited l n kept s (begin_value o q) f g e =
    ap (λ (z : Outcome Bytes Value). elim (full l (suc n) o) as
    (λ b. Outcome Bytes Value) [ true ↦ refused 6 s | false ↦ z ]) (e (suc n) kept q)
judge_limited l n kept s (begin_number q) f g e = e (suc n) s q
judge_limited l n kept s (begin_name q) f g e = e n s q
judge_limited l n kept s (end_name t ms q) f g e =
    ap (λ (z : Outcome Bytes Value). elim (has_name t ms) as
    (λ b. Outcome Bytes Value) [ true ↦ refused 5 kept | false ↦ z ]) (e n kept q)
judge_limited l n kept s (end_number d o m) f g e =
    ap
    (λ (z : Outcome Bytes Value).
    elim (beyond d) as (λ b. Outcome Bytes Value) [
      | true ↦ refused 4 kept
      | false ↦ elim (full l n o) as (λ b. Outcome Bytes Value) [ true ↦ refused 6 kept | false ↦ z ]
    ])
    (judge_limited l n kept s m f g e)
judge_limited l n kept s (end_text v) f g e = refl

pub scan_limited
    : (l : Limits) (n : ℕ) (kept : Bytes) (q : State) (s : Bytes) → scan l n kept q s ≡ scan_by (limited l) n kept q s
unfolding scan scan_by
scan_limited l n kept q [] =
    judge_limited l n kept [] (end_move q) (λ n' kept' q'. refused 3 []) (λ n' kept' q'. refused 3 []) (λ n' kept' q'. refl)
scan_limited l n kept q (b ∷ r) =
    judge_limited l n kept (b ∷ r) (move q b) (λ n' kept' q'. scan l n' kept' q' r)
    (λ n' kept' q'. scan_by (limited l) n' kept' q' r)
    (λ n' kept' q'. scan_limited l n' kept' q' r)

-- ---- outcomes told apart

module _ {P A : Type 0} where
  Accepted : Outcome P A → Type 0
  Accepted (ok a) = Unit {0}
  Accepted (refused n p) = ⊥

  pub ok≢refused : {a : A} {n : ℕ} {p : P} → Path (Outcome P A) (ok a) (refused n p) → ⊥
  unfolding Accepted
  ok≢refused e = subst Accepted e tt

  answer : A → Outcome P A → A
  answer a (ok b) = b
  answer a (refused n p) = a

  pub ok_injective : {a b : A} → Path (Outcome P A) (ok a) (ok b) → a ≡ b
  unfolding answer
  ok_injective {a} e = ap (answer a) e

  cause : ℕ → Outcome P A → ℕ
  cause n (ok b) = n
  cause n (refused m p) = m

  site : P → Outcome P A → P
  site p (ok b) = p
  site p (refused m q) = q

  pub refused_injective : {n m : ℕ} {p q : P} → Path (Outcome P A) (refused n p) (refused m q) → (n ≡ m) × (p ≡ q)
  unfolding cause site
  refused_injective {n} {p} e = (ap (cause n) e, ap (site p) e)

-- ---- passing through states

-- the state behind a move, if reading goes on
unfoldable pub after : Move → Option State
after broken = none
after (broken_number o) = none
after (go q) = some q
after (begin_value o q) = some q
after (begin_number q) = some q
after (begin_name q) = some q
after (end_name t ms q) = some q
after (end_number d o m) = after m
after (end_text v) = none

-- the value at the end, if there is one
unfoldable pub ending : Move → Option Value
ending broken = none
ending (broken_number o) = none
ending (go q) = none
ending (begin_value o q) = none
ending (begin_number q) = none
ending (begin_name q) = none
ending (end_name t ms q) = none
ending (end_number d o m) = ending m
ending (end_text v) = some v

-- the bytes xs lead from one state to another
pub data Walk : State → Bytes → State → Type 0 where
  stay : {q : State} → Walk q [] q
  step : {p q u : State} {b : ℕ} {xs : Bytes} → after (move p b) ≡ some q → Walk q xs u → Walk p (b ∷ xs) u

pub walk_append : {p q u : State} {xs ys : Bytes} → Walk p xs q → Walk q ys u → Walk p (xs ++ ys) u
walk_append stay g = g
walk_append (step e f) g = step e (walk_append f g)
