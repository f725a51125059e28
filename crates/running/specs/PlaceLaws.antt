-- Laws of running a place, one for each way through it. Assumes nothing.
use Rattle.std.specs.Prelude.{ℕ, suc, ◌/◌, ◌%◌, ◌≤◌, ◌<◌, ◌≡◌, refl, Bool, true, false, List, ◌++◌, drop, get_or}
use Rattle.std.proofs.Common.{sym, ap, ◌∙◌, arith, add-zero}
use Rattle.definitions.specs.declared.Limits.{Limits}
use Rattle.definitions.specs.Bytes.{Bytes}
use Rattle.definitions.specs.Number.{is_int}
use Rattle.definitions.specs.Outcome.{Outcome, ok, refused, ◌>>=◌}
use Rattle.definitions.specs.Value.{Value, Members}
use Rattle.definitions.specs.Shape.{Kind, among, rank}
use Rattle.definitions.specs.Admits.{kind_of}
use Rattle.definitions.specs.Reader.{Place}
use Rattle.definitions.specs.Checking.{field_kinds}
use Rattle.definitions.specs.Running.{Ran, gives, stuck_unless, member_of, members_of, field_value, run_place}
use Rattle.laws.specs.SoundSteps.{enter_within}
use Rattle.laws.specs.RunRulesKinds.{not_entered}
use Rattle.nodes.specs.Nodes.{kind_code}
use Rattle.forms.specs.Forms.{place_at, PlaceRows, it_row, field_rows, PlaceStands}
use Rattle.forms.specs.FormsLaws.{head_at, place_code_lt}
use Rattle.nodes.specs.NodesLaws.{get_or_row}

-- ---- places

pub place_stops : (q : Place) (l : Limits) (env : List Value) (n : ℕ) → l.steps ≤ n → run_place q l env n ≡ refused 13 (place_at q)
unfolding run_place place_at ◌>>=◌
place_stops (Place.it at k) l env n h = rw (not_entered l at n h) refl
place_stops (Place.field at m p) l env n h = rw (not_entered l at n h) refl

pub it_given
    : (at k : ℕ) (l : Limits) (env : List Value) (n : ℕ) → n < l.steps
    → run_place (Place.it at k) l env n ≡ gives (get_or env k Value.null) (suc n)
unfolding run_place gives ◌>>=◌
it_given at k l env n h = rw (enter_within l at n h) refl

-- behind the place inside
abbrev pub field_of : (at : ℕ) → Bytes → Outcome ℕ (Ran Value) → Outcome ℕ (Ran Value)
field_of at m o = o >>= λ x. field_value at m x.result >>= λ v. gives v x.steps

pub field_entered
    : (at : ℕ) (m : Bytes) (p : Place) (l : Limits) (env : List Value) (n : ℕ) → n < l.steps
    → run_place (Place.field at m p) l env n ≡ field_of at m (run_place p l env (suc n))
unfolding run_place gives ◌>>=◌
field_entered at m p l env n h = rw (enter_within l at n h) refl

pub field_refused
    : (at : ℕ) (m : Bytes) {o : Outcome ℕ (Ran Value)} {k a : ℕ} → o ≡ refused k a → field_of at m o ≡ refused k a
unfolding ◌>>=◌
field_refused at m e = ap (field_of at m) e

pub field_stuck
    : (at : ℕ) (m : Bytes) (v : Value) (n : ℕ) {o : Outcome ℕ (Ran Value)} → o ≡ gives v n → (kind_code v ≡ 0 → ⊥)
    → (kind_code v ≡ 6 → ⊥) → field_of at m o ≡ refused 12 at
unfolding gives ◌>>=◌ field_value stuck_unless kind_code kind_of among rank field_kinds
field_stuck at m Value.null n e z f = absurd (z refl)
field_stuck at m (Value.bool b) n e z f = ap (field_of at m) e
field_stuck at m (Value.number x) n e z f = ap (field_of at m) e ∙ go (is_int x)
  where
    go : (b : Bool)
        → ◌>>=◌ {P = ℕ} {A = Value} {B = Ran Value} (elim (among (elim b [ true ↦ Kind.int | false ↦ Kind.dec ]) field_kinds) [
          | true ↦ ok (member_of m (members_of (Value.number x)))
          | false ↦ refused 12 at
        ]) (λ v. gives v n)
        ≡ refused 12 at
    go true = refl
    go false = refl
field_stuck at m (Value.text t) n e z f = ap (field_of at m) e
field_stuck at m (Value.list vs) n e z f = ap (field_of at m) e
field_stuck at m (Value.rec ms) n e z f = absurd (f refl)

-- "On null it reads null."
pub field_through
    : (at : ℕ) (m : Bytes) (v : Value) (n : ℕ) {o : Outcome ℕ (Ran Value)} → o ≡ gives v n → kind_code v ≡ 0 → field_of at m o ≡ gives v n
unfolding gives ◌>>=◌ field_value stuck_unless kind_code kind_of among rank field_kinds member_of members_of
field_through at m Value.null n e z = ap (field_of at m) e
field_through at m (Value.bool true) n e z = absurd (let y : ⊥ = omega (arith, z) in y)
field_through at m (Value.bool false) n e z = absurd (let y : ⊥ = omega (arith, z) in y)
field_through at m (Value.number x) n e z = absurd (let y : ⊥ = omega (arith, z) in y)
field_through at m (Value.text t) n e z = absurd (let y : ⊥ = omega (arith, z) in y)
field_through at m (Value.list vs) n e z = absurd (let y : ⊥ = omega (arith, z) in y)
field_through at m (Value.rec ms) n e z = absurd (let y : ⊥ = omega (arith, z) in y)

pub data IsRec : Value → Type 0 where
  is_rec : {ms : Members} → IsRec (Value.rec ms)

pub rec_of_kind : (v : Value) → kind_code v ≡ 6 → IsRec v
unfolding kind_code
rec_of_kind Value.null e = absurd (let z : ⊥ = omega (arith, e) in z)
rec_of_kind (Value.bool true) e = absurd (let z : ⊥ = omega (arith, e) in z)
rec_of_kind (Value.bool false) e = absurd (let z : ⊥ = omega (arith, e) in z)
rec_of_kind (Value.number x) e = absurd (let z : ⊥ = omega (arith, e) in z)
rec_of_kind (Value.text t) e = absurd (let z : ⊥ = omega (arith, e) in z)
rec_of_kind (Value.list vs) e = absurd (let z : ⊥ = omega (arith, e) in z)
rec_of_kind (Value.rec ms) e = is_rec

pub field_given
    : (at : ℕ) (m : Bytes) (ms : Members) (n : ℕ) {o : Outcome ℕ (Ran Value)} → o ≡ gives (Value.rec ms) n
    → field_of at m o ≡ gives (member_of m ms) n
unfolding gives ◌>>=◌ field_value stuck_unless kind_of among rank field_kinds members_of
field_given at m ms n e = ap (field_of at m) e

-- where the bracket of a place stands
pub place_stands_at : {t p : List ℕ} {row d : ℕ} {q : Place} → PlaceStands t p row d q → get_or t row 0 / 2048 % 65536 ≡ place_at q
place_stands_at {t} {p} {row} {d} {q} s = go s.encoded s.placed
  where
    first : {xs : List ℕ} → drop row t ≡ xs → get_or t row 0 ≡ get_or xs 0 0
    first e = ap (λ (i : ℕ). get_or t i 0) (sym (add-zero row)) ∙ get_or_row t row 0 e

    go : {a : Place} {rs : List ℕ} → PlaceRows p d a rs → drop row t ≡ rs ++ s.rest → get_or t row 0 / 2048 % 65536 ≡ place_at a
    go (it_row {at} {n} {h} x l) e = ap (λ (w : ℕ). w / 2048 % 65536) (first e) ∙ head_at x (place_code_lt (Place.it at n))
    go (field_rows {at} {n} {q = a} x f qs) e = ap (λ (w : ℕ). w / 2048 % 65536) (first e) ∙ head_at x (place_code_lt (Place.field at n a))
