-- What holds of an outcome: one predicate on what came out, one on the number of a refusal; and how that passes through
-- the steps of checking and running. Assumes nothing.
use Rattle.std.specs.Prelude.{ℕ, suc, ◌≤◌, ◌≡◌, refl, Bool, true, false, List, T, ltb}
use Rattle.std.proofs.Common.{sym, subst, ltb→lt}
use Rattle.std.proofs.lemmas.Bool.{false≢true}
use Rattle.std.proofs.Math.Option.{Option, none, some}
use Rattle.definitions.specs.declared.Limits.{Limits}
use Rattle.definitions.specs.Bytes.{Bytes}
use Rattle.definitions.specs.Outcome.{Outcome, ok, refused, ◌>>=◌}
use Rattle.definitions.specs.Value.{Value}
use Rattle.definitions.specs.Shape.{Kind, among, Shape, Record, no_rec, rec_of, Fields, within, find}
use Rattle.definitions.specs.Admits.{kind_of}
use Rattle.definitions.specs.Checking.{field_kinds, wants, listed}
use Rattle.definitions.specs.Running.{enter, stuck_unless, member_of, members_of, field_value}

-- P holds of what came out, R of the number of a refusal
pub data Holds {A : Type 0} (R : ℕ → Type 0) (P : A → Type 0) : Outcome ℕ A → Type 0 where
  gave : {a : A} → P a → Holds R P (ok a)
  stopped : {n at : ℕ} → R n → Holds R P (refused n at)

-- any number of a refusal will do
abbrev pub any : ℕ → Type 0
any n = Unit {0}

-- nothing is claimed
pub holds_any : {A : Type 0} (o : Outcome ℕ A) → Holds any (λ a. Unit {0}) o
holds_any (ok a) = gave tt
holds_any (refused n at) = stopped tt

pub holds_ok : {A : Type 0} {R : ℕ → Type 0} {P : A → Type 0} {a : A} → Holds R P (ok a) → P a
holds_ok (gave p) = p

pub holds_number : {A : Type 0} {R : ℕ → Type 0} {P : A → Type 0} {n at : ℕ} → Holds R P (refused n at) → R n
holds_number (stopped r) = r

-- what holds of an outcome holds of what came out
pub holds_of : {A : Type 0} {R : ℕ → Type 0} {P : A → Type 0} {o : Outcome ℕ A} {a : A} → o ≡ ok a → Holds R P o → P a
holds_of {R = R} {P} e h = holds_ok (subst (Holds R P) e h)

pub holds_map
    : {A : Type 0} {R S : ℕ → Type 0} {P Q : A → Type 0} {o : Outcome ℕ A} → ((n : ℕ) → R n → S n) → ((a : A) → P a → Q a)
    → Holds R P o → Holds S Q o
holds_map f g (gave {a} p) = gave (g a p)
holds_map f g (stopped {n} r) = stopped (f n r)

pub holds_both
    : {A : Type 0} {R S : ℕ → Type 0} {P Q : A → Type 0} {o : Outcome ℕ A} → Holds R P o → Holds S Q o
    → Holds R (λ a. P a × Q a) o
holds_both (gave p) h = gave (p, holds_ok h)
holds_both (stopped r) h = stopped r

-- "a part that is refused stops the form that holds it"
pub holds_bind
    : {A B : Type 0} {R : ℕ → Type 0} {P : A → Type 0} {Q : B → Type 0} {o : Outcome ℕ A} {f : A → Outcome ℕ B}
    → Holds R P o → ((a : A) → P a → Holds R Q (f a)) → Holds R Q (o >>= f)
unfolding ◌>>=◌
holds_bind (gave {a} p) k = k a p
holds_bind (stopped r) k = stopped r

-- where the check's own test passes
pub holds_wants
    : {A : Type 0} {P : A → Type 0} (at : ℕ) (ks : List Kind) (s : Shape) {o : Outcome ℕ A}
    → (within ks s ≡ true → Holds any P o) → Holds any P (wants at ks s o)
unfolding wants
holds_wants {A} {P} at ks s {o} k = go (within ks s) k
  where
    go : (b : Bool) → (b ≡ true → Holds any P o) → Holds any P (elim b [ true ↦ o | false ↦ refused 9 at ])
    go true k = k refl
    go false k = stopped tt

-- a value of a wanted kind is not stuck
pub holds_unstuck
    : {A : Type 0} {R : ℕ → Type 0} {P : A → Type 0} (at : ℕ) (ks : List Kind) (v : Value) {o : Outcome ℕ A}
    → among (kind_of v) ks ≡ true → Holds R P o → Holds R P (stuck_unless at ks v o)
unfolding stuck_unless
holds_unstuck {A} {R} {P} at ks v {o} e h = go (among (kind_of v) ks) e
  where
    go : (b : Bool) → b ≡ true → Holds R P (elim b [ true ↦ o | false ↦ refused 12 at ])
    go true e = h
    go false e = absurd (false≢true e)

-- where 12 will do, the kind is of no matter
pub holds_stuck
    : {A : Type 0} {R : ℕ → Type 0} {P : A → Type 0} (at : ℕ) (ks : List Kind) (v : Value) {o : Outcome ℕ A} → R 12
    → Holds R P o → Holds R P (stuck_unless at ks v o)
unfolding stuck_unless
holds_stuck {A} {R} {P} at ks v {o} r h = go (among (kind_of v) ks)
  where
    go : (b : Bool) → Holds R P (elim b [ true ↦ o | false ↦ refused 12 at ])
    go true = h
    go false = stopped r

-- ---- entering a form, choosing a branch

-- a form is entered with one more step, within the limit
pub holds_enter
    : {R : ℕ → Type 0} (l : Limits) (at n : ℕ) → R 13 → Holds R (λ k. (k ≡ suc n) × (k ≤ l.steps)) (enter l at n)
unfolding enter
holds_enter {R} l at n r = go (ltb n l.steps) refl
  where
    go
        : (b : Bool) → ltb n l.steps ≡ b
        → Holds R (λ k. (k ≡ suc n) × (k ≤ l.steps)) (elim b [ true ↦ ok (suc n) | false ↦ refused 13 at ])
    go true e = gave (refl, ltb→lt n l.steps (subst T (sym e) tt))
    go false e = stopped r

-- either branch of `when`, knowing how its test went
pub holds_either
    : {A : Type 0} {R : ℕ → Type 0} {P : A → Type 0} {x y : Outcome ℕ A} (b : Bool) → (b ≡ true → Holds R P x)
    → (b ≡ false → Holds R P y) → Holds R P (elim b [ true ↦ x | false ↦ y ])
holds_either true h k = h refl
holds_either false h k = k refl

-- either branch of `if`, or stuck
pub holds_truth
    : {A : Type 0} {R : ℕ → Type 0} {P : A → Type 0} {x y : Outcome ℕ A} (at : ℕ) (o : Option Bool) → R 12 → Holds R P x
    → Holds R P y → Holds R P (elim o [ none ↦ refused 12 at | some b ↦ elim b [ true ↦ x | false ↦ y ] ])
holds_truth at none r h k = stopped r
holds_truth at (some true) r h k = h
holds_truth at (some false) r h k = k

-- what `field` gives, or stuck
pub holds_field
    : {R : ℕ → Type 0} {P : Value → Type 0} (at : ℕ) (n : Bytes) (v : Value) → R 12 → P (member_of n (members_of v))
    → Holds R P (field_value at n v)
unfolding field_value
holds_field at n v r p = holds_stuck at field_kinds v r (gave p)

-- where the name is listed
pub holds_listed
    : {P : Shape → Type 0} (at : ℕ) (n : Bytes) (r : Record)
    → ((fs : Fields) (s : Shape) → r ≡ rec_of fs → find n fs ≡ some s → P s) → Holds any P (listed at n r)
unfolding listed
holds_listed at n no_rec f = stopped tt
holds_listed {P} at n (rec_of fs) f = go (find n fs) refl
  where
    go : (o : Option Shape) → find n fs ≡ o → Holds any P (elim o [ none ↦ refused 10 at | some s ↦ ok s ])
    go none e = stopped tt
    go (some s) e = gave (f fs s refl e)
