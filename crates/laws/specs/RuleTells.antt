-- What an outcome tells: one relation of what came out, one of the number and place of a refusal; and how that passes through
-- the steps of checking and running. Assumes nothing.
use Rattle.std.specs.Prelude.{ℕ, ◌≡◌, refl, Bool, true, false, List}
use Rattle.std.proofs.Common.{subst, ap}
use Rattle.definitions.specs.Outcome.{Outcome, ok, refused, ◌>>=◌}
use Rattle.definitions.specs.Shape.{Kind, Shape, within}
use Rattle.definitions.specs.Checking.{wants}

pub data Tells {A : Type 0} (G : A → Type 0) (R : ℕ → ℕ → Type 0) : Outcome ℕ A → Type 0 where
  gave : {a : A} → G a → Tells G R (ok a)
  stopped : {n p : ℕ} → R n p → Tells G R (refused n p)

module _ {A : Type 0} {G : A → Type 0} {R : ℕ → ℕ → Type 0} where
  tells_ok : {a : A} → Tells G R (ok a) → G a
  tells_ok (gave g) = g

  tells_refused : {n p : ℕ} → Tells G R (refused n p) → R n p
  tells_refused (stopped r) = r

  pub told : {o : Outcome ℕ A} {a : A} → Tells G R o → o ≡ ok a → G a
  told t e = tells_ok (subst (Tells G R) e t)

  pub told_refused : {o : Outcome ℕ A} {n p : ℕ} → Tells G R o → o ≡ refused n p → R n p
  told_refused t e = tells_refused (subst (Tells G R) e t)

pub tells_map
    : {A : Type 0} {G H : A → Type 0} {R S : ℕ → ℕ → Type 0} {o : Outcome ℕ A} → ((n p : ℕ) → R n p → S n p)
    → ((a : A) → G a → H a) → Tells G R o → Tells H S o
tells_map stop on (gave {a} g) = gave (on a g)
tells_map stop on (stopped {n} {p} r) = stopped (stop n p r)

-- "a part that is refused stops the form that holds it"
pub tells_bind
    : {A B : Type 0} {G : A → Type 0} {R S : ℕ → ℕ → Type 0} {H : B → Type 0} {o : Outcome ℕ A} {f : A → Outcome ℕ B}
    → Tells G R o → ((n p : ℕ) → R n p → S n p) → ((a : A) → G a → Tells H S (f a)) → Tells H S (o >>= f)
unfolding ◌>>=◌
tells_bind (gave {a} g) stop on = on a g
tells_bind (stopped {n} {p} r) stop on = stopped (stop n p r)

-- one way or the other, knowing which
pub tells_either
    : {A : Type 0} {G : A → Type 0} {R : ℕ → ℕ → Type 0} {x y : Outcome ℕ A} (b : Bool) → (b ≡ true → Tells G R x)
    → (b ≡ false → Tells G R y) → Tells G R (elim b [ true ↦ x | false ↦ y ])
tells_either true h k = h refl
tells_either false h k = k refl

pub tells_wants
    : {A : Type 0} {G : A → Type 0} {R : ℕ → ℕ → Type 0} (at : ℕ) (ks : List Kind) (s : Shape) {o : Outcome ℕ A}
    → (within ks s ≡ false → R 9 at) → (within ks s ≡ true → Tells G R o) → Tells G R (wants at ks s o)
unfolding wants
tells_wants at ks s unmet met = tells_either (within ks s) met (λ e. stopped (unmet e))

-- ---- the other way: steps that are known

pub bind_ok : {A B : Type 0} {o : Outcome ℕ A} {a : A} (f : A → Outcome ℕ B) → o ≡ ok a → o >>= f ≡ f a
unfolding ◌>>=◌
bind_ok f e = ap (λ o. o >>= f) e

pub bind_refused : {A B : Type 0} {o : Outcome ℕ A} {n p : ℕ} (f : A → Outcome ℕ B) → o ≡ refused n p → o >>= f ≡ refused n p
unfolding ◌>>=◌
bind_refused f e = ap (λ o. o >>= f) e

pub wants_met : {A : Type 0} (at : ℕ) (ks : List Kind) (s : Shape) (o : Outcome ℕ A) → within ks s ≡ true → wants at ks s o ≡ o
unfolding wants
wants_met at ks s o e = rw (e, wants) refl

pub wants_unmet
    : {A : Type 0} (at : ℕ) (ks : List Kind) (s : Shape) (o : Outcome ℕ A) → within ks s ≡ false → wants at ks s o ≡ refused 9 at
unfolding wants
wants_unmet at ks s o e = rw (e, wants) refl
