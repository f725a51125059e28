-- What an outcome holds where it is no refusal, carried through sequences and through the reading of tokens.
-- Assumes nothing.
use Rattle.std.specs.Prelude.{ℕ, suc, ◌≡◌, refl, Bool, true, false, List}
use Rattle.std.proofs.Common.{subst}
use Rattle.std.proofs.Math.Option.{Option, none, some}
use Rattle.definitions.specs.declared.Limits.{Limits}
use Rattle.definitions.specs.Outcome.{Outcome, ok, refused, ◌>>=◌}
use Rattle.definitions.specs.Limits.{over}
use Rattle.definitions.specs.Tokens.{Placed, Step, misplaced, go, opens, judge_step, or_end, read_tokens}
use Rattle.laws.proofs.LexGood.{GoodToken, GoodTokens, good_no_tokens, good_then}

-- the outcome is a refusal, or R holds of what came out
pub data Gives {P A : Type 0} (R : A → Type 0) : Outcome P A → Type 0 where
  gives_ok : {a : A} → R a → Gives R (ok a)
  gives_refused : {n : ℕ} {p : P} → Gives R (refused n p)

given : {P A : Type 0} {R : A → Type 0} {a : A} → Gives {P = P} R (ok a) → R a
given (gives_ok r) = r

pub gives_holds : {P A : Type 0} {R : A → Type 0} {o : Outcome P A} {a : A} → o ≡ ok a → Gives R o → R a
gives_holds {P} {A} {R} {o} {a} e g = given (subst (Gives R) e g)

pub gives_then
    : {P A B : Type 0} {R : A → Type 0} {S : B → Type 0} {o : Outcome P A} {f : A → Outcome P B} → Gives R o
    → ((a : A) → R a → Gives S (f a)) → Gives S (o >>= f)
unfolding ◌>>=◌
gives_then (gives_ok {a} r) h = h a r
gives_then gives_refused h = gives_refused

pub gives_map
    : {P A : Type 0} {R S : A → Type 0} {o : Outcome P A} → Gives R o → ((a : A) → R a → S a) → Gives S o
gives_map (gives_ok {a} r) h = gives_ok (h a r)
gives_map gives_refused h = gives_refused

pub gives_if
    : {P A : Type 0} {R : A → Type 0} {x y : Outcome P A} (b : Bool) → Gives R x → Gives R y
    → Gives {P = P} R (elim b as (λ z. Outcome P A) [ true ↦ x | false ↦ y ])
gives_if true h k = h
gives_if false h k = k

-- ---- reading tokens

-- the token is misplaced, or K holds of the state behind it
pub data Leads {Q : Type 0} (K : Q → Type 0) : Step Q → Type 0 where
  leads_nowhere : Leads K misplaced
  leads_on : {q : Q} → K q → Leads K (go q)
  leads_in : {d : ℕ} {q : Q} → K q → Leads K (opens d q)

judge_gives
    : {Q A : Type 0} {K : Q → Type 0} {R : A → Type 0} (l : Limits) (n at : ℕ) {s : Step Q} (on : ℕ → Q → Outcome ℕ A)
    → Leads K s → ((m : ℕ) (q : Q) → K q → Gives R (on m q)) → Gives R (judge_step l n at s on)
unfolding judge_step
judge_gives l n at on leads_nowhere h = gives_refused
judge_gives l n at on (leads_on {q} v) h = h n q v
judge_gives l n at on (leads_in {d} {q} v) h = gives_if (over l (suc n) d) gives_refused (h (suc n) q v)

end_gives
    : {A : Type 0} {R : A → Type 0} (end : ℕ) (o : Option A) → ((a : A) → o ≡ some a → R a) → Gives R (or_end end o)
unfolding or_end
end_gives end none h = gives_refused
end_gives end (some a) h = gives_ok (h a refl)

-- what good tokens keep from state to state holds of what is read
pub tokens_give
    : {Q A : Type 0} (K : Q → Type 0) (R : A → Type 0) (step : Q → Placed → Step Q) (whole : Q → Option A)
    → ((q : Q) → K q → (t : Placed) → GoodToken t.token → Leads K (step q t))
    → ((q : Q) → K q → (a : A) → whole q ≡ some a → R a) → (l : Limits) (n end : ℕ) (q : Q) → K q → {ts : List Placed}
    → GoodTokens ts → Gives R (read_tokens step whole l n end q ts)
unfolding read_tokens
tokens_give K R step whole k w l n end q v good_no_tokens = end_gives end (whole q) (w q v)
tokens_give K R step whole k w l n end q v (good_then {t} {ts} g gs) =
    judge_gives l n t.at (λ n' q'. read_tokens step whole l n' end q' ts) (k q v t g)
    (λ n' q' v'. tokens_give K R step whole k w l n' end q' v' gs)
