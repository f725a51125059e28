-- Reading tokens one step each, apart from any one grammar: a walk from state to state knows no limit, and reading goes
-- along walks as far as the limits let it. Assumes nothing.
use Prim.Native.Nat.{ℕ, suc, ◌+◌, ◌≤◌, max}
use Rattle.std.specs.Prelude.{◌≡◌, Bool, true, ◌||◌, ltb, length}
use Rattle.std.proofs.Math.Path.{refl, ap}
use Rattle.std.proofs.Common.{sym, ◌∙◌, subst}
use Rattle.std.proofs.Math.Bool.{false}
use mathlib.Core.List.{List, [], ◌∷◌, ◌++◌}
use Rattle.std.proofs.Math.Option.{Option, none, some, none-ne-some}
use native.Mathlib.Omega.{arith}
use Rattle.definitions.specs.declared.Limits.{Limits}
use Rattle.definitions.specs.Outcome.{Outcome, ok, refused}
use Rattle.definitions.specs.Limits.{over}
use Rattle.definitions.specs.Tokens.{Placed, Step, misplaced, go, opens, judge_step, or_end, read_tokens}
use Rattle.laws.specs.Tests.{ltb_le, le-ltb}
use Rattle.laws.specs.Bools.{or_false_left, or_false_right, clash}

-- ---- steps are told apart

kind_of : {Q : Type 0} → Step Q → ℕ
kind_of misplaced = 0
kind_of (go q) = 1
kind_of (opens d q) = 2

state_of : {Q : Type 0} → Q → Step Q → Q
state_of q misplaced = q
state_of q (go r) = r
state_of q (opens d r) = r

depth_of : {Q : Type 0} → Step Q → ℕ
depth_of misplaced = 0
depth_of (go q) = 0
depth_of (opens d q) = d

pub go_state : {Q : Type 0} {q r : Q} → Path (Step Q) (go q) (go r) → q ≡ r
unfolding state_of
go_state {q = q} e = ap (state_of q) e

pub opens_state : {Q : Type 0} {q r : Q} {d e : ℕ} → Path (Step Q) (opens d q) (opens e r) → q ≡ r
unfolding state_of
opens_state {q = q} e = ap (state_of q) e

pub opens_depth : {Q : Type 0} {q r : Q} {d e : ℕ} → Path (Step Q) (opens d q) (opens e r) → d ≡ e
unfolding depth_of
opens_depth e = ap depth_of e

pub misplaced_go {ℓ} : {X : Type ℓ} {Q : Type 0} {q : Q} → Path (Step Q) misplaced (go q) → X
unfolding kind_of
misplaced_go e = absurd (let z : Path ℕ 0 1 = ap kind_of e in let y : ⊥ = omega arith in y)

pub misplaced_opens {ℓ} : {X : Type ℓ} {Q : Type 0} {q : Q} {d : ℕ} → Path (Step Q) misplaced (opens d q) → X
unfolding kind_of
misplaced_opens e = absurd (let z : Path ℕ 0 2 = ap kind_of e in let y : ⊥ = omega arith in y)

pub go_opens {ℓ} : {X : Type ℓ} {Q : Type 0} {q r : Q} {d : ℕ} → Path (Step Q) (go q) (opens d r) → X
unfolding kind_of
go_opens e = absurd (let z : Path ℕ 1 2 = ap kind_of e in let y : ⊥ = omega arith in y)

-- ---- walks

-- the tokens ts lead from one state to another, where us is left; the forms that count open at these nestings on the way
pub data Walk {Q : Type 0} (step : Q → Placed → Step Q) : Q → List Placed → List ℕ → Q → List Placed → Type 0 where
  stay : {q : Q} {ts : List Placed} → Walk step q ts [] q ts
  on
      : {q r u : Q} {t : Placed} {ts us : List Placed} {ds : List ℕ} → step q t ≡ go r → Walk step r ts ds u us
      → Walk step q (t ∷ ts) ds u us
  enter
      : {q r u : Q} {t : Placed} {ts us : List Placed} {d : ℕ} {ds : List ℕ} → step q t ≡ opens d r → Walk step r ts ds u us
      → Walk step q (t ∷ ts) (d ∷ ds) u us

-- the greatest of these nestings
unfoldable pub most : List ℕ → ℕ
most [] = 0
most (d ∷ ds) = max d (most ds)

pub most_append : (ds es : List ℕ) → most (ds ++ es) ≡ max (most ds) (most es)
unfolding most
most_append [] es = omega arith
most_append (d ∷ ds) es = let h : most (ds ++ es) ≡ max (most ds) (most es) = most_append ds es in omega arith

module _ {Q : Type 0} {step : Q → Placed → Step Q} where
  pub walk_append
      : {q r u : Q} {ts us vs : List Placed} {ds es : List ℕ} → Walk step q ts ds r us → Walk step r us es u vs
      → Walk step q ts (ds ++ es) u vs
  walk_append stay g = g
  walk_append (on e f) g = on e (walk_append f g)
  walk_append (enter e f) g = enter e (walk_append f g)

  -- one token more
  pub walk_then
      : {q r u : Q} {t : Placed} {ts us : List Placed} {ds : List ℕ} → Walk step q ts ds r (t ∷ us) → step r t ≡ go u
      → Walk step q ts ds u us
  walk_then stay e = on e stay
  walk_then (on f g) e = on f (walk_then g e)
  walk_then (enter f g) e = enter f (walk_then g e)

  -- tokens behind play no part
  pub walk_more
      : {q u : Q} {ts us : List Placed} {ds : List ℕ} → Walk step q ts ds u us → (vs : List Placed)
      → Walk step q (ts ++ vs) ds u (us ++ vs)
  walk_more stay vs = stay
  walk_more (on e f) vs = on e (walk_more f vs)
  walk_more (enter e f) vs = enter e (walk_more f vs)

  -- tokens lead to one state
  pub walk_unique
      : {q u w : Q} {ts : List Placed} {ds es : List ℕ} → Walk step q ts ds u [] → Walk step q ts es w []
      → (ds ≡ es) × (u ≡ w)
  walk_unique stay stay = (refl, refl)
  walk_unique {w = w} (on e f) (on {ts = ts} {ds = ds} e' g) =
      walk_unique {w = w} f (subst (λ x. Walk step x ts ds w []) (go_state (sym e' ∙ e)) g)
  walk_unique (on e f) (enter e' g) = go_opens (sym e ∙ e')
  walk_unique (enter e f) (on e' g) = go_opens (sym e' ∙ e)
  walk_unique {w = w} (enter e f) (enter {ts = ts} {ds = ds} e' g) =
      let h = walk_unique {w = w} f (subst (λ x. Walk step x ts ds w []) (opens_state (sym e' ∙ e)) g) in
      (λ i. opens_depth (sym e ∙ e') i ∷ h.0 i, h.1)

pub none_over : {a b : Bool} → a ≡ false → b ≡ false → a || b ≡ false
none_over {a = true} p q = clash refl p
none_over {a = false} p q = q

-- ---- reading along walks

-- what an outcome gives, and 7 or 8 with its place
value_of : {A : Type 0} → Outcome ℕ A → Option A
value_of (ok a) = some a
value_of (refused n p) = none

pub ok_value : {A : Type 0} {a b : A} → Path (Outcome ℕ A) (ok a) (ok b) → Path (Option A) (some a) (some b)
unfolding value_of
ok_value e = ap value_of e

pub refused_ok {ℓ} : {X : Type ℓ} {A : Type 0} {a : A} {n p : ℕ} → Path (Outcome ℕ A) (refused n p) (ok a) → X
unfolding value_of
refused_ok {a = a} e = absurd (none-ne-some a (ap value_of e))

-- n forms are open or read, and forms that open at these nestings come behind: all within the limits
pub record Fits (l : Limits) (n : ℕ) (ds : List ℕ) : Type 0 where
  pub count_fits : n + length ds ≤ l.values
  pub depth_fits : most ds ≤ l.nesting

-- reading from q accepts: a walk to a whole text within the limits
pub record Accepted
    {Q A : Type 0} (step : Q → Placed → Step Q) (whole : Q → Option A) (l : Limits) (n : ℕ) (q : Q) (ts : List Placed) (a : A)
    : Type 0 where
  pub depths : List ℕ
  pub last : Q
  pub walk : Walk step q ts depths last []
  pub is_whole : whole last ≡ some a
  pub fits : Fits l n depths

module _ {Q A : Type 0} (step : Q → Placed → Step Q) (whole : Q → Option A) (l : Limits) (end : ℕ) where
  pub read_accepted
      : (ts : List Placed) (a : A) (n : ℕ) (q : Q) → n ≤ l.values → read_tokens step whole l n end q ts ≡ ok a
      → Accepted step whole l n q ts a
  unfolding read_tokens or_end judge_step most
  read_accepted [] a n q h e = at_end (whole q) refl e
    where
      at_end : (o : Option A) → whole q ≡ o → or_end end o ≡ ok a → Accepted step whole l n q [] a
      at_end none f g = refused_ok g
      at_end (some b) f g =
          record { depths = []; last = q; walk = stay; is_whole = f ∙ ok_value g; fits = record { count_fits = omega arith; depth_fits = omega arith } }
  read_accepted (t ∷ ts) a n q h e = by_step (step q t) refl e (read_accepted ts a)
    where
      next : ℕ → Q → Outcome ℕ A
      next n' q' = read_tokens step whole l n' end q' ts

      more : {d : ℕ} {ds : List ℕ} → suc n ≤ l.values → d ≤ l.nesting → Fits l (suc n) ds → Fits l n (d ∷ ds)
      more i j f = record { count_fits = let z = f.count_fits in omega arith; depth_fits = let z = f.depth_fits in omega arith }

      entered
          : (d : ℕ) (r : Q) → step q t ≡ opens d r → (b : Bool) → over l (suc n) d ≡ b
          → Path (Outcome ℕ A) (elim b [ true ↦ refused 8 t.at | false ↦ next (suc n) r ]) (ok a)
          → ((m : ℕ) (r : Q) → m ≤ l.values → next m r ≡ ok a → Accepted step whole l m r ts a)
          → Accepted step whole l n q (t ∷ ts) a
      entered d r f true g e rest = refused_ok e
      entered d r f false g e rest =
          let i : suc n ≤ l.values = ltb_le l.values (suc n) (or_false_left (ltb l.values (suc n)) (ltb l.nesting d) g) in
          let j : d ≤ l.nesting = ltb_le l.nesting d (or_false_right (ltb l.values (suc n)) (ltb l.nesting d) g) in
          let w = rest (suc n) r i e in
          record { depths = d ∷ w.depths; last = w.last; walk = enter f w.walk; is_whole = w.is_whole; fits = more i j w.fits }

      by_step
          : (x : Step Q) → step q t ≡ x → judge_step l n t.at x next ≡ ok a
          → ((m : ℕ) (r : Q) → m ≤ l.values → next m r ≡ ok a → Accepted step whole l m r ts a)
          → Accepted step whole l n q (t ∷ ts) a
      by_step misplaced f g rest = refused_ok g
      by_step (go r) f g rest =
          let w = rest n r h g in
          record { depths = w.depths; last = w.last; walk = on f w.walk; is_whole = w.is_whole; fits = w.fits }
      by_step (opens d r) f g rest = entered d r f (over l (suc n) d) refl g rest

  -- reading goes along a walk that keeps the limits
  pub read_along
      : {q u : Q} {ts us : List Placed} {ds : List ℕ} → Walk step q ts ds u us → (n : ℕ) → Fits l n ds
      → read_tokens step whole l n end q ts ≡ read_tokens step whole l (n + length ds) end u us
  unfolding read_tokens judge_step most
  read_along {q = q} {ts = ts} stay n f = ap (λ m. read_tokens step whole l m end q ts) (let z : n ≡ n + 0 = omega arith in z)
  read_along (on e g) n f = rw e (read_along g n f)
  read_along (enter {u = u} {us = us} {d = d} {ds = ds} e g) n f = rw e (rw (closed, judge_step) (read_along g (suc n) rest ∙ again))
    where
      closed : over l (suc n) d ≡ false
      closed =
          none_over
          (le-ltb l.values (suc n) (let z = f.count_fits in omega arith))
          (le-ltb l.nesting d (let z = f.depth_fits in omega arith))

      rest : Fits l (suc n) ds
      rest = record { count_fits = let z = f.count_fits in omega arith; depth_fits = let z = f.depth_fits in omega arith }

      again : read_tokens step whole l (suc n + length ds) end u us ≡ read_tokens step whole l (n + length (d ∷ ds)) end u us
      again = ap (λ m. read_tokens step whole l m end u us) (let z : suc n + length ds ≡ n + suc (length ds) = omega arith in z)
