-- Tests on bytes and tables of ranges (definitions' Bytes), both directions: a test passes, or a table's row is found,
-- exactly where the byte lies in the range. Assumes nothing.
use Rattle.std.specs.Prelude.{ℕ, ◌≡◌, refl, ◌⊎◌, Bool, true, false, List, [], ◌∷◌, leb}
use Prim.Native.Char.{Char, code}
use Rattle.std.proofs.Common.{sym, ap, subst, inl, inr, arith}
use Rattle.std.proofs.Math.Option.{some, some-injective, none-ne-some}
use Rattle.definitions.specs.Bytes.{Row, row, between, look, is}
use Rattle.laws.specs.Bools.{clash, and_left, and_right, and_intro}
pub use Rattle.laws.specs.Tests.{fails, leb_le, le-leb, leb_gt, gt_leb, eqb_eq, eq-eqb, eqb_ne, ne_eqb, lt_or_le}
use Rattle.laws.specs.Rfc3629.{In}

-- ---- between, is

pub between_in : {lo hi b : ℕ} → between lo hi b ≡ true → In lo hi b
unfolding between
between_in {lo} {hi} {b} h =
    record { from = leb_le (and_left (leb lo b) (leb b hi) h); to = leb_le (and_right (leb lo b) (leb b hi) h) }

pub in_between : {lo hi b : ℕ} → In lo hi b → between lo hi b ≡ true
unfolding between
in_between i = and_intro (le-leb i.from) (le-leb i.to)

pub between_out : {lo hi b : ℕ} → between lo hi b ≡ false → In lo hi b → ⊥
between_out h i = clash (in_between i) h

pub out_between : {lo hi b : ℕ} → (In lo hi b → ⊥) → between lo hi b ≡ false
out_between {lo} {hi} {b} f = fails (between lo hi b) (λ e. f (between_in e))

-- a range of one byte
pub in_one : {a b : ℕ} → In a a b → b ≡ a
in_one i = omega arith

pub one_in : {a b : ℕ} → b ≡ a → In a a b
one_in e = record { from = omega arith; to = omega arith }

-- a family at a byte that is alone in its range
pub at_one : (P : ℕ → Type 0) {a b : ℕ} → In a a b → P a → P b
at_one P i x = subst P (sym (in_one i)) x

pub is_eq : (c : Char) {b : ℕ} → is c b ≡ true → b ≡ code c
unfolding is
is_eq c h = eqb_eq h

pub eq_is : (c : Char) {b : ℕ} → b ≡ code c → is c b ≡ true
unfolding is
eq_is c e = eq-eqb e

pub is_ne : (c : Char) {b : ℕ} → is c b ≡ false → b ≡ code c → ⊥
unfolding is
is_ne c h e = eqb_ne h e

pub ne_is : (c : Char) {b : ℕ} → (b ≡ code c → ⊥) → is c b ≡ false
unfolding is
ne_is c f = ne_eqb f

-- ---- look

-- the first row that has b says a
pub data Hit {A : Type 0} : List (Row A) → ℕ → A → Type 0 where
  here : {lo hi b : ℕ} {a : A} {rows : List (Row A)} → In lo hi b → Hit (row lo hi a ∷ rows) b a
  there
      : {lo hi b : ℕ} {a c : A} {rows : List (Row A)} → (In lo hi b → ⊥) → Hit rows b c
      → Hit (row lo hi a ∷ rows) b c

pub look_hit : {A : Type 0} (rows : List (Row A)) (b : ℕ) (a : A) → look rows b ≡ some a → Hit rows b a
unfolding look
look_hit [] b a h = absurd (none-ne-some a h)
look_hit {A} (row lo hi c ∷ rows) b a h = go (between lo hi b) refl (look_hit rows b a)
  where
    go : (t : Bool) → between lo hi b ≡ t → (look rows b ≡ some a → Hit rows b a) → Hit (row lo hi c ∷ rows) b a
    go true e f = subst (λ x. Hit (row lo hi c ∷ rows) b x) (some-injective c a (rw (e, look) at h)) (here (between_in e))
    go false e f = there (between_out e) (f (rw (e, look) at h))

-- the same as a type that computes with the table, for the other direction
abbrev pub Hits : {A : Type 0} → List (Row A) → ℕ → A → Type 0
Hits [] b c = ⊥
Hits (row lo hi a ∷ rows) b c = (In lo hi b × (a ≡ c)) ⊎ ((In lo hi b → ⊥) × Hits rows b c)

pub hits_look : {A : Type 0} (rows : List (Row A)) (b : ℕ) (a : A) → Hits rows b a → look rows b ≡ some a
unfolding look
hits_look [] b a h = absurd h
hits_look (row lo hi c ∷ rows) b a (inl k) = rw (in_between k.0, look) (ap some k.1)
hits_look (row lo hi c ∷ rows) b a (inr k) = rw (out_between k.0, look) (hits_look rows b a k.1)
