-- Looking a byte up in a table of ranges, a row at a time. Assumes nothing.
use Prim.Native.Nat.{ℕ, suc, ◌≤◌, ◌<◌}
use native.Mathlib.Nat.{le_refl}
use native.Mathlib.Omega.{arith}
use mathlib.Core.Path.{◌≡◌, refl, sym, ap, ◌∙◌}
use mathlib.Core.Bool.{Bool, true, false, ◌&&◌, false≢true}
use mathlib.Core.List.{List, [], ◌∷◌}
use mathlib.Core.Option.{Option, none, some}
use borrow.Author.Tests.{le-leb, lt-leb, leb-true, leb-false}
use lib.Arith.{lt_of_le-ne}
use lib.Dec.{leb}
use Rattle.definitions.specs.Bytes.{Row, row, between, look}

-- ---- the test of a row

pub in_bounds : (lo hi b : ℕ) → lo ≤ b → b ≤ hi → true ≡ between lo hi b
unfolding between
in_bounds lo hi b l m = rw (le-leb lo b l, le-leb b hi m)

pub below_row : (lo hi b : ℕ) → b < lo → false ≡ between lo hi b
unfolding between
below_row lo hi b l = rw (lt-leb lo b l)

pub above_row : (lo hi b : ℕ) → hi < b → false ≡ between lo hi b
unfolding between
above_row lo hi b l = go (leb lo b)
  where
    go : (x : Bool) → false ≡ x && leb b hi
    go true = rw (lt-leb b hi l)
    go false = refl

pub row_bounds : (lo hi b : ℕ) → between lo hi b ≡ true → (lo ≤ b) × (b ≤ hi)
unfolding between
row_bounds lo hi b e = go (leb lo b) (leb b hi) refl refl e
  where
    go : (x y : Bool) → leb lo b ≡ x → leb b hi ≡ y → x && y ≡ true → (lo ≤ b) × (b ≤ hi)
    go true true p q f = (leb-true lo b p, leb-true b hi q)
    go true false p q f = absurd (false≢true f)
    go false y p q f = absurd (false≢true f)

same_in : (c b : ℕ) → b ≡ c → between c c b ≡ true
unfolding between
same_in c b e = rw (e, le-leb c c (le_refl c))

other_out : (c b : ℕ) → (b ≡ c → ⊥) → between c c b ≡ false
unfolding between
other_out c b h = go (leb c b) (leb b c) refl refl
  where
    go : (x y : Bool) → leb c b ≡ x → leb b c ≡ y → leb c b && leb b c ≡ false
    go false y p q = rw p
    go true false p q = rw (p, q)
    go true true p q = absurd (h (omega (arith, leb-true c b p, leb-true b c q)))

-- a row without its least byte
without_least : (lo hi b : ℕ) → (b ≡ lo → ⊥) → between lo hi b ≡ between (suc lo) hi b
unfolding between
without_least lo hi b h = ap (λ (t : Bool). t && leb b hi) (go (leb lo b) refl)
  where
    go : (x : Bool) → leb lo b ≡ x → leb lo b ≡ leb (suc lo) b
    go true p = p ∙ sym (le-leb (suc lo) b (lt_of_le-ne (leb-true lo b p) (λ q. h (sym q))))
    go false p = p ∙ sym (lt-leb (suc lo) b (omega (arith, leb-false lo b p)))

-- ---- rows

-- what looking b up gives, a row at a time
pub data Looks {A : Type 0} (b : ℕ) : List (Row A) → Option A → Type 0 where
  nowhere : Looks b [] none
  -- from here on it is known
  known : {rows : List (Row A)} {o : Option A} → o ≡ look rows b → Looks b rows o
  in_row : {lo hi : ℕ} {a : A} {rows : List (Row A)} → between lo hi b ≡ true → Looks b (row lo hi a ∷ rows) (some a)
  past_row
      : {lo hi : ℕ} {a : A} {rows : List (Row A)} {o : Option A} → between lo hi b ≡ false → Looks b rows o
      → Looks b (row lo hi a ∷ rows) o

pub looked : {A : Type 0} {b : ℕ} {rows : List (Row A)} {o : Option A} → Looks b rows o → o ≡ look rows b
unfolding look
looked nowhere = refl
looked (known e) = e
looked (in_row e) = rw (e, look)
looked (past_row e l) = rw (e, look) (looked l)

-- rows of one byte
module _ {A : Type 0} {b c : ℕ} {a : A} {rows : List (Row A)} where
  pub in_one : b ≡ c → Looks b (row c c a ∷ rows) (some a)
  in_one e = in_row (same_in c b e)

  pub past_one : {o : Option A} → (b ≡ c → ⊥) → Looks b rows o → Looks b (row c c a ∷ rows) o
  past_one h l = past_row (other_out c b h) l

-- a byte that is not the least of a row
look_narrowed
    : {A : Type 0} (b lo hi : ℕ) (a : A) (rows : List (Row A)) → (b ≡ lo → ⊥)
    → look (row lo hi a ∷ rows) b ≡ look (row (suc lo) hi a ∷ rows) b
unfolding look
look_narrowed b lo hi a rows h = rw (without_least lo hi b h, look)

pub narrowed
    : {A : Type 0} {b : ℕ} (lo : ℕ) {hi : ℕ} {a : A} {rows : List (Row A)} {o : Option A} → (b ≡ lo → ⊥)
    → o ≡ look (row lo hi a ∷ rows) b → Looks b (row (suc lo) hi a ∷ rows) o
narrowed {b} lo {hi} {a} {rows} h e = known (e ∙ look_narrowed b lo hi a rows h)
