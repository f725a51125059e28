-- Comparisons of numbers as tests `b ≡ true`, both ways. Assumes nothing.
use Rattle.std.specs.Prelude.{ℕ, suc, ◌≤◌, ◌<◌, ◌≡◌, refl, ◌⊎◌, Bool, true, false, not, T, leb, ltb, eqb}
use Rattle.std.proofs.Common.{subst, inl, inr, true≢false, leb→le, le→leb, eqb→eq, arith}
use Rattle.std.proofs.lemmas.Bool.{false≢true}
use Rattle.std.proofs.Math.Dec.{nleb→lt, eqb_refl}
use Rattle.laws.specs.Bools.{clash}

-- a test that passes or fails, as a type
of_true : {b : Bool} → b ≡ true → T b
of_true {b = true} h = tt
of_true {b = false} h = absurd (false≢true h)

of_false : {b : Bool} → b ≡ false → T (not b)
of_false {b = true} h = absurd (true≢false h)
of_false {b = false} h = tt

to_true : (b : Bool) → T b → b ≡ true
to_true true h = refl
to_true false h = absurd h

-- a test fails if its passing is absurd
pub fails : (b : Bool) → (b ≡ true → ⊥) → b ≡ false
fails true f = absurd (f refl)
fails false f = refl

pub leb_le : {m n : ℕ} → leb m n ≡ true → m ≤ n
leb_le {m} {n} h = leb→le m n (of_true h)

pub le-leb : {m n : ℕ} → m ≤ n → leb m n ≡ true
le-leb {m} {n} h = to_true (leb m n) (le→leb m n h)

pub leb_gt : {m n : ℕ} → leb m n ≡ false → n < m
leb_gt {m} {n} h = nleb→lt m n (of_false h)

pub gt_leb : {m n : ℕ} → n < m → leb m n ≡ false
gt_leb {m} {n} h = fails (leb m n) (λ e. let k : m ≤ n = leb_le e in omega arith)

pub eqb_eq : {m n : ℕ} → eqb m n ≡ true → m ≡ n
eqb_eq {m} {n} h = eqb→eq m n (of_true h)

pub eq-eqb : {m n : ℕ} → m ≡ n → eqb m n ≡ true
eq-eqb {m} {n} e = subst (λ k. eqb m k ≡ true) e (to_true (eqb m m) (eqb_refl m))

pub eqb_ne : {m n : ℕ} → eqb m n ≡ false → m ≡ n → ⊥
eqb_ne h e = clash (eq-eqb e) h

pub ne_eqb : {m n : ℕ} → (m ≡ n → ⊥) → eqb m n ≡ false
ne_eqb {m} {n} f = fails (eqb m n) (λ e. f (eqb_eq e))

-- a number is below another, or not
pub lt_or_le : (m n : ℕ) → (m < n) ⊎ (n ≤ m)
lt_or_le m n = go (ltb m n) refl
  where
    go : (t : Bool) → ltb m n ≡ t → (m < n) ⊎ (n ≤ m)
    go true e = inl (leb_le e)
    go false e = inr (let l : n < suc m = leb_gt e in omega arith)

-- `ltb m n` is `leb (suc m) n`
pub ltb_lt : (m n : ℕ) → ltb m n ≡ true → m < n
ltb_lt m n e = leb_le e

pub lt-ltb : (m n : ℕ) → m < n → ltb m n ≡ true
lt-ltb m n h = le-leb h

pub ltb_le : (m n : ℕ) → ltb m n ≡ false → n ≤ m
ltb_le m n e = let k : n < suc m = leb_gt e in omega arith

pub le-ltb : (m n : ℕ) → n ≤ m → ltb m n ≡ false
le-ltb m n h = gt_leb (let k : n < suc m = omega arith in k)
