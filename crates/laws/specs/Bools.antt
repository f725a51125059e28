-- Tests as equations `b ≡ true`: how `◌&&◌`, `◌||◌` and `not` take them apart and put them together. Assumes nothing.
use Rattle.std.specs.Prelude.{◌≡◌, refl, ◌⊎◌, Bool, true, false, not, ◌&&◌, ◌||◌}
use Rattle.std.proofs.Common.{sym, ◌∙◌, inl, inr, true≢false}
use Rattle.std.proofs.lemmas.Bool.{false≢true}

-- a test passes or fails
pub tell : (b : Bool) → (b ≡ true) ⊎ (b ≡ false)
tell true = inl refl
tell false = inr refl

pub and_left : (a b : Bool) → a && b ≡ true → a ≡ true
and_left true b h = refl
and_left false b h = absurd (false≢true h)

pub and_right : (a b : Bool) → a && b ≡ true → b ≡ true
and_right true b h = h
and_right false b h = absurd (false≢true h)

pub and_intro : {a b : Bool} → a ≡ true → b ≡ true → a && b ≡ true
and_intro {a = true} {b} p q = q
and_intro {a = false} {b} p q = absurd (false≢true p)

-- a test of two or three parts, apart
pub and_two : (a b : Bool) → a && b ≡ true → (a ≡ true) × (b ≡ true)
and_two a b h = (and_left a b h, and_right a b h)

pub and_three : (a b c : Bool) → a && b && c ≡ true → (a ≡ true) × (b ≡ true) × (c ≡ true)
and_three a b c h = (and_left a b (and_left (a && b) c h), and_right a b (and_left (a && b) c h), and_right (a && b) c h)

pub or_cases : (a b : Bool) → a || b ≡ true → (a ≡ true) ⊎ (b ≡ true)
or_cases true b h = inl refl
or_cases false b h = inr h

pub or_left : {a : Bool} (b : Bool) → a ≡ true → a || b ≡ true
or_left {a = true} b p = refl
or_left {a = false} b p = absurd (false≢true p)

pub or_right : (a : Bool) {b : Bool} → b ≡ true → a || b ≡ true
or_right true p = refl
or_right false p = p

-- a disjunction fails: both fail
pub or_false_left : (a b : Bool) → a || b ≡ false → a ≡ false
or_false_left true b h = absurd (true≢false h)
or_false_left false b h = refl

pub or_false_right : (a b : Bool) → a || b ≡ false → b ≡ false
or_false_right true b h = absurd (true≢false h)
or_false_right false b h = h

pub not_true : (a : Bool) → not a ≡ true → a ≡ false
not_true true h = absurd (false≢true h)
not_true false h = refl

pub not_false : {a : Bool} → a ≡ false → not a ≡ true
not_false {a = true} h = absurd (true≢false h)
not_false {a = false} h = refl

-- a test that passes does not fail
-- a test that does not fail passes
pub not_fails : (b : Bool) → not b ≡ false → b ≡ true
not_fails true h = refl
not_fails false h = sym h

pub clash {ℓ} : {X : Type ℓ} {b : Bool} → b ≡ true → b ≡ false → X
clash p q = absurd (true≢false (sym p ∙ q))

-- where the second fails, the first is the disjunction
pub or_second : (a : Bool) {b : Bool} → b ≡ false → a ≡ (a || b)
or_second true e = refl
or_second false e = sym e

-- an implication, put to use
pub implied : (a b : Bool) → not a || b ≡ true → a ≡ true → b ≡ true
implied true b h e = h
implied false b h e = absurd (false≢true e)

-- two tests that imply one another are equal
pub bool_eq : (a b : Bool) → (a ≡ true → b ≡ true) → (b ≡ true → a ≡ true) → a ≡ b
bool_eq true b f g = sym (f refl)
bool_eq false true f g = g refl
bool_eq false false f g = refl
