-- Whether a shape's kinds are all in another, told from the kinds' bits: they add none to the other's. Assumes nothing.
use Prim.Native.Nat.{ℕ, ◌+◌, ◌*◌}
use mathlib.Core.Path.{◌≡◌, refl, sym, ap, ◌∙◌}
use mathlib.Core.Logic.{◌⊎◌, inl, inr}
use mathlib.Core.Bool.{Bool, true, false, not, ◌||◌, false≢true}
use lib.Bits.{bit_or}
use Rattle.definitions.specs.Shape.{Kind, all_kinds, Shape, shape, has, has_list, has_rec}
use Rattle.definitions.specs.Order.{kinds_in}
use Rattle.definitions.specs.Join.{join}
use Rattle.laws.specs.Bools.{tell}
use Rattle.laws.specs.JoinParts.{has_join}
use Rattle.laws.specs.OrderParts.{every_intro, every_kind}
use Rattle.shapes.specs.Shapes.{bit, kind_bit, kind_bits, has_bit}
use Rattle.shapes.specs.ShapesLaws.{numeric_sum, has_kind, union_bits}

-- ---- bits from kinds

-- the sum of the bits of the kinds that pass
abbrev sum_of : (Kind → Bool) → ℕ
sum_of f =
    bit (f Kind.null)
    + 2 * bit (f Kind.bool)
    + 4 * (bit (f Kind.int) + 2 * bit (f Kind.dec))
    + 16 * bit (f Kind.text)
    + 32 * bit (f Kind.list)
    + 64 * bit (f Kind.rec)

bits_sum : (s : Shape) → kind_bits s ≡ sum_of (λ k. has k s)
unfolding kind_bits has
bits_sum (shape n b m x e r) =
    ap (λ (y : ℕ). bit n + 2 * bit b + 4 * y + 16 * bit x + 32 * bit (has_list e) + 64 * bit (has_rec r)) (numeric_sum m)

same_bits : (s t : Shape) → ((k : Kind) → has k s ≡ has k t) → kind_bits s ≡ kind_bits t
same_bits s t h =
    bits_sum s
    ∙ (λ i.
    bit (h Kind.null i)
    + 2 * bit (h Kind.bool i)
    + 4 * (bit (h Kind.int i) + 2 * bit (h Kind.dec i))
    + 16 * bit (h Kind.text i)
    + 32 * bit (h Kind.list i)
    + 64 * bit (h Kind.rec i))
    ∙ sym (bits_sum t)

-- ---- all kinds

-- nothing is added
adds_none : (p q : Bool) → (not p || q) ≡ true → (p || q) ≡ q
adds_none true true e = refl
adds_none true false e = absurd (false≢true e)
adds_none false q e = refl

none_added : (p q : Bool) → (p || q) ≡ q → (not p || q) ≡ true
none_added true q e = sym e
none_added false q e = refl

-- a kind of the first shape is one of the second's
pub kind_in : (k : Kind) (s t : Shape) → kinds_in s t ≡ true → has k s ≡ true → has k t ≡ true
unfolding kinds_in
kind_in k s t h e =
    sym (adds_none (has k s) (has k t) (every_kind (λ j. not (has j s) || has j t) h k))
    ∙ ap (λ (b : Bool). b || has k t) e

-- ---- what the bits tell

pub kinds_all : (s t : Shape) → bit_or (kind_bits s) (kind_bits t) ≡ kind_bits t → kinds_in s t ≡ true
unfolding kinds_in
kinds_all s t h =
    every_intro (λ j. not (has j s) || has j t) all_kinds
    (λ k.
    none_added (has k s) (has k t)
    (sym (has_join k s t)
    ∙ sym (has_kind k (join s t))
    ∙ ap (λ (x : ℕ). has_bit x (kind_bit k)) (sym (union_bits s t) ∙ h)
    ∙ has_kind k t))

bits_all : (s t : Shape) → kinds_in s t ≡ true → bit_or (kind_bits s) (kind_bits t) ≡ kind_bits t
unfolding kinds_in
bits_all s t h =
    union_bits s t
    ∙ same_bits (join s t) t
    (λ k.
    has_join k s t
    ∙ adds_none (has k s) (has k t) (every_kind (λ j. not (has j s) || has j t) h k))

pub kinds_beyond : (s t : Shape) → (bit_or (kind_bits s) (kind_bits t) ≡ kind_bits t → ⊥) → kinds_in s t ≡ false
kinds_beyond s t h = go (tell (kinds_in s t))
  where
    go : (kinds_in s t ≡ true) ⊎ (kinds_in s t ≡ false) → kinds_in s t ≡ false
    go (inl e) = absurd (h (bits_all s t e))
    go (inr e) = e
