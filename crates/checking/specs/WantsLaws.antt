-- Laws of what a form wants and of the member that `field` gives. Assumes nothing.
use Rattle.std.specs.Prelude.{ℕ, ◌≡◌, refl, Bool, List, eqb}
use Rattle.std.proofs.Common.{sym, ap₂, ◌∙◌, arith}
use Rattle.std.proofs.Math.Path.{ap}
use Rattle.std.proofs.Math.Bool.{true, false}
use Rattle.std.proofs.Math.Option.{none, some}
use Rattle.std.specs.Int.Bits.{bit_and, bit_or, or_add_and}
use Rattle.definitions.specs.Bytes.{Bytes}
use Rattle.definitions.specs.Outcome.{Outcome, ok, refused, ◌>>=◌}
use Rattle.definitions.specs.Shape.{Kind, among, rank, Shape, shape, no_rec, rec_of, Fields, find, within, record_of, has, has_rec}
use Rattle.definitions.specs.Checking.{field_kinds, wants, listed, gain_null, field_shape}
use Rattle.laws.specs.Bools.{clash}
use Rattle.shapes.specs.Shapes.{bit, kind_bits}
use Rattle.checking.specs.KindSets.{flags, eqb_same, within_bits}

-- ---- wants

-- the bits of the kinds that a form wants
abbrev pub wanted : List Kind → ℕ
wanted ks = flags (λ k. among k ks)

-- a set is within another where it adds nothing to it, or where it is all that they have in common
pub or_and : (a b : ℕ) → eqb (bit_or a b) b ≡ eqb (bit_and a b) a
or_and a b = eqb_same (bit_or a b) b (bit_and a b) a (λ e. omega (arith, or_add_and a b)) (λ e. omega (arith, or_add_and a b))

pub within_told : (ks : List Kind) (s : Shape) (kinds w : ℕ) → kind_bits s ≡ kinds → w ≡ wanted ks → eqb (bit_and kinds w) kinds ≡ within ks s
within_told ks s kinds w e f = ap₂ (λ (x y : ℕ). eqb (bit_and x y) x) (sym e) f ∙ within_bits ks s

pub joins_told : (ks : List Kind) (s : Shape) (kinds w : ℕ) → kind_bits s ≡ kinds → w ≡ wanted ks → eqb (bit_or kinds w) w ≡ within ks s
joins_told ks s kinds w e f = or_and kinds w ∙ within_told ks s kinds w e f

module _ {A : Type 0} (at : ℕ) (ks : List Kind) (s : Shape) (out : Outcome ℕ A) where
  pub wants_met : within ks s ≡ true → wants at ks s out ≡ out
  unfolding wants
  wants_met e = ap (λ (b : Bool). elim b [ true ↦ out | false ↦ refused 9 at ]) e

  pub wants_unmet : within ks s ≡ false → wants at ks s out ≡ refused 9 at
  unfolding wants
  wants_unmet e = ap (λ (b : Bool). elim b [ true ↦ out | false ↦ refused 9 at ]) e

-- ---- members

pub field_wanted : 65 ≡ wanted field_kinds
unfolding flags among rank field_kinds bit
field_wanted = refl

module _ (at : ℕ) (n : Bytes) (s : Shape) where
  pub field_unmet : within field_kinds s ≡ false → field_shape at n s ≡ refused 9 at
  unfolding field_shape
  field_unmet e = wants_unmet at field_kinds s _ e

  module _ (e : within field_kinds s ≡ true) where
    -- what is listed, with the null that it gains
    gained : Outcome ℕ Shape → Outcome ℕ Shape
    gained o = o >>= λ t. ok (gain_null (has Kind.null s) t)

    field_met : {o : Outcome ℕ Shape} → listed at n (record_of s) ≡ o → field_shape at n s ≡ gained o
    unfolding field_shape gained
    field_met l = wants_met at field_kinds s _ e ∙ ap gained l

    pub field_nothing : record_of s ≡ no_rec → field_shape at n s ≡ refused 10 at
    unfolding listed gained ◌>>=◌
    field_nothing r = field_met (ap (λ (x : _). listed at n x) r)

    pub field_missing : (fs : Fields) → record_of s ≡ rec_of fs → find n fs ≡ none → field_shape at n s ≡ refused 10 at
    unfolding listed gained ◌>>=◌
    field_missing fs r f =
        field_met (ap (λ (x : _). listed at n x) r ∙ ap (λ (o : _). elim o [ none ↦ refused 10 at | some t ↦ ok t ]) f)

    pub field_found
        : (fs : Fields) (t : Shape) → record_of s ≡ rec_of fs → find n fs ≡ some t
        → field_shape at n s ≡ ok (gain_null (has Kind.null s) t)
    unfolding listed gained ◌>>=◌
    field_found fs t r f =
        field_met (ap (λ (x : _). listed at n x) r ∙ ap (λ (o : _). elim o [ none ↦ refused 10 at | some u ↦ ok u ]) f)

-- the members of a shape, if it has rec
pub rec_there : (s : Shape) → has Kind.rec s ≡ true → (fs : Fields) × (record_of s ≡ rec_of fs)
unfolding has has_rec record_of
rec_there (shape n b m t e no_rec) h = clash {b = false} h refl
rec_there (shape n b m t e (rec_of fs)) h = (fs, refl)

pub rec_lacks : (s : Shape) → has Kind.rec s ≡ false → record_of s ≡ no_rec
unfolding has has_rec record_of
rec_lacks (shape n b m t e no_rec) h = refl
rec_lacks (shape n b m t e (rec_of fs)) h = clash {b = true} refl h
