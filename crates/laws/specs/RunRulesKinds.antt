-- What the forms read of a value, as the rules say it and as running computes it, and the steps of running. Assumes nothing.
use Rattle.std.specs.Prelude.{ℕ, suc, ◌<◌, ◌≤◌, ◌≡◌, Bool, List, [], ◌∷◌}
use Rattle.std.proofs.Math.Path.{refl}
use Rattle.std.proofs.Common.{ap, true≢false}
use Rattle.std.proofs.Math.Bool.{true, false}
use Rattle.std.proofs.lemmas.Bool.{false≢true}
use Rattle.std.proofs.Math.Option.{none, some}
use Rattle.std.proofs.Math.Dec.{ltb}
use Rattle.definitions.specs.declared.Limits.{Limits}
use Rattle.definitions.specs.Bytes.{Bytes, same}
use Rattle.definitions.specs.Outcome.{Outcome, ok, refused, ◌>>=◌}
use Rattle.definitions.specs.Number.{is_int, whole}
use Rattle.definitions.specs.Value.{Value, Items, Members, no_members, member}
use Rattle.definitions.specs.Shape.{Kind, rank, among}
use Rattle.definitions.specs.Admits.{kind_of}
use Rattle.definitions.specs.Reader.{Conversion, to_int, to_dec, to_bool, to_text}
use Rattle.definitions.specs.Checking.{convert_kinds}
use Rattle.definitions.specs.Running.{enter, stuck_unless, member_of, members_of, whole_value, converted, items_of, truth}
use Rattle.laws.specs.Bools.{clash}
use Rattle.laws.specs.Tests.{ltb_lt, ltb_le, le-ltb}
use Rattle.laws.specs.Ints.{int_number, whole_same, whole_only}
use Rattle.laws.specs.RuleTells.{Tells, stopped, tells_either}
use Rattle.laws.specs.RunRules.{Is, IsNot, Member, missing, this, later, Field, of_record, through_null, Elements, of_list, of_null}
use Rattle.laws.specs.RunRules.{Converted, without_fraction, dec_handed, bool_handed, text_handed}

-- ---- what the forms read of a value

member_is : (n : Bytes) (ms : Members) → Member n ms (member_of n ms)
unfolding member_of
member_is n no_members = missing
member_is n (member m v ms) = go (same n m) refl (member_is n ms)
  where
    go
        : (b : Bool) → same n m ≡ b → Member n ms (member_of n ms)
        → Member n (member m v ms) (elim b [ true ↦ v | false ↦ member_of n ms ])
    go true e h = this e
    go false e h = later e h

member_as : {n : Bytes} {ms : Members} {v : Value} → Member n ms v → member_of n ms ≡ v
unfolding member_of
member_as missing = refl
member_as (this e) = rw (e, member_of) refl
member_as (later e h) = rw (e, member_of) (member_as h)

-- a number is of no kind but int and dec
number_not : (x : _) (ks : List Kind) → among Kind.int ks ≡ false → among Kind.dec ks ≡ false → IsNot ks (Value.number x)
unfolding kind_of
number_not x ks i d = go (is_int x)
  where
    go : (b : Bool) → among (elim b [ true ↦ Kind.int | false ↦ Kind.dec ]) ks ≡ false
    go true = i
    go false = d

pub field_is : (n : Bytes) (v : Value) → Is (Kind.rec ∷ Kind.null ∷ []) v → Field n v (member_of n (members_of v))
unfolding kind_of among rank members_of member_of
field_is n Value.null e = through_null
field_is n (Value.bool b) e = absurd (false≢true e)
field_is n (Value.number x) e = clash e (number_not x (Kind.rec ∷ Kind.null ∷ []) refl refl)
field_is n (Value.text t) e = absurd (false≢true e)
field_is n (Value.list vs) e = absurd (false≢true e)
field_is n (Value.rec ms) e = of_record (member_is n ms)

pub field_kind : {n : Bytes} {v w : Value} → Field n v w → Is (Kind.rec ∷ Kind.null ∷ []) v
unfolding kind_of among rank
field_kind (of_record h) = refl
field_kind through_null = refl

pub field_as : {n : Bytes} {v w : Value} → Field n v w → member_of n (members_of v) ≡ w
unfolding members_of member_of
field_as (of_record h) = member_as h
field_as through_null = refl

pub converted_is : (c : Conversion) (v : Value) → Is (convert_kinds c) v → Converted c v (converted c v)
unfolding convert_kinds converted whole_value whole
converted_is to_int v e =
    int_number (λ (w : Value). Converted to_int w (whole_value w)) v e (λ x h. without_fraction (whole_same x h))
converted_is to_dec v e = dec_handed
converted_is to_bool v e = bool_handed
converted_is to_text v e = text_handed

pub converted_as : {c : Conversion} {v w : Value} → Converted c v w → converted c v ≡ w
unfolding converted whole_value whole
converted_as (without_fraction {x} {c} e) =
    ap (λ (n : ℕ). Value.number (record { negative = x.negative; coefficient = n; scale = 0 })) (whole_only x c e)
converted_as dec_handed = refl
converted_as bool_handed = refl
converted_as text_handed = refl

pub elements_is : (v : Value) → Is (Kind.list ∷ Kind.null ∷ []) v → Elements v (items_of v)
unfolding kind_of among rank items_of
elements_is Value.null e = of_null
elements_is (Value.bool b) e = absurd (false≢true e)
elements_is (Value.number x) e = clash e (number_not x (Kind.list ∷ Kind.null ∷ []) refl refl)
elements_is (Value.text t) e = absurd (false≢true e)
elements_is (Value.list vs) e = of_list
elements_is (Value.rec ms) e = absurd (false≢true e)

pub elements_kind : {v : Value} {vs : Items} → Elements v vs → Is (Kind.list ∷ Kind.null ∷ []) v
unfolding kind_of among rank
elements_kind of_list = refl
elements_kind of_null = refl

pub elements_as : {v : Value} {vs : Items} → Elements v vs → items_of v ≡ vs
unfolding items_of
elements_as of_list = refl
elements_as of_null = refl

pub truth_none : (v : Value) → IsNot (Kind.bool ∷ []) v → truth v ≡ none
unfolding truth kind_of among rank
truth_none Value.null e = refl
truth_none (Value.bool b) e = absurd (true≢false e)
truth_none (Value.number x) e = refl
truth_none (Value.text t) e = refl
truth_none (Value.list vs) e = refl
truth_none (Value.rec ms) e = refl

-- ---- steps of running

module _ {A : Type 0} {G : A → Type 0} {R : ℕ → ℕ → Type 0} where
  pub tells_enter
      : (l : Limits) (at n : ℕ) (f : ℕ → Outcome ℕ A) → (l.steps ≤ n → R 13 at) → (n < l.steps → Tells G R (f (suc n)))
      → Tells G R (enter l at n >>= f)
  unfolding enter ◌>>=◌
  tells_enter l at n f over within = go (ltb n l.steps) refl
    where
      go : (b : Bool) → ltb n l.steps ≡ b → Tells G R (elim b [ true ↦ ok (suc n) | false ↦ refused 13 at ] >>= f)
      go true e = within (ltb_lt _ _ e)
      go false e = stopped (over (ltb_le _ _ e))

  pub tells_stuck
      : (at : ℕ) (ks : List Kind) (v : Value) {o : Outcome ℕ A} → (IsNot ks v → R 12 at) → (Is ks v → Tells G R o)
      → Tells G R (stuck_unless at ks v o)
  unfolding stuck_unless
  tells_stuck at ks v unmet met = tells_either (among (kind_of v) ks) met (λ e. stopped (unmet e))

  pub tells_truth
      : (at : ℕ) (v : Value) {x y : Outcome ℕ A} → (IsNot (Kind.bool ∷ []) v → R 12 at) → (v ≡ Value.bool true → Tells G R x)
      → (v ≡ Value.bool false → Tells G R y)
      → Tells G R (elim (truth v) [ none ↦ refused 12 at | some b ↦ elim b [ true ↦ x | false ↦ y ] ])
  unfolding truth kind_of among rank
  tells_truth at Value.null s t f = stopped (s refl)
  tells_truth at (Value.bool true) s t f = t refl
  tells_truth at (Value.bool false) s t f = f refl
  tells_truth at (Value.number x) s t f = stopped (s (number_not x (Kind.bool ∷ []) refl refl))
  tells_truth at (Value.text z) s t f = stopped (s refl)
  tells_truth at (Value.list vs) s t f = stopped (s refl)
  tells_truth at (Value.rec ms) s t f = stopped (s refl)

pub not_entered : (l : Limits) (at n : ℕ) → l.steps ≤ n → enter l at n ≡ refused 13 at
unfolding enter
not_entered l at n h = rw (le-ltb _ _ h, enter) refl

pub stuck_met : {A : Type 0} (at : ℕ) (ks : List Kind) (v : Value) (o : Outcome ℕ A) → Is ks v → stuck_unless at ks v o ≡ o
unfolding stuck_unless
stuck_met at ks v o e = rw (e, stuck_unless) refl

pub stuck_unmet : {A : Type 0} (at : ℕ) (ks : List Kind) (v : Value) (o : Outcome ℕ A) → IsNot ks v → stuck_unless at ks v o ≡ refused 12 at
unfolding stuck_unless
stuck_unmet at ks v o e = rw (e, stuck_unless) refl
