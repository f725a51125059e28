-- Request Q-2: what passed passes with its old shape, and a run is what it was unless it was stuck at a `field` on null. The rules of
-- OldField beside those of `definitions`, a form at a time. Assumes nothing.
use Rattle.std.specs.Prelude.{ℕ, ◌<◌, ◌≡◌, refl, ◌⊎◌, Bool, true, false, List, [], ◌∷◌, ltb}
use Rattle.std.proofs.Common.{arith, subst, inl, inr, lit<}
use Rattle.std.proofs.Math.Option.{Option, none, some}
use Rattle.definitions.specs.declared.Limits.{Limits}
use Rattle.definitions.specs.Bytes.{Bytes}
use Rattle.definitions.specs.Outcome.{Outcome, ok, refused, ◌>>=◌}
use Rattle.definitions.specs.Value.{Value, Items, no_items, item}
use Rattle.definitions.specs.Shape.{Kind, rank, among, every, all_kinds, Shape, shape, Record, no_rec, rec_of, has, within, record_of, find}
use Rattle.definitions.specs.Admits.{kind_of}
use Rattle.definitions.specs.Reader.{Place, Result, Pairs, no_pairs, pair}
use Rattle.definitions.specs.Checking.{field_kinds, if_kinds, list_kinds, convert_kinds, wants, listed, gain_null, field_shape, check_place}
use Rattle.definitions.specs.Checking.{check, check_pairs, check_reader, test_kinds}
use Rattle.definitions.specs.Running.{Ran, gives, enter, stuck_unless, member_of, members_of, field_value, items_of, truth, run_place, run_items}
use Rattle.definitions.specs.Running.{run, run_pairs, run_reader}
use Rattle.laws.specs.OldField.{old_field_shape, null_shape_told, check_place_by, check_by, check_pairs_by, old_check_reader, NullNotWanted}
use Rattle.laws.specs.OldField.{old_field_value, null_value_told, run_place_by, run_by, run_pairs_by, old_run_reader, StuckOnNull}

-- ---- one form beside the other

-- what a form came to by document 01, what it comes to where null is told, and what it comes to: the same, or null was met and refused with k
pub data Goes_on {A : Type 0} (k : ℕ) : (before told now : Outcome ℕ A) → Type 0 where
  gave : {a : A} → Goes_on k (ok a) (ok a) (ok a)
  halted : {n p : ℕ} → 0 < n → Goes_on k (refused n p) (refused n p) (refused n p)
  met : {p : ℕ} {o : Outcome ℕ A} → Goes_on k (refused k p) (refused 0 p) o

goes_bind
    : {A B : Type 0} {k : ℕ} {o t m : Outcome ℕ A} {f g h : A → Outcome ℕ B} → Goes_on k o t m
    → ((a : A) → Goes_on k (f a) (g a) (h a)) → Goes_on k (o >>= f) (t >>= g) (m >>= h)
unfolding ◌>>=◌
goes_bind (gave {a}) on = on a
goes_bind (halted h) on = halted h
goes_bind met on = met

goes_either
    : {A : Type 0} {k : ℕ} {o t m o' t' m' : Outcome ℕ A} (b : Bool) → Goes_on k o t m → Goes_on k o' t' m'
    → Goes_on {A = A} k (elim b [ true ↦ o | false ↦ o' ]) (elim b [ true ↦ t | false ↦ t' ]) (elim b [ true ↦ m | false ↦ m' ])
goes_either true h i = h
goes_either false h i = i

module _ {A : Type 0} {k : ℕ} {o t m : Outcome ℕ A} (h : Goes_on k o t m) where
  goes_told : (m ≡ o) ⊎ ((p : ℕ) × (t ≡ refused 0 p))
  goes_told = by h
    where
      by : {o t m : Outcome ℕ A} → Goes_on k o t m → (m ≡ o) ⊎ ((p : ℕ) × (t ≡ refused 0 p))
      by gave = inl refl
      by (halted h) = inl refl
      by (met {p}) = inr (p, refl)

  goes_ended : {a : A} → o ≡ ok a → m ≡ ok a
  goes_ended {a} e = by (subst (λ (x : Outcome ℕ A). Goes_on k x t m) e h)
    where
      by : {t m : Outcome ℕ A} → Goes_on k (ok a) t m → m ≡ ok a
      by gave = refl

  goes_met : {p : ℕ} → t ≡ refused 0 p → o ≡ refused k p
  goes_met {p} e = by (subst (λ (x : Outcome ℕ A). Goes_on k o x m) e h)
    where
      by : {o m : Outcome ℕ A} → Goes_on k o (refused 0 p) m → o ≡ refused k p
      by (halted h) = absurd (let z : ⊥ = omega arith in z)
      by met = refl

-- ---- checking

goes_wants
    : {A : Type 0} {o t m : Outcome ℕ A} (at : ℕ) (ks : List Kind) (s : Shape) → Goes_on 9 o t m
    → Goes_on 9 (wants at ks s o) (wants at ks s t) (wants at ks s m)
unfolding wants
goes_wants at ks s h = goes_either (within ks s) h (halted (lit< tt))

goes_listed : (at : ℕ) (n : Bytes) (r : Record) → Goes_on 9 (listed at n r) (listed at n r) (listed at n r >>= λ t. ok (gain_null false t))
unfolding listed gain_null ◌>>=◌
goes_listed at n no_rec = halted (lit< tt)
goes_listed at n (rec_of fs) = by (find n fs)
  where
    found : Option Shape → Outcome ℕ Shape
    found o = elim o [ none ↦ refused 10 at | some s ↦ ok s ]

    by : (o : Option Shape) → Goes_on 9 (found o) (found o) (found o >>= λ t. ok (gain_null false t))
    by none = halted (lit< tt)
    by (some s) = gave

-- a place with null was 9; without it the kinds that are wanted are the old ones, and nothing is gained
goes_member : (at : ℕ) (n : Bytes) (s : Shape) → Goes_on 9 (old_field_shape at n s) (null_shape_told at n s) (field_shape at n s)
unfolding old_field_shape null_shape_told field_shape field_kinds wants within every all_kinds has among rank record_of
goes_member at n (shape true b m t e r) = met
goes_member at n (shape false b m t e r) =
    goes_either (within (Kind.rec ∷ []) (shape false b m t e r)) (goes_listed at n r) (halted (lit< tt))

place_checks
    : (p : Place) (env : List Shape) → Goes_on 9 (check_place_by p old_field_shape env) (check_place_by p null_shape_told env) (check_place p env)
unfolding check_place_by check_place
place_checks (Place.it at n) env = gave
place_checks (Place.field at n p) env = goes_bind (place_checks p env) λ s. goes_member at n s

mutual
  unfolding check_by check

  result_checks : (r : Result) (env : List Shape) → Goes_on 9 (check_by r old_field_shape env) (check_by r null_shape_told env) (check r env)
  result_checks (Result.convert at c p) env = goes_bind (place_checks p env) λ s. goes_wants at (convert_kinds c) s gave
  result_checks (Result.keep at p) env = place_checks p env
  result_checks (Result.count at p) env = goes_bind (place_checks p env) λ s. goes_wants at list_kinds s gave
  result_checks (Result.each at p r) env =
      goes_bind (place_checks p env) λ s. goes_bind (result_checks r _) λ t. goes_wants at list_kinds s gave
  result_checks (Result.when at k p r₁ r₂) env =
      goes_bind (place_checks p env) λ s. goes_bind (result_checks r₁ _) λ t₁. goes_bind (result_checks r₂ _) λ t₂. gave
  result_checks (Result.choose at r₁ r₂ r₃) env =
      goes_bind (result_checks r₁ env) λ t₁.
      goes_bind (result_checks r₂ env) λ t₂. goes_bind (result_checks r₃ env) λ t₃. goes_wants at if_kinds t₁ gave
  result_checks (Result.literal at v) env = gave
  result_checks (Result.pack at ps) env = goes_bind (pairs_check ps env) λ fs. gave

  pairs_check
      : (ps : Pairs) (env : List Shape)
      → Goes_on 9 (check_pairs_by ps old_field_shape env) (check_pairs_by ps null_shape_told env) (check_pairs ps env)
  pairs_check no_pairs env = gave
  pairs_check (pair n r ps) env = goes_bind (result_checks r env) λ s. goes_bind (pairs_check ps env) λ fs. gave

module _ (r : Result) (s : Shape) where
  pub reader_checks : Goes_on 9 (old_check_reader r s) (check_by r null_shape_told (s ∷ [])) (check_reader r s)
  unfolding old_check_reader check_reader
  reader_checks = result_checks r (s ∷ [])

  pub checked_before : (check_reader r s ≡ old_check_reader r s) ⊎ ((p : ℕ) × NullNotWanted r s p)
  checked_before = goes_told reader_checks

  pub passes_again : (t : Shape) → old_check_reader r s ≡ ok t → check_reader r s ≡ ok t
  passes_again t e = goes_ended reader_checks e

  -- where a place had null it was 9
  pub was_unwanted : (p : ℕ) → NullNotWanted r s p → old_check_reader r s ≡ refused 9 p
  was_unwanted p e = goes_met reader_checks e

-- ---- running

goes_enter
    : {A : Type 0} (l : Limits) (at n : ℕ) {f g h : ℕ → Outcome ℕ A} → ((k : ℕ) → Goes_on 12 (f k) (g k) (h k))
    → Goes_on 12 (enter l at n >>= f) (enter l at n >>= g) (enter l at n >>= h)
unfolding enter
goes_enter l at n k = goes_bind (goes_either (ltb n l.steps) gave (halted (lit< tt))) k

goes_unless
    : {A : Type 0} {o t m : Outcome ℕ A} (at : ℕ) (ks : List Kind) (v : Value) → Goes_on 12 o t m
    → Goes_on 12 (stuck_unless at ks v o) (stuck_unless at ks v t) (stuck_unless at ks v m)
unfolding stuck_unless
goes_unless at ks v h = goes_either (among (kind_of v) ks) h (halted (lit< tt))

goes_truth
    : {A : Type 0} {o t m o' t' m' : Outcome ℕ A} (at : ℕ) (b : Option Bool) → Goes_on 12 o t m → Goes_on 12 o' t' m'
    → Goes_on {A = A} 12
    (elim b [ none ↦ refused 12 at | some c ↦ elim c [ true ↦ o | false ↦ o' ] ])
    (elim b [ none ↦ refused 12 at | some c ↦ elim c [ true ↦ t | false ↦ t' ] ])
    (elim b [ none ↦ refused 12 at | some c ↦ elim c [ true ↦ m | false ↦ m' ] ])
goes_truth at none h k = halted (lit< tt)
goes_truth at (some b) h k = goes_either b h k

-- on null the old rule is stuck and told; on any other kind the rules agree
goes_field : (at : ℕ) (n : Bytes) (v : Value) → Goes_on 12 (old_field_value at n v) (null_value_told at n v) (field_value at n v)
unfolding old_field_value null_value_told field_value field_kinds stuck_unless among rank
goes_field at n v = by (kind_of v)
  where
    read : Outcome ℕ Value
    read = ok (member_of n (members_of v))

    by
        : (j : Kind)
        → Goes_on {A = Value} 12
        (elim (among j (Kind.rec ∷ [])) [ true ↦ read | false ↦ refused 12 at ])
        (elim (among j (Kind.null ∷ [])) [
          | true ↦ refused 0 at
          | false ↦ elim (among j (Kind.rec ∷ [])) [ true ↦ read | false ↦ refused 12 at ]
        ])
        (elim (among j field_kinds) [ true ↦ read | false ↦ refused 12 at ])
    by Kind.null = met
    by Kind.bool = halted (lit< tt)
    by Kind.int = halted (lit< tt)
    by Kind.dec = halted (lit< tt)
    by Kind.text = halted (lit< tt)
    by Kind.list = halted (lit< tt)
    by Kind.rec = gave

module _ (l : Limits) where
  place_goes
      : (p : Place) (env : List Value) (n : ℕ)
      → Goes_on 12 (run_place_by p old_field_value l env n) (run_place_by p null_value_told l env n) (run_place p l env n)
  unfolding run_place_by run_place gives
  place_goes (Place.it at k) env n = goes_enter l at n λ n₁. gave
  place_goes (Place.field at m p) env n =
      goes_enter l at n λ n₁. goes_bind (place_goes p env n₁) λ x. goes_bind (goes_field at m x.result) λ v. gave

  items_go
      : {b c d : Value → ℕ → Outcome ℕ (Ran Value)} → ((v : Value) (n : ℕ) → Goes_on 12 (b v n) (c v n) (d v n)) → (vs : Items) (n : ℕ)
      → Goes_on 12 (run_items b vs n) (run_items c vs n) (run_items d vs n)
  unfolding run_items gives
  items_go h no_items n = gave
  items_go h (item v vs) n = goes_bind (h v n) λ x. goes_bind (items_go h vs x.steps) λ xs. gave

  mutual
    unfolding run_by run gives

    result_goes
        : (r : Result) (env : List Value) (n : ℕ) → Goes_on 12 (run_by r old_field_value l env n) (run_by r null_value_told l env n) (run r l env n)
    result_goes (Result.convert at c p) env n =
        goes_enter l at n λ n₁. goes_bind (place_goes p env n₁) λ x. goes_unless at (convert_kinds c) x.result gave
    result_goes (Result.keep at p) env n = goes_enter l at n λ n₁. place_goes p env n₁
    result_goes (Result.count at p) env n =
        goes_enter l at n λ n₁. goes_bind (place_goes p env n₁) λ x. goes_unless at list_kinds x.result gave
    result_goes (Result.each at p r) env n =
        goes_enter l at n λ n₁.
        goes_bind (place_goes p env n₁) λ x.
        goes_unless at list_kinds x.result
        (goes_bind (items_go (λ v n₂. result_goes r (v ∷ env) n₂) (items_of x.result) x.steps) λ xs. gave)
    result_goes (Result.when at k p r₁ r₂) env n =
        goes_enter l at n λ n₁.
        goes_bind (place_goes p env n₁) λ x.
        goes_either (among (kind_of x.result) (test_kinds k))
        (result_goes r₁ (x.result ∷ env) x.steps) (result_goes r₂ (x.result ∷ env) x.steps)
    result_goes (Result.choose at r₁ r₂ r₃) env n =
        goes_enter l at n λ n₁.
        goes_bind (result_goes r₁ env n₁) λ x.
        goes_truth at (truth x.result) (result_goes r₂ env x.steps) (result_goes r₃ env x.steps)
    result_goes (Result.literal at v) env n = goes_enter l at n λ n₁. gave
    result_goes (Result.pack at ps) env n = goes_enter l at n λ n₁. goes_bind (pairs_go ps env n₁) λ x. gave

    pairs_go
        : (ps : Pairs) (env : List Value) (n : ℕ)
        → Goes_on 12 (run_pairs_by ps old_field_value l env n) (run_pairs_by ps null_value_told l env n) (run_pairs ps l env n)
    pairs_go no_pairs env n = gave
    pairs_go (pair m r ps) env n =
        goes_bind (result_goes r env n) λ x. goes_bind (pairs_go ps env x.steps) λ xs. gave

module _ (r : Result) (l : Limits) (v : Value) where
  pub reader_goes : Goes_on 12 (old_run_reader r l v) (run_by r null_value_told l (v ∷ []) 0) (run_reader r l v)
  unfolding old_run_reader run_reader
  reader_goes = result_goes l r (v ∷ []) 0

  pub ran_before : (run_reader r l v ≡ old_run_reader r l v) ⊎ ((p : ℕ) × StuckOnNull r l v p)
  ran_before = goes_told reader_goes

  pub ends_again : (x : Ran Value) → old_run_reader r l v ≡ ok x → run_reader r l v ≡ ok x
  ends_again x e = goes_ended reader_goes e

  -- a run that met null was stuck there
  pub was_stuck : (p : ℕ) → StuckOnNull r l v p → old_run_reader r l v ≡ refused 12 p
  was_stuck p e = goes_met reader_goes e

pub reads_null : (at : ℕ) (n : Bytes) → field_value at n Value.null ≡ ok Value.null
unfolding field_value field_kinds stuck_unless among rank kind_of members_of member_of
reads_null at n = refl
