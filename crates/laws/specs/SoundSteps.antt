-- Runs under two limits: what a run gives, and where it is stuck, does not depend on the limit; only how far it comes
-- does. Assumes nothing.
use Rattle.std.specs.Prelude.{ℕ, suc, ◌≤◌, ◌<◌, ◌≡◌, refl, Bool, true, false, not, List, [], ◌∷◌, T, ltb, get_or}
use Rattle.std.proofs.Common.{sym, ◌∙◌, ap, subst, le_refl, le_trans, ltb→lt, nltb→le, lt→ltb}
use Rattle.std.proofs.lemmas.Bool.{false≢true}
use Rattle.std.proofs.Math.Option.{Option, none, some}
use Rattle.std.proofs.Math.Nat.{le-suc}
use Rattle.definitions.specs.declared.Limits.{Limits}
use Rattle.definitions.specs.Bytes.{Bytes}
use Rattle.definitions.specs.Outcome.{Outcome, ok, refused, ◌>>=◌}
use Rattle.definitions.specs.Value.{Value, Items, no_items, item, no_members, member, count}
use Rattle.definitions.specs.Shape.{Kind, among}
use Rattle.definitions.specs.Admits.{kind_of}
use Rattle.definitions.specs.Reader.{Place, Result, Pairs, no_pairs, pair}
use Rattle.definitions.specs.Checking.{field_kinds, convert_kinds, list_kinds, test_kinds}
use Rattle.definitions.specs.Running.{Ran, gives, enter, stuck_unless, member_of, members_of, field_value, converted}
use Rattle.definitions.specs.Running.{items_of, int_value, truth, run_place, run_items, run, run_pairs, run_reader}

-- ---- the same run again

-- behind n steps, what came out under the limit j comes out again under the limit k, where the steps are there
data Repeats {A : Type 0} (j k n : ℕ) : Outcome ℕ (Ran A) → Outcome ℕ (Ran A) → Type 0 where
  ended
      : {x : Ran A} {o : Outcome ℕ (Ran A)} → n ≤ x.steps → x.steps ≤ j → (x.steps ≤ k → o ≡ ok x)
      → Repeats j k n (ok x) o
  halted : {at : ℕ} {o : Outcome ℕ (Ran A)} → (j ≤ k → o ≡ refused 12 at) → Repeats j k n (refused 12 at) o
  spent : {at : ℕ} {o : Outcome ℕ (Ran A)} → Repeats j k n (refused 13 at) o

repeats_gives : {A : Type 0} (a : A) {j k n : ℕ} → n ≤ j → Repeats j k n (gives a n) (gives a n)
unfolding gives
repeats_gives a h = ended (le_refl _) h (λ i. refl)

-- behind more steps, that the second run takes too
repeats_after
    : {A : Type 0} {j k i n : ℕ} {o p q : Outcome ℕ (Ran A)} → Repeats j k i o p → n ≤ i → i ≤ j → (i ≤ k → q ≡ p)
    → Repeats j k n o q
repeats_after (ended a b h) c d e = ended (le_trans c a) b (λ y. e (le_trans a y) ∙ h y)
repeats_after (halted h) c d e = halted (λ y. e (le_trans d y) ∙ h y)
repeats_after spent c d e = spent

repeats_bind
    : {A B : Type 0} {j k n : ℕ} {o p : Outcome ℕ (Ran A)} {f g : Ran A → Outcome ℕ (Ran B)} → Repeats j k n o p
    → ((x : Ran A) → x.steps ≤ j → Repeats j k x.steps (f x) (g x)) → Repeats j k n (o >>= f) (p >>= g)
unfolding ◌>>=◌
repeats_bind {g = g} (ended {x} a b h) r = repeats_after (r x b) a b (λ y. ap (λ q. q >>= g) (h y))
repeats_bind {g = g} (halted h) r = halted (λ y. ap (λ q. q >>= g) (h y))
repeats_bind spent r = spent

pub enter_within : (l : Limits) (at n : ℕ) → n < l.steps → enter l at n ≡ ok (suc n)
unfolding enter
enter_within l at n h =
    let e : ltb n l.steps ≡ true = passed (ltb n l.steps) (lt→ltb n l.steps h) in
    rw (e, enter)
  where
    passed : (b : Bool) → T b → b ≡ true
    passed true t = refl
    passed false t = absurd t

repeats_enter
    : {A : Type 0} (l m : Limits) (at n : ℕ) {f g : ℕ → Outcome ℕ (Ran A)}
    → ((i : ℕ) → i ≤ l.steps → Repeats l.steps m.steps i (f i) (g i))
    → Repeats l.steps m.steps n (enter l at n >>= f) (enter m at n >>= g)
unfolding enter ◌>>=◌
repeats_enter {A} l m at n {f} {g} r = go (ltb n l.steps) (λ t. ltb→lt n l.steps t)
  where
    go
        : (b : Bool) → (T b → n < l.steps)
        → Repeats
        {A = A}
        l.steps
        m.steps
        n
        (elim b as (λ x. Outcome ℕ ℕ) [ true ↦ ok (suc n) | false ↦ refused 13 at ] >>= f)
        (enter m at n >>= g)
    go true h = repeats_after (r (suc n) (h tt)) (le-suc n) (h tt) (λ y. ap (λ q. q >>= g) (enter_within m at n y))
    go false h = spent

repeats_stuck
    : {A : Type 0} {j k n : ℕ} (at : ℕ) (ks : List Kind) (v : Value) {o p : Outcome ℕ (Ran A)} → Repeats j k n o p
    → Repeats j k n (stuck_unless at ks v o) (stuck_unless at ks v p)
unfolding stuck_unless
repeats_stuck {A} {j} {k} {n} at ks v {o} {p} r = go (among (kind_of v) ks)
  where
    go
        : (b : Bool)
        → Repeats {A = A} j k n (elim b [ true ↦ o | false ↦ refused 12 at ]) (elim b [ true ↦ p | false ↦ refused 12 at ])
    go true = r
    go false = halted (λ y. refl)

repeats_field
    : {j k n : ℕ} (at : ℕ) (m : Bytes) (v : Value) → n ≤ j
    → Repeats j k n (field_value at m v >>= λ y. gives y n) (field_value at m v >>= λ y. gives y n)
unfolding field_value stuck_unless ◌>>=◌
repeats_field {j} {k} {n} at m v h = go (among (kind_of v) field_kinds)
  where
    read : Bool → Outcome ℕ Value
    read b = elim b [ true ↦ ok (member_of m (members_of v)) | false ↦ refused 12 at ]

    go : (b : Bool) → Repeats j k n (read b >>= λ y. gives y n) (read b >>= λ y. gives y n)
    go true = repeats_gives (member_of m (members_of v)) h
    go false = halted (λ y. refl)

repeats_either
    : {A : Type 0} {j k n : ℕ} (b : Bool) {o p q s : Outcome ℕ (Ran A)} → Repeats j k n o p → Repeats j k n q s
    → Repeats {A = A} j k n (elim b [ true ↦ o | false ↦ q ]) (elim b [ true ↦ p | false ↦ s ])
repeats_either true r t = r
repeats_either false r t = t

repeats_truth
    : {A : Type 0} {j k n : ℕ} (at : ℕ) (c : Option Bool) {o p q s : Outcome ℕ (Ran A)} → Repeats j k n o p → Repeats j k n q s
    → Repeats
    {A = A}
    j
    k
    n
    (elim c [ none ↦ refused 12 at | some b ↦ elim b [ true ↦ o | false ↦ q ] ])
    (elim c [ none ↦ refused 12 at | some b ↦ elim b [ true ↦ p | false ↦ s ] ])
repeats_truth at none r t = halted (λ y. refl)
repeats_truth at (some true) r t = r
repeats_truth at (some false) r t = t

-- ---- readers

abbrev Again : {A : Type 0} → Limits → Limits → ℕ → (Limits → Outcome ℕ (Ran A)) → Type 0
Again l m n runs = Repeats l.steps m.steps n (runs l) (runs m)

place_again : (p : Place) (l m : Limits) (vs : List Value) (n : ℕ) → Again l m n (λ i. run_place p i vs n)
unfolding run_place
place_again (Place.it at i) l m vs n = repeats_enter l m at n (λ n₁ h. repeats_gives (get_or vs i Value.null) h)
place_again (Place.field at i p) l m vs n =
    repeats_enter l m at n λ n₁ h.
    repeats_bind (place_again p l m vs n₁) λ x h₁. repeats_field at i x.result h₁

items_again
    : (l m : Limits) (b c : Value → ℕ → Outcome ℕ (Ran Value))
    → ((v : Value) (n : ℕ) → Repeats l.steps m.steps n (b v n) (c v n))
    → (vs : Items) (n : ℕ) → n ≤ l.steps → Repeats l.steps m.steps n (run_items b vs n) (run_items c vs n)
unfolding run_items
items_again l m b c r no_items n h = repeats_gives no_items h
items_again l m b c r (item v vs) n h =
    repeats_bind (r v n) λ x h₁.
    repeats_bind (items_again l m b c r vs x.steps h₁) λ xs h₂.
    repeats_gives (item x.result xs.result) h₂

mutual
  unfolding run

  run_again : (r : Result) (l m : Limits) (vs : List Value) (n : ℕ) → Again l m n (λ i. run r i vs n)
  run_again (Result.convert at c p) l m vs n =
      repeats_enter l m at n λ n₁ h.
      repeats_bind (place_again p l m vs n₁) λ x h₁.
      repeats_stuck at (convert_kinds c) x.result (repeats_gives (converted c x.result) h₁)
  run_again (Result.keep at p) l m vs n = repeats_enter l m at n λ n₁ h. place_again p l m vs n₁
  run_again (Result.count at p) l m vs n =
      repeats_enter l m at n λ n₁ h.
      repeats_bind (place_again p l m vs n₁) λ x h₁.
      repeats_stuck at list_kinds x.result (repeats_gives (int_value (count (items_of x.result))) h₁)
  run_again (Result.each at p r) l m vs n =
      repeats_enter l m at n λ n₁ h.
      repeats_bind (place_again p l m vs n₁) λ x h₁.
      let body : (v : Value) (i : ℕ) → Again l m i (λ j. run r j (v ∷ vs) i) = λ v i. run_again r l m (v ∷ vs) i in
      let items = items_again l m (λ v i. run r l (v ∷ vs) i) (λ v i. run r m (v ∷ vs) i) body (items_of x.result) x.steps h₁ in
      repeats_stuck at list_kinds x.result (repeats_bind items λ xs h₂. repeats_gives (Value.list xs.result) h₂)
  run_again (Result.when at k p r₁ r₂) l m vs n =
      repeats_enter l m at n λ n₁ h.
      repeats_bind (place_again p l m vs n₁) λ x h₁.
      repeats_either
      (among (kind_of x.result) (test_kinds k))
      (run_again r₁ l m (x.result ∷ vs) x.steps)
      (run_again r₂ l m (x.result ∷ vs) x.steps)
  run_again (Result.choose at r₁ r₂ r₃) l m vs n =
      repeats_enter l m at n λ n₁ h.
      repeats_bind (run_again r₁ l m vs n₁) λ x h₁.
      repeats_truth at (truth x.result) (run_again r₂ l m vs x.steps) (run_again r₃ l m vs x.steps)
  run_again (Result.literal at v) l m vs n = repeats_enter l m at n λ n₁ h. repeats_gives v h
  run_again (Result.pack at ps) l m vs n =
      repeats_enter l m at n λ n₁ h.
      repeats_bind (pairs_again ps l m vs n₁ h) λ x h₁. repeats_gives (Value.rec x.result) h₁

  pairs_again
      : (ps : Pairs) (l m : Limits) (vs : List Value) (n : ℕ) → n ≤ l.steps → Again l m n (λ i. run_pairs ps i vs n)
  pairs_again no_pairs l m vs n h = repeats_gives no_members h
  pairs_again (pair i r ps) l m vs n h =
      repeats_bind (run_again r l m vs n) λ x h₁.
      repeats_bind (pairs_again ps l m vs x.steps h₁) λ xs h₂.
      repeats_gives (member i x.result xs.result) h₂

-- ---- the limit alone

-- a run that gives a value gives it, in as many steps, under every limit that has these steps
pub run_enough
    : (r : Result) (l m : Limits) (v : Value) (x : Ran Value) → run_reader r l v ≡ ok x → x.steps ≤ m.steps
    → run_reader r m v ≡ ok x
unfolding run_reader
run_enough r l m v x e h =
    of_ok (subst (λ o. Repeats l.steps m.steps 0 o (run r m (v ∷ []) 0)) e (run_again r l m (v ∷ []) 0)) h
  where
    of_ok : {A : Type 0} {j k n : ℕ} {x : Ran A} {o : Outcome ℕ (Ran A)} → Repeats j k n (ok x) o → x.steps ≤ k → o ≡ ok x
    of_ok (ended a b f) = f

-- a run that is stuck is stuck there under every limit that is no smaller
pub run_stuck
    : (r : Result) (l m : Limits) (v : Value) (at : ℕ) → run_reader r l v ≡ refused 12 at → l.steps ≤ m.steps
    → run_reader r m v ≡ refused 12 at
unfolding run_reader
run_stuck r l m v at e h =
    of_stuck (subst (λ o. Repeats l.steps m.steps 0 o (run r m (v ∷ []) 0)) e (run_again r l m (v ∷ []) 0)) h
  where
    of_stuck
        : {A : Type 0} {j k n at : ℕ} {o : Outcome ℕ (Ran A)} → Repeats j k n (refused 12 at) o → j ≤ k → o ≡ refused 12 at
    of_stuck (halted f) = f

-- 13 means too few steps: a run of it that gives a value counts more of them than the limit has
pub run_13
    : (r : Result) (l m : Limits) (v : Value) (at : ℕ) (x : Ran Value) → run_reader r l v ≡ refused 13 at
    → run_reader r m v ≡ ok x → l.steps < x.steps
run_13 r l m v at x e h =
    go (ltb l.steps x.steps) (λ t. ltb→lt l.steps x.steps t) (λ t. nltb→le l.steps x.steps t)
  where
    is_ok : Outcome ℕ (Ran Value) → Bool
    is_ok (ok y) = true
    is_ok (refused i p) = false

    go : (b : Bool) → (T b → l.steps < x.steps) → (T (not b) → x.steps ≤ l.steps) → l.steps < x.steps
    go true f g = f tt
    go false f g = absurd (false≢true (ap is_ok (sym e ∙ run_enough r m l v x h (g tt))))
