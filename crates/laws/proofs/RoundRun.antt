-- What a good reader gives on a good document is a good value, where the document has no more values than the largest
-- number: `count` makes an int of a list's length. Assumes nothing.
use Rattle.std.specs.Prelude.{ℕ, zero, suc, ◌≤◌, ◌≡◌, refl, Bool, true, false, List, [], ◌∷◌, ltb, get_or}
use Rattle.std.proofs.Common.{arith}
use Rattle.std.proofs.lemmas.Bool.{false≢true}
use Rattle.std.proofs.Math.Option.{Option, none, some}
use Rattle.definitions.specs.declared.Limits.{Limits}
use Rattle.definitions.specs.Bytes.{Bytes, same}
use Rattle.definitions.specs.Outcome.{Outcome, ok, refused}
use Rattle.definitions.specs.Number.{Number, is_int, whole, most_coefficient}
use Rattle.definitions.specs.Value.{Value, Items, no_items, item, Members, no_members, count, size, size_items, size_members}
use Rattle.definitions.specs.Shape.{Kind, among}
use Rattle.definitions.specs.Admits.{kind_of}
use Rattle.definitions.specs.Reader.{Place, Conversion, to_int, to_dec, to_bool, to_text, Result, Pairs}
use Rattle.definitions.specs.Checking.{field_kinds, convert_kinds, list_kinds, test_kinds}
use Rattle.definitions.specs.Running.{Ran, gives, enter, stuck_unless, member_of, members_of, field_value, whole_value, converted}
use Rattle.definitions.specs.Running.{items_of, int_value, truth, run_place, run_items, run, run_pairs, run_reader}
use Rattle.laws.specs.Good.{GoodValue, good_null, good_bool, good_number, good_text, good_list, good_rec, GoodItems, good_no_items}
use Rattle.laws.specs.Good.{good_item, GoodMembers, good_no_members, good_member, GoodReader, good_convert, good_keep, good_count}
use Rattle.laws.specs.Good.{good_each, good_when, good_choose, good_literal, good_pack, GoodPairs, good_no_pairs, good_pair}
use Rattle.laws.specs.Ints.{int_number, whole_good}
use Rattle.laws.proofs.RoundOutcome.{Gives, gives_ok, gives_refused, gives_holds, gives_then, gives_map, gives_if}

-- ---- values of places

-- a good value that holds no more values than the largest number
record Fair (v : Value) : Type 0 where
  good : GoodValue v
  small : size v ≤ most_coefficient

record FairItems (vs : Items) : Type 0 where
  good : GoodItems vs
  small : size_items vs ≤ most_coefficient

record FairMembers (ms : Members) : Type 0 where
  good : GoodMembers ms
  small : size_members ms ≤ most_coefficient

data FairValues : List Value → Type 0 where
  no_fair : FairValues []
  fair_then : {v : Value} {env : List Value} → Fair v → FairValues env → FairValues (v ∷ env)

fair_null : Fair Value.null
unfolding size most_coefficient
fair_null = record { good = good_null; small = omega arith }

get_or_fair : {env : List Value} → FairValues env → (n : ℕ) → Fair (get_or env n Value.null)
get_or_fair no_fair n = fair_null
get_or_fair (fair_then g h) zero = g
get_or_fair (fair_then g h) (suc n) = get_or_fair h n

member_of_fair : (n : Bytes) {ms : Members} → GoodMembers ms → size_members ms ≤ most_coefficient → Fair (member_of n ms)
unfolding member_of size_members
member_of_fair n good_no_members h = fair_null
member_of_fair n (good_member {n = m} {v} {ms} u g gs) h =
    told (same n m) (let k : size_members ms ≤ most_coefficient = omega arith in member_of_fair n gs k)
  where
    told : (b : Bool) → Fair (member_of n ms) → Fair (elim b as (λ x. Value) [ true ↦ v | false ↦ member_of n ms ])
    told true f = record { good = g; small = omega arith }
    told false f = f

no_members_fair : FairMembers no_members
unfolding size_members
no_members_fair = record { good = good_no_members; small = omega arith }

members_of_fair : {v : Value} → GoodValue v → size v ≤ most_coefficient → FairMembers (members_of v)
unfolding members_of size
members_of_fair good_null h = no_members_fair
members_of_fair good_bool h = no_members_fair
members_of_fair (good_number x) h = no_members_fair
members_of_fair (good_text u) h = no_members_fair
members_of_fair (good_list vs) h = no_members_fair
members_of_fair (good_rec ms) h = record { good = ms; small = omega arith }

no_items_fair : FairItems no_items
unfolding size_items
no_items_fair = record { good = good_no_items; small = omega arith }

items_of_fair : {v : Value} → GoodValue v → size v ≤ most_coefficient → FairItems (items_of v)
unfolding items_of size
items_of_fair good_null h = no_items_fair
items_of_fair good_bool h = no_items_fair
items_of_fair (good_number x) h = no_items_fair
items_of_fair (good_text u) h = no_items_fair
items_of_fair (good_list vs) h = record { good = vs; small = omega arith }
items_of_fair (good_rec ms) h = no_items_fair

-- ---- counting

size_positive : (v : Value) → 1 ≤ size v
unfolding size
size_positive Value.null = omega arith
size_positive (Value.bool b) = omega arith
size_positive (Value.number x) = omega arith
size_positive (Value.text t) = omega arith
size_positive (Value.list vs) = omega arith
size_positive (Value.rec ms) = omega arith

count_size : (vs : Items) → count vs ≤ size_items vs
unfolding count size_items
count_size no_items = omega arith
count_size (item v vs) =
    let h = size_positive v in
    let k = count_size vs in
    omega arith

int_value_good : (n : ℕ) → n ≤ most_coefficient → GoodValue (int_value n)
unfolding int_value
int_value_good n h =
    good_number {x = record { negative = false; coefficient = n; scale = 0 }}
    (record { coefficient_fits = h; scale_fits = omega arith; minus_fits = λ e z. false≢true e })

count_good : (vs : Items) → FairItems vs → GoodValue (int_value (count vs))
count_good vs f =
    let h = f.small in
    let k = count_size vs in
    int_value_good (count vs) (omega arith)

-- ---- running

enter_gives : (l : Limits) (at n : ℕ) → Gives (λ m. Unit {0}) (enter l at n)
unfolding enter
enter_gives l at n = gives_if (ltb n l.steps) (gives_ok tt) gives_refused

unstuck_gives
    : {A : Type 0} {R : A → Type 0} (at : ℕ) (ks : List Kind) (v : Value) {out : Outcome ℕ A}
    → (among (kind_of v) ks ≡ true → Gives R out) → Gives R (stuck_unless at ks v out)
unfolding stuck_unless
unstuck_gives {R = R} at ks v {out} g = go (among (kind_of v) ks) g
  where
    go : (b : Bool) → (b ≡ true → Gives R out) → Gives {P = ℕ} R (elim b [ true ↦ out | false ↦ refused 12 at ])
    go true h = h refl
    go false h = gives_refused

stuck_gives
    : {A : Type 0} {R : A → Type 0} (at : ℕ) (ks : List Kind) (v : Value) {out : Outcome ℕ A} → Gives R out
    → Gives R (stuck_unless at ks v out)
stuck_gives at ks v g = unstuck_gives at ks v (λ e. g)

gives_gives : {A : Type 0} (R : A → Type 0) {a : A} (n : ℕ) → R a → Gives (λ (x : Ran A). R x.result) (gives a n)
unfolding gives
gives_gives R n r = gives_ok r

run_place_gives
    : (p : Place) (l : Limits) (env : List Value) (n : ℕ) → FairValues env
    → Gives (λ (x : Ran Value). Fair x.result) (run_place p l env n)
unfolding run_place field_value
run_place_gives (Place.it at k) l env n g =
    gives_then (enter_gives l at n) (λ n₁ u. gives_gives Fair n₁ (get_or_fair g k))
run_place_gives (Place.field at m p) l env n g =
    gives_then (enter_gives l at n)
    (λ n₁ u.
    gives_then (run_place_gives p l env n₁ g)
    (λ x f.
    gives_then {R = Fair}
    (stuck_gives at field_kinds x.result
    (gives_ok
    (let h = members_of_fair f.good f.small in
    member_of_fair m h.good h.small)))
    (λ v i. gives_gives Fair x.steps i)))

run_items_give
    : (body : Value → ℕ → Outcome ℕ (Ran Value))
    → ((v : Value) (n : ℕ) → Fair v → Gives (λ (x : Ran Value). GoodValue x.result) (body v n)) → {vs : Items}
    → GoodItems vs → size_items vs ≤ most_coefficient → (n : ℕ)
    → Gives (λ (x : Ran Items). GoodItems x.result) (run_items body vs n)
unfolding run_items size_items
run_items_give body k good_no_items h n = gives_gives GoodItems n good_no_items
run_items_give body k (good_item {v} {vs} g gs) h n =
    let h₁ : size v ≤ most_coefficient = omega arith in
    let h₂ : size_items vs ≤ most_coefficient = omega arith in
    gives_then (k v n (record { good = g; small = h₁ }))
    (λ x i.
    gives_then (run_items_give body k gs h₂ x.steps) (λ xs j. gives_gives GoodItems xs.steps (good_item i j)))

-- the branch that a condition chooses
truth_gives
    : {A : Type 0} {R : A → Type 0} {x y : Outcome ℕ A} (at : ℕ) (o : Option Bool) → Gives R x → Gives R y
    → Gives
    {P = ℕ}
    R
    (elim o as (λ z. Outcome ℕ A) [
      | none ↦ refused 12 at
      | some b ↦ elim b as (λ z. Outcome ℕ A) [ true ↦ x | false ↦ y ]
    ])
truth_gives at none g h = gives_refused
truth_gives at (some true) g h = g
truth_gives at (some false) g h = h

-- what a conversion gives where it is not stuck
converted_good : (c : Conversion) {v : Value} → among (kind_of v) (convert_kinds c) ≡ true → GoodValue v → GoodValue (converted c v)
unfolding converted whole_value convert_kinds
converted_good to_int {v} k g = int_number (λ (w : Value). GoodValue w → GoodValue (whole_value w)) v k int_good g
  where
    int_good : (x : Number) → is_int x ≡ true → GoodValue (Value.number x) → GoodValue (Value.number (whole x))
    int_good x h (good_number n) = good_number (whole_good x h n)
converted_good to_dec k g = g
converted_good to_bool k g = g
converted_good to_text k g = g

mutual
  unfolding run

  run_gives
      : {r : Result} → GoodReader r → (l : Limits) (env : List Value) (n : ℕ) → FairValues env
      → Gives (λ (x : Ran Value). GoodValue x.result) (run r l env n)
  run_gives (good_convert {at} {c} {p} g) l env n h =
      gives_then (enter_gives l at n)
      (λ n₁ u.
      gives_then (run_place_gives p l env n₁ h)
      (λ x f. unstuck_gives at (convert_kinds c) x.result (λ k. gives_gives GoodValue x.steps (converted_good c k f.good))))
  run_gives (good_keep {at} {p} g) l env n h =
      gives_then (enter_gives l at n) (λ n₁ u. gives_map (run_place_gives p l env n₁ h) (λ x f. f.good))
  run_gives (good_count {at} {p} g) l env n h =
      gives_then (enter_gives l at n)
      (λ n₁ u.
      gives_then (run_place_gives p l env n₁ h)
      (λ x f.
      stuck_gives at list_kinds x.result
      (gives_gives GoodValue x.steps (count_good (items_of x.result) (items_of_fair f.good f.small)))))
  run_gives (good_each {at} {p} {r} g i) l env n h =
      gives_then (enter_gives l at n)
      (λ n₁ u.
      gives_then (run_place_gives p l env n₁ h)
      (λ x f.
      stuck_gives at list_kinds x.result
      (gives_then
      (let k = items_of_fair f.good f.small in
      run_items_give (λ v n₂. run r l (v ∷ env) n₂) (λ v n₂ j. run_gives i l (v ∷ env) n₂ (fair_then j h)) k.good
      k.small x.steps)
      (λ xs j. gives_gives GoodValue xs.steps (good_list j)))))
  run_gives (good_when {at} {k} {p} {r₁} {r₂} g i₁ i₂) l env n h =
      gives_then (enter_gives l at n)
      (λ n₁ u.
      gives_then (run_place_gives p l env n₁ h)
      (λ x f.
      gives_if (among (kind_of x.result) (test_kinds k))
      (run_gives i₁ l (x.result ∷ env) x.steps (fair_then f h))
      (run_gives i₂ l (x.result ∷ env) x.steps (fair_then f h))))
  run_gives (good_choose {at} i₁ i₂ i₃) l env n h =
      gives_then (enter_gives l at n)
      (λ n₁ u.
      gives_then (run_gives i₁ l env n₁ h)
      (λ x f. truth_gives at (truth x.result) (run_gives i₂ l env x.steps h) (run_gives i₃ l env x.steps h)))
  run_gives (good_literal {at} v) l env n h = gives_then (enter_gives l at n) (λ n₁ u. gives_gives GoodValue n₁ v)
  run_gives (good_pack {at} ps) l env n h =
      gives_then (enter_gives l at n)
      (λ n₁ u. gives_then (run_pairs_give ps l env n₁ h) (λ x k. gives_gives GoodValue x.steps (good_rec k)))

  run_pairs_give
      : {ps : Pairs} → GoodPairs ps → (l : Limits) (env : List Value) (n : ℕ) → FairValues env
      → Gives (λ (x : Ran Members). GoodMembers x.result) (run_pairs ps l env n)
  run_pairs_give good_no_pairs l env n h = gives_gives GoodMembers n good_no_members
  run_pairs_give (good_pair u r ps) l env n h =
      gives_then (run_gives r l env n h)
      (λ x i.
      gives_then (run_pairs_give ps l env x.steps h) (λ xs j. gives_gives GoodMembers xs.steps (good_member u i j)))

-- what a good reader gives on a good document is good
pub run_good
    : (r : Result) (l : Limits) (v : Value) (x : Ran Value) → GoodReader r → GoodValue v → size v ≤ most_coefficient
    → run_reader r l v ≡ ok x → GoodValue x.result
unfolding run_reader
run_good r l v x g h k e = gives_holds e (run_gives g l (v ∷ []) 0 (fair_then (record { good = h; small = k }) no_fair))
