-- Laws of running, for checked and unchecked readers alike. Assumes nothing.
use Rattle.std.specs.Prelude.{ℕ, zero, suc, ◌≤◌, ◌≡◌, refl, ◌⊎◌, Bool, true, false, not, ◌||◌, List, [], ◌∷◌, get_or}
use Rattle.std.proofs.Common.{◌∙◌, ap, subst, inl, inr}
use Rattle.definitions.specs.declared.Limits.{Limits}
use Rattle.definitions.specs.Bytes.{Bytes, same}
use Rattle.definitions.specs.Outcome.{Outcome, ok, refused}
use Rattle.definitions.specs.Value.{Value, Items, no_items, item, Members, no_members, member, has_name}
use Rattle.definitions.specs.Shape.{among}
use Rattle.definitions.specs.Admits.{kind_of}
use Rattle.definitions.specs.Reader.{Place, Conversion, to_int, to_dec, to_bool, to_text, Result, Pairs, no_pairs, pair, among_pairs}
use Rattle.definitions.specs.Checking.{convert_kinds, list_kinds, test_kinds}
use Rattle.definitions.specs.Running.{Ran, gives, member_of, members_of, whole_value, converted, items_of, int_value}
use Rattle.definitions.specs.Running.{truth, run_place, run_items, run, run_pairs, run_reader}
use Rattle.laws.specs.Bools.{and_intro}
use Rattle.laws.specs.Distinct.{distinct, distinct_items, distinct_members}
use Rattle.laws.specs.Readers.{proper, proper_pairs}
use Rattle.laws.specs.Bools.{and_two, and_three}
use Rattle.laws.specs.SoundHolds.{Holds, gave, any, holds_any, holds_number, holds_of, holds_both, holds_bind}
use Rattle.laws.specs.SoundHolds.{holds_stuck, holds_enter, holds_either, holds_truth, holds_field}

-- ---- steps and refusals

-- the refusals of running
abbrev pub Halt : ℕ → Type 0
Halt n = (n ≡ 12) ⊎ (n ≡ 13)

-- the steps counted are within the limit
abbrev pub Bounded : Limits → {A : Type 0} → Ran A → Type 0
Bounded l x = x.steps ≤ l.steps

abbrev any_value : Value → Type 0
any_value v = Unit {0}

place_bounded : (p : Place) (l : Limits) (vs : List Value) (n : ℕ) → Holds Halt (Bounded l) (run_place p l vs n)
unfolding run_place gives
place_bounded (Place.it at k) l vs n = holds_bind (holds_enter l at n (inr refl)) (λ n₁ h. gave h.1)
place_bounded (Place.field at m p) l vs n =
    holds_bind (holds_enter l at n (inr refl)) λ n₁ h.
    holds_bind (place_bounded p l vs n₁) λ x h₁.
    holds_bind (holds_field {P = any_value} at m x.result (inl refl) tt) λ v t. gave h₁

items_bounded
    : (l : Limits) (body : Value → ℕ → Outcome ℕ (Ran Value)) → ((v : Value) (n : ℕ) → Holds Halt (Bounded l) (body v n))
    → (vs : Items) (n : ℕ) → n ≤ l.steps → Holds Halt (Bounded l) (run_items body vs n)
unfolding run_items gives
items_bounded l body b no_items n h = gave h
items_bounded l body b (item v vs) n h =
    holds_bind (b v n) λ x h₁. holds_bind (items_bounded l body b vs x.steps h₁) λ xs h₂. gave h₂

mutual
  unfolding run gives

  pub run_bounded : (r : Result) (l : Limits) (vs : List Value) (n : ℕ) → Holds Halt (Bounded l) (run r l vs n)
  run_bounded (Result.convert at c p) l vs n =
      holds_bind (holds_enter l at n (inr refl)) λ n₁ h.
      holds_bind (place_bounded p l vs n₁) λ x h₁.
      holds_stuck at (convert_kinds c) x.result (inl refl) (gave h₁)
  run_bounded (Result.keep at p) l vs n = holds_bind (holds_enter l at n (inr refl)) λ n₁ h. place_bounded p l vs n₁
  run_bounded (Result.count at p) l vs n =
      holds_bind (holds_enter l at n (inr refl)) λ n₁ h.
      holds_bind (place_bounded p l vs n₁) λ x h₁.
      holds_stuck at list_kinds x.result (inl refl) (gave h₁)
  run_bounded (Result.each at p r) l vs n =
      holds_bind (holds_enter l at n (inr refl)) λ n₁ h.
      holds_bind (place_bounded p l vs n₁) λ x h₁.
      let body : (v : Value) (i : ℕ) → Holds Halt (Bounded l) (run r l (v ∷ vs) i) = λ v i. run_bounded r l (v ∷ vs) i in
      let items = items_bounded l (λ v i. run r l (v ∷ vs) i) body (items_of x.result) x.steps h₁ in
      holds_stuck at list_kinds x.result (inl refl) (holds_bind items λ xs h₂. gave h₂)
  run_bounded (Result.when at k p r₁ r₂) l vs n =
      holds_bind (holds_enter l at n (inr refl)) λ n₁ h.
      holds_bind (place_bounded p l vs n₁) λ x h₁.
      holds_either (among (kind_of x.result) (test_kinds k))
      (λ t. run_bounded r₁ l (x.result ∷ vs) x.steps) (λ t. run_bounded r₂ l (x.result ∷ vs) x.steps)
  run_bounded (Result.choose at r₁ r₂ r₃) l vs n =
      holds_bind (holds_enter l at n (inr refl)) λ n₁ h.
      holds_bind (run_bounded r₁ l vs n₁) λ x h₁.
      holds_truth at (truth x.result) (inl refl) (run_bounded r₂ l vs x.steps) (run_bounded r₃ l vs x.steps)
  run_bounded (Result.literal at v) l vs n = holds_bind (holds_enter l at n (inr refl)) λ n₁ h. gave h.1
  run_bounded (Result.pack at ps) l vs n =
      holds_bind (holds_enter l at n (inr refl)) λ n₁ h.
      holds_bind (pairs_bounded ps l vs n₁ h.1) λ x h₁. gave h₁

  pairs_bounded
      : (ps : Pairs) (l : Limits) (vs : List Value) (n : ℕ) → n ≤ l.steps → Holds Halt (Bounded l) (run_pairs ps l vs n)
  pairs_bounded no_pairs l vs n h = gave h
  pairs_bounded (pair m r ps) l vs n h =
      holds_bind (run_bounded r l vs n) λ x h₁. holds_bind (pairs_bounded ps l vs x.steps h₁) λ xs h₂. gave h₂

-- "run: step 65,537" is refused: what is given was counted within the limit
pub run_steps_bounded
    : (r : Result) (l : Limits) (v : Value) (x : Ran Value) → run_reader r l v ≡ ok x → x.steps ≤ l.steps
unfolding run_reader
run_steps_bounded r l v x e = holds_of e (run_bounded r l (v ∷ []) 0)

-- running knows no refusal but 12 and 13
pub run_refusals : (r : Result) (l : Limits) (v : Value) (n at : ℕ) → run_reader r l v ≡ refused n at → (n ≡ 12) ⊎ (n ≡ 13)
unfolding run_reader
run_refusals r l v n at e = holds_number (subst (Holds Halt (Bounded l)) e (run_bounded r l (v ∷ []) 0))

-- ---- the names of what a pack gives

-- they are the names of its pairs
pub pairs_named
    : (ps : Pairs) (l : Limits) (vs : List Value) (n : ℕ)
    → Holds any (λ x. (m : Bytes) → has_name m x.result ≡ among_pairs m ps) (run_pairs ps l vs n)
unfolding run gives has_name among_pairs
pairs_named no_pairs l vs n = gave (λ m. refl)
pairs_named (pair k r ps) l vs n =
    holds_bind (holds_any (run r l vs n)) λ x t.
    holds_bind (pairs_named ps l vs x.steps) λ xs h. gave (λ m. ap (λ b. same m k || b) (h m))

-- ---- values with distinct names stay so

-- every binding's value is distinct
abbrev pub Distinct : List Value → Type 0
Distinct vs = (k : ℕ) → distinct (get_or vs k Value.null) ≡ true

pub distinct_none : Distinct []
unfolding distinct
distinct_none k = refl

pub distinct_bind : (v : Value) (vs : List Value) → distinct v ≡ true → Distinct vs → Distinct (v ∷ vs)
distinct_bind v vs h d zero = h
distinct_bind v vs h d (suc k) = d k

members_of_distinct : (v : Value) → distinct v ≡ true → distinct_members (members_of v) ≡ true
unfolding distinct members_of
members_of_distinct Value.null h = refl
members_of_distinct (Value.bool b) h = refl
members_of_distinct (Value.number x) h = refl
members_of_distinct (Value.text t) h = refl
members_of_distinct (Value.list vs) h = refl
members_of_distinct (Value.rec ms) h = h

member_of_distinct : (n : Bytes) (ms : Members) → distinct_members ms ≡ true → distinct (member_of n ms) ≡ true
unfolding distinct member_of
member_of_distinct n no_members h = refl
member_of_distinct n (member m v ms) h =
    let d = and_three (not (has_name m ms)) (distinct v) (distinct_members ms) h in
    go (same n m) d.1 (member_of_distinct n ms d.2)
  where
    go
        : (b : Bool) → distinct v ≡ true → distinct (member_of n ms) ≡ true
        → distinct (elim b [ true ↦ v | false ↦ member_of n ms ]) ≡ true
    go true h₁ h₂ = h₁
    go false h₁ h₂ = h₂

items_of_distinct : (v : Value) → distinct v ≡ true → distinct_items (items_of v) ≡ true
unfolding distinct items_of
items_of_distinct Value.null h = refl
items_of_distinct (Value.bool b) h = refl
items_of_distinct (Value.number x) h = refl
items_of_distinct (Value.text t) h = refl
items_of_distinct (Value.list vs) h = h
items_of_distinct (Value.rec ms) h = refl

-- what came out is distinct
abbrev Fine : Ran Value → Type 0
Fine x = distinct x.result ≡ true

place_distinct : (p : Place) (l : Limits) (vs : List Value) (n : ℕ) → Distinct vs → Holds any Fine (run_place p l vs n)
unfolding run_place gives
place_distinct (Place.it at k) l vs n d = holds_bind (holds_enter l at n tt) λ n₁ h. gave (d k)
place_distinct (Place.field at m p) l vs n d =
    holds_bind (holds_enter l at n tt) λ n₁ h.
    holds_bind (place_distinct p l vs n₁ d) λ x h₁.
    let v = x.result in
    holds_bind (holds_field at m v tt (member_of_distinct m (members_of v) (members_of_distinct v h₁))) λ y h₂.
    gave h₂

items_distinct
    : (body : Value → ℕ → Outcome ℕ (Ran Value)) → ((v : Value) (n : ℕ) → distinct v ≡ true → Holds any Fine (body v n))
    → (vs : Items) (n : ℕ) → distinct_items vs ≡ true → Holds any (λ x. distinct_items x.result ≡ true) (run_items body vs n)
unfolding run_items gives distinct
items_distinct body b no_items n h = gave refl
items_distinct body b (item v vs) n h =
    let d = and_two (distinct v) (distinct_items vs) h in
    holds_bind (b v n d.0) λ x h₁.
    holds_bind (items_distinct body b vs x.steps d.1) λ xs h₂.
    gave (and_intro h₁ h₂)

converted_distinct : (c : Conversion) (v : Value) → distinct v ≡ true → distinct (converted c v) ≡ true
unfolding converted whole_value distinct
converted_distinct to_int Value.null h = refl
converted_distinct to_int (Value.bool b) h = refl
converted_distinct to_int (Value.number x) h = refl
converted_distinct to_int (Value.text t) h = refl
converted_distinct to_int (Value.list vs) h = h
converted_distinct to_int (Value.rec ms) h = h
converted_distinct to_dec v h = h
converted_distinct to_bool v h = h
converted_distinct to_text v h = h

mutual
  unfolding run gives int_value distinct proper

  pub run_keeps_distinct
      : (r : Result) (l : Limits) (vs : List Value) (n : ℕ) → proper r ≡ true → Distinct vs → Holds any Fine (run r l vs n)
  run_keeps_distinct (Result.convert at c p) l vs n q d =
      holds_bind (holds_enter l at n tt) λ n₁ h.
      holds_bind (place_distinct p l vs n₁ d) λ x h₁.
      holds_stuck at (convert_kinds c) x.result tt (gave (converted_distinct c x.result h₁))
  run_keeps_distinct (Result.keep at p) l vs n q d = holds_bind (holds_enter l at n tt) λ n₁ h. place_distinct p l vs n₁ d
  run_keeps_distinct (Result.count at p) l vs n q d =
      holds_bind (holds_enter l at n tt) λ n₁ h.
      holds_bind (place_distinct p l vs n₁ d) λ x h₁.
      holds_stuck at list_kinds x.result tt (gave refl)
  run_keeps_distinct (Result.each at p r) l vs n q d =
      holds_bind (holds_enter l at n tt) λ n₁ h.
      holds_bind (place_distinct p l vs n₁ d) λ x h₁.
      let body : (v : Value) (i : ℕ) → distinct v ≡ true → Holds any Fine (run r l (v ∷ vs) i) =
      λ v i e. run_keeps_distinct r l (v ∷ vs) i q (distinct_bind v vs e d) in
      let items = items_distinct (λ v i. run r l (v ∷ vs) i) body (items_of x.result) x.steps (items_of_distinct x.result h₁) in
      holds_stuck at list_kinds x.result tt (holds_bind items λ xs h₂. gave h₂)
  run_keeps_distinct (Result.when at k p r₁ r₂) l vs n q d =
      let q₁ = and_two (proper r₁) (proper r₂) q in
      holds_bind (holds_enter l at n tt) λ n₁ h.
      holds_bind (place_distinct p l vs n₁ d) λ x h₁.
      let d₁ = distinct_bind x.result vs h₁ d in
      holds_either
      (among (kind_of x.result) (test_kinds k))
      (λ t. run_keeps_distinct r₁ l (x.result ∷ vs) x.steps q₁.0 d₁)
      (λ t. run_keeps_distinct r₂ l (x.result ∷ vs) x.steps q₁.1 d₁)
  run_keeps_distinct (Result.choose at r₁ r₂ r₃) l vs n q d =
      let q₁ = and_three (proper r₁) (proper r₂) (proper r₃) q in
      holds_bind (holds_enter l at n tt) λ n₁ h.
      holds_bind (run_keeps_distinct r₁ l vs n₁ q₁.0 d) λ x h₁.
      holds_truth
      at
      (truth x.result)
      tt
      (run_keeps_distinct r₂ l vs x.steps q₁.1 d)
      (run_keeps_distinct r₃ l vs x.steps q₁.2 d)
  run_keeps_distinct (Result.literal at v) l vs n q d = holds_bind (holds_enter l at n tt) λ n₁ h. gave q
  run_keeps_distinct (Result.pack at ps) l vs n q d =
      holds_bind (holds_enter l at n tt) λ n₁ h.
      holds_bind (pairs_distinct ps l vs n₁ q d) λ x h₁. gave h₁

  pairs_distinct
      : (ps : Pairs) (l : Limits) (vs : List Value) (n : ℕ) → proper_pairs ps ≡ true → Distinct vs
      → Holds any (λ x. distinct_members x.result ≡ true) (run_pairs ps l vs n)
  pairs_distinct no_pairs l vs n q d = gave refl
  pairs_distinct (pair m r ps) l vs n q d =
      let q₁ = and_three (not (among_pairs m ps)) (proper r) (proper_pairs ps) q in
      holds_bind (run_keeps_distinct r l vs n q₁.1 d) λ x h₁.
      holds_bind (holds_both (pairs_distinct ps l vs x.steps q₁.2 d) (pairs_named ps l vs x.steps)) λ xs h₂.
      gave (and_intro (and_intro (ap not (h₂.1 m) ∙ q₁.0) h₁) h₂.0)

pub run_distinct
    : (r : Result) (l : Limits) (v : Value) (x : Ran Value) → distinct v ≡ true → proper r ≡ true → run_reader r l v ≡ ok x
    → distinct x.result ≡ true
unfolding run_reader
run_distinct r l v x d q e = holds_of e (run_keeps_distinct r l (v ∷ []) 0 q (distinct_bind v [] d distinct_none))
