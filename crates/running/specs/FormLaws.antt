-- Laws of running a form, one for each way through it. Assumes nothing.
use Prim.Native.Nat.{ℕ, suc, ◌≤◌, ◌<◌}
use Rattle.std.specs.Prelude.{◌≡◌, Bool, true, false, List, ◌∷◌}
use Rattle.std.proofs.Math.Path.{refl, ap}
use Rattle.std.proofs.Common.{◌∙◌, arith}
use Rattle.std.proofs.Math.Option.{none, some}
use Rattle.definitions.specs.declared.Limits.{Limits}
use Rattle.definitions.specs.Outcome.{Outcome, ok, refused, ◌>>=◌}
use Rattle.definitions.specs.Value.{Value, Items, no_items, item, items_onto, Members, no_members, member, members_onto, count}
use Rattle.definitions.specs.Shape.{Kind, among}
use Rattle.definitions.specs.Admits.{kind_of}
use Rattle.definitions.specs.Bytes.{Bytes}
use Rattle.definitions.specs.Reader.{Place, Conversion, Test, Result, Pairs, no_pairs, pair}
use Rattle.definitions.specs.Checking.{convert_kinds, list_kinds, test_kinds}
use Rattle.definitions.specs.Running.{Ran, gives, stuck_unless, converted, items_of, int_value, truth, run_place, run_items, run, run_pairs}
use Rattle.laws.specs.SoundSteps.{enter_within}
use Rattle.laws.specs.RunRulesKinds.{not_entered}
use Rattle.nodes.specs.Nodes.{kind_code}
use Rattle.forms.specs.Forms.{form_at}
use Rattle.running.specs.Kinds.{wanted}
use Rattle.running.specs.Walk.{operand, follow}

-- ---- outcomes

abbrev Outcomes : Type 0
Outcomes = Outcome ℕ (Ran Value)

-- nothing more is done
gives_all : (o : Outcomes) → o ≡ (o >>= λ x. gives x.result x.steps)
unfolding ◌>>=◌ gives
gives_all (ok x) = refl
gives_all (refused n a) = refl

stuck_then
    : (at : ℕ) (ks : List Kind) (v : Value) (n : ℕ) (f : Ran Value → Outcomes)
    → stuck_unless at ks v (f (record { result = v; steps = n })) ≡ (stuck_unless at ks v (gives v n) >>= f)
unfolding stuck_unless gives ◌>>=◌
stuck_then at ks v n f = go (among (kind_of v) ks)
  where
    go : (b : Bool)
        → elim b [ true ↦ f (record { result = v; steps = n }) | false ↦ refused 12 at ]
        ≡ ◌>>=◌ {P = ℕ} {A = Ran Value} {B = Ran Value} (elim b [ true ↦ ok (record { result = v; steps = n }) | false ↦ refused 12 at ]) f
    go true = refl
    go false = refl

-- stuck, then something more, behind a place
place_stuck
    : (o : Outcomes) (at : ℕ) (ks : List Kind) (f : Ran Value → Outcomes)
    → (o >>= λ x. stuck_unless at ks x.result (f x))
    ≡ ((o >>= λ x. stuck_unless at ks x.result (gives x.result x.steps)) >>= f)
unfolding ◌>>=◌
place_stuck (ok x) at ks f = stuck_then at ks x.result x.steps f
place_stuck (refused n a) at ks f = refl

-- ---- entering a form

pub form_stops : (r : Result) (l : Limits) (env : List Value) (n : ℕ) → l.steps ≤ n → run r l env n ≡ refused 13 (form_at r)
unfolding run form_at ◌>>=◌
form_stops (Result.convert at c p) l env n h = rw (not_entered l at n h) refl
form_stops (Result.keep at p) l env n h = rw (not_entered l at n h) refl
form_stops (Result.count at p) l env n h = rw (not_entered l at n h) refl
form_stops (Result.each at p r) l env n h = rw (not_entered l at n h) refl
form_stops (Result.when at k p r₁ r₂) l env n h = rw (not_entered l at n h) refl
form_stops (Result.choose at r₁ r₂ r₃) l env n h = rw (not_entered l at n h) refl
form_stops (Result.literal at v) l env n h = rw (not_entered l at n h) refl
form_stops (Result.pack at ps) l env n h = rw (not_entered l at n h) refl

-- ---- forms with a place

-- the form has a place
pub data PlacedForm : Result → Place → Type 0 where
  placed_convert : {at : ℕ} {c : Conversion} {q : Place} → PlacedForm (Result.convert at c q) q
  placed_keep : {at : ℕ} {q : Place} → PlacedForm (Result.keep at q) q
  placed_count : {at : ℕ} {q : Place} → PlacedForm (Result.count at q) q
  placed_each : {at : ℕ} {q : Place} {r : Result} → PlacedForm (Result.each at q r) q
  placed_when : {at : ℕ} {k : Test} {q : Place} {r₁ r₂ : Result} → PlacedForm (Result.when at k q r₁ r₂) q

-- what the form does first and then
pub form_split
    : {r : Result} {q : Place} (l : Limits) (env : List Value) (n : ℕ) → PlacedForm r q → n < l.steps
    → run r l env n ≡ (operand r l env (suc n) >>= λ x. follow r l env x.result x.steps)
unfolding run operand follow ◌>>=◌
form_split l env n (placed_convert {at} {c} {q}) h =
    rw (enter_within l at n h) (place_stuck (run_place q l env (suc n)) at (convert_kinds c) (λ x. gives (converted c x.result) x.steps))
form_split l env n (placed_keep {at} {q}) h = rw (enter_within l at n h) (gives_all (run_place q l env (suc n)))
form_split l env n (placed_count {at} {q}) h =
    rw (enter_within l at n h)
    (place_stuck (run_place q l env (suc n)) at list_kinds (λ x. gives (int_value (count (items_of x.result))) x.steps))
form_split l env n (placed_each {at} {q} {r}) h =
    rw (enter_within l at n h)
    (place_stuck (run_place q l env (suc n)) at list_kinds
    (λ x. run_items (λ v n₂. run r l (v ∷ env) n₂) (items_of x.result) x.steps >>= λ xs. gives (Value.list xs.result) xs.steps))
form_split l env n (placed_when {at} {k} {q} {r₁} {r₂}) h = rw (enter_within l at n h) refl

-- the place's value is judged
abbrev pub judged : Result → Outcomes → Outcomes
judged r o = o >>= λ x. elim (wanted r x.result) [ true ↦ gives x.result x.steps | false ↦ refused 12 (form_at r) ]

pub operand_judged : {r : Result} {q : Place} (l : Limits) (env : List Value) (n : ℕ) → PlacedForm r q → operand r l env n ≡ judged r (run_place q l env n)
unfolding operand wanted stuck_unless form_at
operand_judged l env n placed_convert = refl
operand_judged l env n (placed_keep {q}) = gives_all (run_place q l env n)
operand_judged l env n placed_count = refl
operand_judged l env n placed_each = refl
operand_judged l env n (placed_when {q}) = gives_all (run_place q l env n)

pub judged_refused : (r : Result) {o : Outcomes} {k a : ℕ} → o ≡ refused k a → judged r o ≡ refused k a
unfolding ◌>>=◌
judged_refused r e = ap (judged r) e

pub judged_stuck : (r : Result) (v : Value) (n : ℕ) {o : Outcomes} → o ≡ gives v n → wanted r v ≡ false → judged r o ≡ refused 12 (form_at r)
unfolding ◌>>=◌ gives
judged_stuck r v n e f =
    ap (judged r) e ∙ ap (λ (b : Bool). elim b [ true ↦ ok (record { result = v; steps = n }) | false ↦ refused 12 (form_at r) ]) f

pub judged_given : (r : Result) (v : Value) (n : ℕ) {o : Outcomes} → o ≡ gives v n → wanted r v ≡ true → judged r o ≡ gives v n
unfolding ◌>>=◌ gives
judged_given r v n e f =
    ap (judged r) e ∙ ap (λ (b : Bool). elim b [ true ↦ ok (record { result = v; steps = n }) | false ↦ refused 12 (form_at r) ]) f

pub split_refused
    : (r : Result) (l : Limits) (env : List Value) {o : Outcomes} {k a : ℕ} → o ≡ refused k a
    → (o >>= λ x. follow r l env x.result x.steps) ≡ refused k a
unfolding ◌>>=◌
split_refused r l env e = ap (λ (o : Outcomes). o >>= λ x. follow r l env x.result x.steps) e

pub split_given
    : (r : Result) (l : Limits) (env : List Value) (v : Value) (n : ℕ) {o : Outcomes} → o ≡ gives v n
    → (o >>= λ x. follow r l env x.result x.steps) ≡ follow r l env v n
unfolding ◌>>=◌ gives
split_given r l env v n e = ap (λ (o : Outcomes). o >>= λ x. follow r l env x.result x.steps) e

-- ---- `when`

pub when_first
    : (at : ℕ) (k : Test) (q : Place) (r₁ r₂ : Result) (l : Limits) (env : List Value) (v : Value) (n : ℕ)
    → among (kind_of v) (test_kinds k) ≡ true → follow (Result.when at k q r₁ r₂) l env v n ≡ run r₁ l (v ∷ env) n
unfolding follow
when_first at k q r₁ r₂ l env v n e = ap (λ (b : Bool). elim b [ true ↦ run r₁ l (v ∷ env) n | false ↦ run r₂ l (v ∷ env) n ]) e

pub when_second
    : (at : ℕ) (k : Test) (q : Place) (r₁ r₂ : Result) (l : Limits) (env : List Value) (v : Value) (n : ℕ)
    → among (kind_of v) (test_kinds k) ≡ false → follow (Result.when at k q r₁ r₂) l env v n ≡ run r₂ l (v ∷ env) n
unfolding follow
when_second at k q r₁ r₂ l env v n e = ap (λ (b : Bool). elim b [ true ↦ run r₁ l (v ∷ env) n | false ↦ run r₂ l (v ∷ env) n ]) e

-- ---- `if`

-- behind its condition
abbrev pub chosen : (at : ℕ) (r₂ r₃ : Result) → Limits → List Value → Outcomes → Outcomes
chosen at r₂ r₃ l env o =
    o
    >>= λ x.
    elim (truth x.result) [
      | none ↦ refused 12 at
      | some b ↦ elim b [ true ↦ run r₂ l env x.steps | false ↦ run r₃ l env x.steps ]
    ]

pub choose_entered
    : (at : ℕ) (r₁ r₂ r₃ : Result) (l : Limits) (env : List Value) (n : ℕ) → n < l.steps
    → run (Result.choose at r₁ r₂ r₃) l env n ≡ chosen at r₂ r₃ l env (run r₁ l env (suc n))
unfolding run ◌>>=◌
choose_entered at r₁ r₂ r₃ l env n h = rw (enter_within l at n h) refl

module _ (at : ℕ) (r₂ r₃ : Result) (l : Limits) (env : List Value) {o : Outcomes} where
  pub choose_refused : {k a : ℕ} → o ≡ refused k a → chosen at r₂ r₃ l env o ≡ refused k a
  unfolding ◌>>=◌
  choose_refused e = ap (chosen at r₂ r₃ l env) e

  pub choose_yes : (v : Value) (n : ℕ) → o ≡ gives v n → kind_code v ≡ 2 → chosen at r₂ r₃ l env o ≡ run r₂ l env n
  unfolding ◌>>=◌ gives truth kind_code
  choose_yes Value.null n e k = absurd (let z : ⊥ = omega (arith, k) in z)
  choose_yes (Value.bool true) n e k = ap (chosen at r₂ r₃ l env) e
  choose_yes (Value.bool false) n e k = absurd (let z : ⊥ = omega (arith, k) in z)
  choose_yes (Value.number x) n e k = absurd (let z : ⊥ = omega (arith, k) in z)
  choose_yes (Value.text t) n e k = absurd (let z : ⊥ = omega (arith, k) in z)
  choose_yes (Value.list vs) n e k = absurd (let z : ⊥ = omega (arith, k) in z)
  choose_yes (Value.rec ms) n e k = absurd (let z : ⊥ = omega (arith, k) in z)

  pub choose_no : (v : Value) (n : ℕ) → o ≡ gives v n → kind_code v ≡ 1 → chosen at r₂ r₃ l env o ≡ run r₃ l env n
  unfolding ◌>>=◌ gives truth kind_code
  choose_no Value.null n e k = absurd (let z : ⊥ = omega (arith, k) in z)
  choose_no (Value.bool true) n e k = absurd (let z : ⊥ = omega (arith, k) in z)
  choose_no (Value.bool false) n e k = ap (chosen at r₂ r₃ l env) e
  choose_no (Value.number x) n e k = absurd (let z : ⊥ = omega (arith, k) in z)
  choose_no (Value.text t) n e k = absurd (let z : ⊥ = omega (arith, k) in z)
  choose_no (Value.list vs) n e k = absurd (let z : ⊥ = omega (arith, k) in z)
  choose_no (Value.rec ms) n e k = absurd (let z : ⊥ = omega (arith, k) in z)

  pub choose_stuck
      : (v : Value) (n : ℕ) → o ≡ gives v n → (kind_code v ≡ 2 → ⊥) → (kind_code v ≡ 1 → ⊥) → chosen at r₂ r₃ l env o ≡ refused 12 at
  unfolding ◌>>=◌ gives truth kind_code
  choose_stuck Value.null n e f g = ap (chosen at r₂ r₃ l env) e
  choose_stuck (Value.bool true) n e f g = absurd (f refl)
  choose_stuck (Value.bool false) n e f g = absurd (g refl)
  choose_stuck (Value.number x) n e f g = ap (chosen at r₂ r₃ l env) e
  choose_stuck (Value.text t) n e f g = ap (chosen at r₂ r₃ l env) e
  choose_stuck (Value.list vs) n e f g = ap (chosen at r₂ r₃ l env) e
  choose_stuck (Value.rec ms) n e f g = ap (chosen at r₂ r₃ l env) e

-- ---- literals

pub literal_given
    : (at : ℕ) (v : Value) (l : Limits) (env : List Value) (n : ℕ) → n < l.steps → run (Result.literal at v) l env n ≡ gives v (suc n)
unfolding run ◌>>=◌
literal_given at v l env n h = rw (enter_within l at n h) refl

-- ---- `each`: the results made so far, the latest first

abbrev pub items_behind : Items → Outcome ℕ (Ran Items) → Outcomes
items_behind done o = o >>= λ xs. gives (Value.list (items_onto done xs.result)) xs.steps

pub each_begins
    : (at : ℕ) (q : Place) (r : Result) (l : Limits) (env : List Value) (v : Value) (n : ℕ)
    → follow (Result.each at q r) l env v n ≡ items_behind no_items (run_items (λ w n₂. run r l (w ∷ env) n₂) (items_of v) n)
unfolding follow items_onto
each_begins at q r l env v n = refl

module _ (body : Value → ℕ → Outcomes) (v : Value) (vs done : Items) (n : ℕ) where
  pub each_refused : {k a : ℕ} → body v n ≡ refused k a → items_behind done (run_items body (item v vs) n) ≡ refused k a
  unfolding run_items ◌>>=◌
  each_refused e =
      ap (λ (o : Outcomes). items_behind done (o >>= λ x. run_items body vs x.steps >>= λ xs. gives (item x.result xs.result) xs.steps)) e

  pub each_on
      : (w : Value) (m : ℕ) → body v n ≡ gives w m
      → items_behind done (run_items body (item v vs) n) ≡ items_behind (item w done) (run_items body vs m)
  unfolding run_items ◌>>=◌ gives items_onto
  each_on w m e =
      ap (λ (o : Outcomes). items_behind done (o >>= λ x. run_items body vs x.steps >>= λ xs. gives (item x.result xs.result) xs.steps)) e
      ∙ go (run_items body vs m)
    where
      go : (o : Outcome ℕ (Ran Items))
          → items_behind done (o >>= λ xs. ok (record { result = item w xs.result; steps = xs.steps })) ≡ items_behind (item w done) o
      go (ok x) = refl
      go (refused k a) = refl

pub each_ends
    : (body : Value → ℕ → Outcomes) (done : Items) (n : ℕ) → items_behind done (run_items body no_items n) ≡ gives (Value.list (items_onto done no_items)) n
unfolding run_items ◌>>=◌ gives
each_ends body done n = refl

-- ---- `pack`, in the same way

abbrev pub members_behind : Members → Outcome ℕ (Ran Members) → Outcomes
members_behind done o = o >>= λ xs. gives (Value.rec (members_onto done xs.result)) xs.steps

pub pack_entered
    : (at : ℕ) (ps : Pairs) (l : Limits) (env : List Value) (n : ℕ) → n < l.steps
    → run (Result.pack at ps) l env n ≡ members_behind no_members (run_pairs ps l env (suc n))
unfolding run ◌>>=◌ members_onto
pack_entered at ps l env n h = rw (enter_within l at n h) refl

module _ (name : Bytes) (r : Result) (ps : Pairs) (l : Limits) (env : List Value) (done : Members) (n : ℕ) where
  pub pack_refused : {k a : ℕ} → run r l env n ≡ refused k a → members_behind done (run_pairs (pair name r ps) l env n) ≡ refused k a
  unfolding run ◌>>=◌
  pack_refused e =
      ap (λ (o : Outcomes). members_behind done (o >>= λ x. run_pairs ps l env x.steps >>= λ xs. gives (member name x.result xs.result) xs.steps)) e

  pub pack_on
      : (w : Value) (m : ℕ) → run r l env n ≡ gives w m
      → members_behind done (run_pairs (pair name r ps) l env n) ≡ members_behind (member name w done) (run_pairs ps l env m)
  unfolding run ◌>>=◌ gives members_onto
  pack_on w m e =
      ap (λ (o : Outcomes). members_behind done (o >>= λ x. run_pairs ps l env x.steps >>= λ xs. gives (member name x.result xs.result) xs.steps)) e
      ∙ go (run_pairs ps l env m)
    where
      go : (o : Outcome ℕ (Ran Members))
          → members_behind done (o >>= λ xs. ok (record { result = member name w xs.result; steps = xs.steps })) ≡ members_behind (member name w done) o
      go (ok x) = refl
      go (refused k a) = refl

pub pack_ends
    : (l : Limits) (env : List Value) (done : Members) (n : ℕ)
    → members_behind done (run_pairs no_pairs l env n) ≡ gives (Value.rec (members_onto done no_members)) n
unfolding run ◌>>=◌ gives
pack_ends l env done n = refl
